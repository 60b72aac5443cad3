use Rattle.ov_graph.proofs.EvenTest.Sufficing.{one_number}
use Rattle.ov_graph.proofs.even_test_and_unique_number.one_number.Goals as goal

pub returns : goal.returns
returns c = one_number
