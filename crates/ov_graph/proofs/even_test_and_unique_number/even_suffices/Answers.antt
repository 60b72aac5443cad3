use Rattle.ov_graph.proofs.EvenTest.Sufficing.{even_suffices}
use Rattle.ov_graph.proofs.even_test_and_unique_number.even_suffices.Goals as goal

pub returns : goal.returns
returns c = even_suffices
