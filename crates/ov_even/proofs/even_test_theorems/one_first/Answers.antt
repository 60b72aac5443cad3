use Rattle.ov_even.proofs.EvenTest.Firsts.{one_first}
use Rattle.ov_even.proofs.even_test_theorems.one_first.Goals as goal

pub returns : goal.returns
returns c = one_first
