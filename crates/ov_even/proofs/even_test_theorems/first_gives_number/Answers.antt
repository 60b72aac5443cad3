use Rattle.ov_even.proofs.EvenTest.Firsts.{first_gives_number}
use Rattle.ov_even.proofs.even_test_theorems.first_gives_number.Goals as goal

pub returns : goal.returns
returns c = first_gives_number
