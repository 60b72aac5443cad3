use Rattle.ov_even.proofs.EvenTest.Answering.{one_answer}
use Rattle.ov_even.proofs.even_test_theorems.one_answer.Goals as goal

pub returns : goal.returns
returns c = one_answer
