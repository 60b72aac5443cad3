use Rattle.std.proofs.Common.{inl, inr}
use Rattle.ov_even.proofs.EvenTest.Cutting.{good_or_cut}
use Rattle.ov_even.proofs.even_test_theorems.good_or_cut.Goals as goal

pub returns : goal.returns
returns c = λ g q p graph group at. elim (good_or_cut g q p graph group at) [
  | inl good ↦ inl good
  | inr cut ↦ inr (cut.0, cut.1.nearest, cut.1.few)
]
