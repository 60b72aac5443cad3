use Rattle.ov_views.proofs.Keeping.{AreViews-without_passive}
use Rattle.ov_views.proofs.views.Views.forget.Goals as goal

pub invariant_of-self : goal.invariant_of-self
invariant_of-self c = rw c.remove.ensures.value (AreViews-without_passive _ _ c.self.invariant)
