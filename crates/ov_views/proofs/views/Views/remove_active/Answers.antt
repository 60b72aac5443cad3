use Rattle.ov_views.proofs.Keeping.{AreViews-without_active}
use Rattle.ov_views.proofs.views.Views.remove_active.Goals as goal

pub invariant_of-self : goal.invariant_of-self
invariant_of-self c = rw c.take.ensures.value (AreViews-without_active _ _ c.self.invariant)
