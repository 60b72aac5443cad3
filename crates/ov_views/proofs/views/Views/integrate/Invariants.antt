use Rattle.std.proofs.Common.{◌≤◌, ◌+◌, length, drop}
use Rattle.ov_words.specs.Pick.{Suffice}
use Rattle.ov_views.specs.ViewsState.{ViewsState}
use Rattle.ov_views.specs.Sampling.{Integrates}
use Rattle.ov_views.proofs.Integrating.{Integrating}
use Rattle.ov_views.proofs.views.Views.integrate.Given as goal

abbrev pub invariant-loop-id : goal.invariant-loop-id
invariant-loop-id l =
    Integrating l.fn.self l.fn.ids l.fn.sent l.fn.draws l.self (drop l.id-index l.ids) l.left l.draws
    × (length l.fn.draws ≤ length l.draws + l.id-index)
    × Suffice l.draws (λ cs. (w : ViewsState) × Integrates l.self (drop l.id-index l.ids) l.left cs w)
    × (1 ≤ l.self.params.passive)
