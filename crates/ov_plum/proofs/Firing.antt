-- A timer that fires where there is no note of its id.
use Rattle.std.proofs.Common.{◌≡◌, [], ◌∷◌, None, sym, ap, subst, ◌∙◌, arith, vec_len}
use Rattle.std.specs.Prelude.{IsTrue, MatchOption}
use Rattle.std.specs.FinSet as set
use Rattle.ov_ids.specs.declared.id.MsgId.{MsgId}
use Rattle.ov_wire.specs.Messages.{AreSendsInRange, say}
use Rattle.ov_wire.specs.declared.message.Body.TheVariants.{Graft}
use Rattle.ov_plum.specs.Notes.{oldest, without_oldest}
use Rattle.ov_plum.specs.PlumChange.{IsPlumPlan, plum_after}
use Rattle.ov_plum.specs.PlumRows.{fires}
use Rattle.ov_plum.specs.PlumState.{PlumState, makes_eager}
use Rattle.ov_plum.specs.declared.plum_change.PlumChange.TheVariants.{Clears}
use Rattle.ov_plum.specs.declared.plum_change.PlumPlan.{PlumPlan}
use Rattle.ov_plum.proofs.InOrder.{none_cleared}

-- a quiet plan that clears the id is one for that timer
pub stops : (t : PlumState) (id : MsgId) (plan : PlumPlan)
    → IsTrue (set.contains t.running id) → oldest id t.notes ≡ None → plan.plum_change ≡ Clears id
    → plan.spread.sends.items ≡ [] → plan.spread.delivered ≡ None → vec_len plan.spread.sends ≡ 0
    → IsPlumPlan t (fires id) plan
stops t id plan runs none change sends delivered len = (
  (
    runs,
    delivered,
    subst
        (λ o. MatchOption o
        ((plum_after t plan.plum_change ≡ record t { running = set.remove t.running id })
        × (plan.spread.sends.items ≡ []))
        (λ s. (plum_after t plan.plum_change
        ≡ record t { branches = makes_eager s t.branches; notes = without_oldest id t.notes })
        × (plan.spread.sends.items ≡ (s, say t.me (Graft id)) ∷ [])))
        (sym none) (
          ap (plum_after t) change
              ∙ ap (λ ns. record t { notes = ns; running = set.remove t.running id }) (none_cleared id t.notes none),
          sends,
        ),
  ),
  subst AreSendsInRange (sym sends) tt,
  omega (arith, len),
)
