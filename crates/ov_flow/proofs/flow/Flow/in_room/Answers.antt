-- The room is for as many places as the net has.
use Rattle.std.proofs.Common.{◌∙◌, ℕ, subst}
use Rattle.ov_flow.specs.Code.Held.{IsFreshRoom}
use Rattle.ov_flow.proofs.flow.Flow.in_room.Goals as goal

pub invariant_of-result : goal.invariant_of-result
invariant_of-result g c =
    let fresh = subst (λ (wide : ℕ). IsFreshRoom wide c.room.inside.work) (c.room.view_is ∙ c.requires)
    c.room.invariant in (
      c.places.ensures.net,
      record { placed = c.places.ensures.placed; room = c.places.ensures.room },
      c.work_in.ensures.work c.args.net fresh,
    )
