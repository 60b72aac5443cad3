use Rattle.std.proofs.Common.{ap, ◌∙◌, sym}
use Rattle.ov_hall.proofs.Counting.{joins}
use Rattle.ov_hall.proofs.driver_passes.Stand.join.Goals as goal

pub join_seat-requires : goal.join_seat-requires
join_seat-requires g c = (
  c.self.invariant.0 ∙ sym c.requires.count.0,
  c.other.invariant.0
      ∙ sym c.requires.count.0,
  ap (λ m. m.1) c.other.invariant.1,
  c.requires.count.1,
  joins _ _ _ _,
)
