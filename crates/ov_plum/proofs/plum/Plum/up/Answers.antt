use Rattle.std.proofs.Common.{length, ◌+◌, ◌<◌, sym, subst}
use Rattle.ov_plum.specs.PlumState.{PlumState, most_neighbours}
use Rattle.ov_plum.proofs.Branching.{comes_up}
use Rattle.ov_plum.proofs.plum.Plum.up.Goals as goal

pub invariant_of-self : goal.invariant_of-self
invariant_of-self c =
    let room = subst (λ (t : PlumState). length t.branches.eager + length t.branches.lazy < most_neighbours)
    (sym c.self.view_is) c.requires in
    record {
      branches = rw c.up.ensures (comes_up _ _ c.self.invariant.branches room);
      notes = c.self.invariant.notes;
      made = c.self.invariant.made;
    }
