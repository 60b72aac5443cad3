-- The path ends within the ids.
use Rattle.std.proofs.Common.{List, ℕ, length, subst}
use Rattle.ov_lists.specs.Code.Cut.{AreEnds}
use Rattle.ov_lists.proofs.Cutting.{start_below}
use Rattle.ov_lists.proofs.path_iter.PathIterIterator.next.Goals as goal

pub id_range-path-requires-clause-end : goal.id_range-path-requires-clause-end
id_range-path-requires-clause-end c =
    let ids = c.self.inside.ids.now in
    let a = subst (λ (es : List ℕ). AreEnds c.self.inside.start es (length ids)) c.in_ok-end.ensures
    c.self.invariant in
    start_below c.in_ok-end.end c.next_end.new.self (length ids) a.1
