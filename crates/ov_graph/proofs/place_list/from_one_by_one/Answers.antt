-- The first place that is reached, and all behind it.
use Rattle.std.proofs.Common.{List, ℕ, sym, subst}
use Rattle.ov_ids.specs.Members.{Ascends}
use Rattle.ov_graph.specs.Code.Listed.{AreFrom}
use Rattle.ov_graph.proofs.PlaceLists.Seeking.{from_all}
use Rattle.ov_graph.proofs.place_list.from_one_by_one.Goals as goal

pub returns-then-first-after : goal.returns-then-first-after
returns-then-first-after c =
    let e = c.in-Some.ensures.cases.0 in
    c.loop-first.invariant.left c.loop-first.left.now
    (subst (λ (ys : List ℕ). AreFrom ys c.args.after ys) (sym e)
    (from_all c.args.after c.in-Some.first.now c.in-Some.rest.now
    (subst Ascends e c.loop-first.invariant.ascend) c.if-first-after.true))
