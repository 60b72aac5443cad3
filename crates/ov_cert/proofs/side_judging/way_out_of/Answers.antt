-- The function goes over the same neighbours as the loop.
use Rattle.std.proofs.Common.{◌≡◌, ◌∙◌, Bool, false, ◌||◌, cond, Option, Some, refl, sym, ap}
use Rattle.ov_ids.specs.Sets.{has}
use Rattle.ov_graph.proofs.EvenTest.Filtered.{neighbours_one}
use Rattle.ov_cert.specs.declared.flaw_types_apart_from_paths.SideFlaw.{SideFlaw}
use Rattle.ov_cert.specs.declared.flaw_types_apart_from_paths.SideFlaw.TheVariants.{WayOut}
use Rattle.ov_cert.specs.Code.FrameFlaws.{way_out_of}
use Rattle.ov_cert.proofs.side_judging.way_out_of.Goals as goal

neither : (p q : Bool) (later : Option SideFlaw) (f : SideFlaw) → p ≡ false → q ≡ false
    → cond (p || q) later (Some f) ≡ Some f
neither p q later f hp hq = rw (hp, hq) refl

pub returns-then-not-has-2 : goal.returns-then-not-has-2
returns-then-not-has-2 c =
    let g = c.args.graph.now in
    let side = c.args.side.now.members in
    let cut = c.args.cut.now.members in
    let a = c.args.id in
    let b = c.in-Some.other in
    let e = neighbours_one g a c.neighbours-other-items.result c.neighbours-other-items.ensures.graph
    c.neighbours-other-items.ensures.neighbours in
    let first : way_out_of side cut a c.loop-other.other-iterator ≡ Some (WayOut a b) =
    ap (way_out_of side cut a) c.in-Some.ensures.steps
    ∙ neither (has side b) (has cut b) (way_out_of side cut a c.next.new.self) (WayOut a b)
    (sym c.has.ensures ∙ c.if-not-has.true) (sym c.has-then-not-has.ensures ∙ c.if-not-has-2.true) in
    sym first ∙ c.loop-other.invariant
    ∙ ap (way_out_of side cut a) (c.into_iter-other-iterator.ensures.into_iter_gives ∙ e)

pub returns : goal.returns
returns c =
    let side = c.args.side.now.members in
    let cut = c.args.cut.now.members in
    let a = c.args.id in
    let e = neighbours_one c.args.graph.now a c.neighbours-other-items.result c.neighbours-other-items.ensures.graph
    c.neighbours-other-items.ensures.neighbours in
    sym (ap (way_out_of side cut a) c.in-None.ensures.steps.0) ∙ c.loop-other.invariant
    ∙ ap (way_out_of side cut a) (c.into_iter-other-iterator.ensures.into_iter_gives ∙ e)
