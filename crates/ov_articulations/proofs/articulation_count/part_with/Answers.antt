use Rattle.std.proofs.Common.{List, arith, inl, inr, subst, ℕ}
use Rattle.std.proofs.lemmas.Bool.{both_ways, cases_eq}
use Rattle.std.proofs.lemmas.Option.{slice_get_within}
use Rattle.ov_ids.specs.Members.{Has}
use Rattle.ov_articulations.proofs.Largest.{has_got, one_item, place_got}
use Rattle.ov_articulations.proofs.articulation_count.part_with.Goals as goal

pub is_member-requires : goal.is_member-requires
is_member-requires c =
    c.requires.ascend c.component_at-part.result.now
    (has_got c.args.parts.now c.loop-place.place c.component_at-part.result.now c.component_at-part.ensures)

pub returns-then-is_member-clause-part : goal.returns-then-is_member-clause-part
returns-then-is_member-clause-part c =
    has_got c.args.parts.now c.loop-place.place c.component_at-part.result.now c.component_at-part.ensures

pub loop-place-preserved : goal.loop-place-preserved
loop-place-preserved c j p before at h = elim (cases_eq j c.loop-place.place) [
  | inl e ↦
      let same = one_item c.args.parts.now j c.loop-place.place p c.component_at-part.result.now e at
      c.component_at-part.ensures in
      both_ways c.is_member.result c.if-is_member.false
      (c.is_member.ensures.member.1 (subst (λ (q : List ℕ). Has q c.args.node) same h))
  | inr ne ↦ c.loop-place.invariant j p (omega (arith, before, ne)) at h
]

pub unreachable-requires : goal.unreachable-requires
unreachable-requires c =
    let (p, among, has) = c.requires.there in
    let (j, at) = place_got c.args.parts.now p among in
    let less = slice_get_within c.args.parts.now j p at in
    let past = c.loop-place-test.false in
    let end = c.len-place-end.ensures in
    c.loop-place.invariant j p (omega (arith, less, past, end)) at has
