-- One name more, and all names.
use Rattle.std.proofs.Common.{refl, subst, length, ap, arith, inl, inr}
use Rattle.std.proofs.lemmas.Bool.{both_ways, cases_eq}
use Rattle.ov_graph.specs.Links.{LinkGraph}
use Rattle.ov_graphfile.specs.Code.Owners.{IsNumeralAt}
use Rattle.ov_graphfile.proofs.Meanings.{numeral_here, no_numeral}
use Rattle.ov_graphfile.proofs.group_from_names_or_ids.has_numeral_name.Goals as goal

pub returns-then-is_numeral_at : goal.returns-then-is_numeral_at
returns-then-is_numeral_at c =
    let nodes = ap length c.nodes-count.ensures.nodes in
    let same = ap (λ (h : LinkGraph). length h.nodes) c.graph.ensures in
    let within = c.loop-place-test.true in (
      (λ t. numeral_here c.args.names.now c.loop-place.place (omega (arith, nodes, same, within))
          (c.is_numeral_at.ensures.0 c.if-is_numeral_at.true)),
      (λ h. refl),
    )

pub loop-place-preserved : goal.loop-place-preserved
loop-place-preserved c = λ q l h. elim (cases_eq q c.loop-place.place) [
  | inl e ↦ both_ways c.is_numeral_at.result c.if-is_numeral_at.false
      (c.is_numeral_at.ensures.1 (subst (IsNumeralAt c.args.names.now) e h))
  | inr ne ↦ c.loop-place.invariant q (omega (arith, l, ne)) h
]

pub returns : goal.returns
returns c =
    let nodes = ap length c.nodes-count.ensures.nodes in
    let same = ap (λ (h : LinkGraph). length h.nodes) c.graph.ensures in
    let ended = c.loop-place-test.false in (
      (λ t. absurd (cc)),
      (λ h. absurd (no_numeral c.args.names.now c.loop-place.place (omega (arith, nodes, same, ended))
          c.loop-place.invariant h)),
    )
