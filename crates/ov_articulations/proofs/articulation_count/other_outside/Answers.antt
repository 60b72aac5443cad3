use Rattle.std.proofs.Common.{◌∙◌, ap, inl, inr, not, subst, sym}
use Rattle.std.proofs.lemmas.Bool.{both_ways, eq-eqb, eqb-true, false≢true}
use Rattle.ov_ids.specs.Members.{Has}
use Rattle.ov_articulations.proofs.Counting.{any_default, has_at, taken_all, taken_more, turned}
use Rattle.ov_articulations.proofs.articulation_count.other_outside.Goals as goal
use Rattle.ov_articulations.proofs.articulation_count.other_outside.Goals.{else-ne-via-then-ne+else-not-is_member}
use Rattle.ov_articulations.proofs.articulation_count.other_outside.Goals.{else-ne-via-else-ne}

pub returns-then-not-is_member-clause-some : goal.returns-then-not-is_member-clause-some
returns-then-not-is_member-clause-some c = (
  has_at c.args.component.now c.loop-other.other-index c.other-item.result c.loop-other-test.true c.other-item.is,
  λ same. false≢true (sym (c.if-ne.ensures ∙ ap not (eq-eqb c.other-item.result c.args.node same))),
  λ has. both_ways c.is_member.result c.if-not-is_member.true (c.is_member.ensures.member.1 has),
)

pub loop-other-preserved : goal.loop-other-preserved
loop-other-preserved c x h differ =
    let xs = c.args.component.now in
    let k = c.loop-other.other-index in
    elim (taken_more xs k x h) [
      | inl before ↦ c.loop-other.invariant x before differ
      | inr same ↦
          let is = c.other-item.is ∙ any_default xs k c.other-item.result 0 c.loop-other-test.true ∙ same in
          elim c.else-ne.branch [
            | else-ne-via-then-ne+else-not-is_member w ↦
                subst (Has c.args.part.now) is (w.is_member.ensures.member.0 w.if-not-is_member.false)
            | else-ne-via-else-ne w ↦
                absurd (differ (sym is ∙ eqb-true c.other-item.result c.args.node
                (turned _ (sym c.ne.ensures ∙ w.if-ne.false))))
          ]
    ]

pub returns-clause-none : goal.returns-clause-none
returns-clause-none c x h differ =
    c.loop-other.invariant x (taken_all c.args.component.now c.loop-other.other-index x c.loop-other-test.false h) differ
