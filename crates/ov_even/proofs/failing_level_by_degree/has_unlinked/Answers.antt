-- The other member differs, and is not linked.
use Rattle.std.proofs.Common.{◌∙◌, nat_eq, not, sym, ap, subst}
use Rattle.std.proofs.lemmas.Bool.{both_ways, eq-eqb}
use Rattle.ov_ids.specs.Members.{Has}
use Rattle.ov_ids.proofs.Members.{has_place}
use Rattle.ov_even.proofs.failing_level_by_degree.has_unlinked.Goals as goal

pub returns-then-not-linked : goal.returns-then-not-linked
returns-then-not-linked c e =
    let q = c.args.group.now in
    let other = c.other-item.result in (
      other,
      subst (Has q) (sym c.other-item.is) (has_place q c.loop-other.other-index other c.loop-other-test.true),
      λ same.
          both_ways (not (nat_eq other c.args.member)) (ap not (eq-eqb other c.args.member (sym same)))
          (sym c.ne.ensures ∙ c.if-ne.true),
      λ l. both_ways c.linked.result c.if-not-linked.true (c.linked.ensures.linked.1 l),
    )
