-- There is no first unlinked pair exactly if all members are linked.
use Rattle.std.proofs.Common.{◌≡◌, ◌∙◌, ◌↔◌, Bool, true, false, not, IsTrue, is_none, refl, sym, ap, subst}
use Rattle.ov_graph.specs.Links.{AreAllLinked}
use Rattle.ov_cert.proofs.Validity.Parting.{all_linked_tested}
use Rattle.ov_cert.proofs.linked_members.are_all_linked.Goals as goal

turned : (a b : Bool) → a ≡ not b → not a ≡ b
turned a true e = rw e refl
turned a false e = rw e refl

pub returns : goal.returns
returns c =
    let g = c.args.graph.now in
    let q = c.args.group.now in
    subst (λ (b : Bool). IsTrue b ↔ AreAllLinked g q)
    (sym (ap is_none c.unlinked_members.ensures) ∙ turned _ _ c.is_none.ensures) (all_linked_tested g q c.requires)
