-- What is left does not depend on the order of those that are gone.
use Rattle.std.proofs.Common.{◌↔◌, ◌∙◌, ℕ, List, subst, sym}
use Rattle.ov_ids.specs.Members.{Has}
use Rattle.ov_answers.proofs.Left.{same_left}
use Rattle.ov_answers.proofs.graph_without_nodes.ids_without.Goals as goal

pub returns : goal.returns
returns c =
    let ordered = c.deref.result.now in
    let same : (x : ℕ) → Has ordered x ↔ Has c.args.gone.now x = λ x.
    subst (λ (xs : List ℕ). Has xs x ↔ Has c.args.gone.now x) (sym c.deref.ensures.value)
    (c.in_ok-gone.ensures.same x) in
    c.in_ok-left.ensures ∙ same_left ordered c.args.gone.now c.args.ids.now same
