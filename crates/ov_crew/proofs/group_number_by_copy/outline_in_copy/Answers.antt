-- The number of the copy is that of the group, and a cut of the copy has so many nodes.
use Rattle.std.proofs.Common.{ℕ, List, sym, subst}
use Rattle.ov_graph.specs.Links.{AreAllLinked}
use Rattle.ov_cert.specs.Theorems.{IsTrueForGroup}
use Rattle.ov_crew.proofs.ByCopy.{copied_apart, copied_number}
use Rattle.ov_crew.proofs.group_number_by_copy.outline_in_copy.Goals.{In_ok-ids}
use Rattle.ov_crew.proofs.group_number_by_copy.outline_in_copy.Goals as goal

-- two members of the copy are not linked
apart : (g : _) (c : In_ok-ids g) → ¬ AreAllLinked c.args.copy.now.graph c.in_ok-ids.ids.items
apart g c =
    let e = c.in_ok-ids.ensures in
    copied_apart c.args.graph.now c.args.group.now c.args.copy.now.graph c.in_ok-ids.ids.items c.nodes.ensures.graph
    c.requires.group e.group e.alike c.requires.apart

pub new-begun-requires-clause-apart : goal.new-begun-requires-clause-apart
new-begun-requires-clause-apart g c =
    subst (λ (r : List ℕ). ¬ AreAllLinked c.args.copy.now.graph r) (sym c.as_slice-members.ensures.value)
    (apart g (goal.at.new-begun-requires-clause-apart g c).In_ok-ids)

pub returns : goal.returns
returns g c =
    let h = c.args.copy.now.graph in
    let r = c.in_ok-ids.ids.items in
    let outline = c.in_ok-outline_of_search.field-0 in
    record {
      number = copied_number c.args.graph.now c.args.group.now h r outline c.requires.group c.in_ok-ids.ensures.alike
          (apart g (goal.at.returns g c).In_ok-ids)
          (subst (λ (x : List ℕ). IsTrueForGroup h x outline) c.as_slice-members.ensures.value
          c.in_ok-outline_of_search.ensures.fewest);
    }
