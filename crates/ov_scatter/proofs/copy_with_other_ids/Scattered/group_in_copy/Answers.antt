-- The group is renamed by the ids of the copy.
use Rattle.std.proofs.Common.{List, ℕ, subst}
use Rattle.ov_scatter.specs.Code.Keys.{AreIdsOf}
use Rattle.ov_scatter.proofs.Copied.{copy_has_group, group_is_renamed}
use Rattle.ov_scatter.proofs.Matched.{keeps_number}
use Rattle.ov_scatter.proofs.copy_with_other_ids.Scattered.group_in_copy.Goals as goal

pub returns-clause-group : goal.returns-clause-group
returns-clause-group c =
    let g = c.args.graph.now in
    let q = c.args.group.now in
    let r = c.in_ok-ids_of_group.field-0.items in
    let ids = subst (λ (keys : List ℕ). AreIdsOf g keys q r) c.deref.ensures.value c.in_ok-ids_of_group.ensures in
    copy_has_group g q c.args.self.now.keys.items c.args.self.now.graph r c.nodes.ensures.graph c.requires.keys
    c.requires.group ids

pub returns-clause-alike : goal.returns-clause-alike
returns-clause-alike c =
    let g = c.args.graph.now in
    let h = c.args.self.now.graph in
    let q = c.args.group.now in
    let r = c.in_ok-ids_of_group.field-0.items in
    let ids = subst (λ (keys : List ℕ). AreIdsOf g keys q r) c.deref.ensures.value c.in_ok-ids_of_group.ensures in
    keeps_number g q h r c.requires.group
    (group_is_renamed g q c.args.self.now.keys.items h r c.nodes.ensures.graph c.requires.keys ids)
