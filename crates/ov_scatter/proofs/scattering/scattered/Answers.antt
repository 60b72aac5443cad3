-- The copy is the graph, renamed.
use Rattle.std.proofs.Common.{◌∙◌, ℕ, List, ap, length, subst}
use Rattle.ov_scatter.specs.Code.Keys.{AreIdsOf}
use Rattle.ov_scatter.proofs.Copied.{copy_has_group, copy_has_new_ids, copy_is_graph, few_nodes, group_is_renamed}
use Rattle.ov_scatter.proofs.Copied.{made_by}
use Rattle.ov_scatter.proofs.Matched.{keeps_number}
use Rattle.ov_scatter.proofs.scattering.scattered.Goals as goal

pub graph_of-requires-clause-graph : goal.graph_of-requires-clause-graph
graph_of-requires-clause-graph c =
    let nodes = c.nodes.ensures in
    let made = made_by c.args.graph.now c.deref.result.now c.in_ok-order.order.items c.deref-2.result.now
    c.in_ok-keys.keys.items c.deref-4.result.now c.in_ok-nodes.nodes.items c.put_in_order.new.ids.items
    c.in_ok-links.links.items nodes.graph nodes.within (ap length c.deref.ensures.value ∙ c.in_ok-turns.ensures)
    c.in_ok-order.ensures c.deref-2.ensures.value c.in_ok-keys.ensures c.deref-4.ensures.value c.in_ok-links.ensures
    (c.in_ok-nodes.ensures.items ∙ c.deref-5.ensures.value) c.put_in_order.ensures.ascend c.put_in_order.ensures.each in
    rw (c.deref-6.ensures.value, c.deref-7.ensures.value)
    (copy_is_graph c.args.graph.now c.in_ok-keys.keys.items c.put_in_order.new.ids.items c.in_ok-links.links.items made)

pub graph_of-requires-clause-few : goal.graph_of-requires-clause-few
graph_of-requires-clause-few c =
    let nodes = c.nodes.ensures in
    let made = made_by c.args.graph.now c.deref.result.now c.in_ok-order.order.items c.deref-2.result.now
    c.in_ok-keys.keys.items c.deref-4.result.now c.in_ok-nodes.nodes.items c.put_in_order.new.ids.items
    c.in_ok-links.links.items nodes.graph nodes.within (ap length c.deref.ensures.value ∙ c.in_ok-turns.ensures)
    c.in_ok-order.ensures c.deref-2.ensures.value c.in_ok-keys.ensures c.deref-4.ensures.value c.in_ok-links.ensures
    (c.in_ok-nodes.ensures.items ∙ c.deref-5.ensures.value) c.put_in_order.ensures.ascend c.put_in_order.ensures.each in
    rw c.deref-6.ensures.value
    (few_nodes c.args.graph.now c.in_ok-keys.keys.items c.put_in_order.new.ids.items c.in_ok-links.links.items made)

pub returns-clause-keys : goal.returns-clause-keys
returns-clause-keys c =
    let nodes = c.nodes.ensures in
    let made = made_by c.args.graph.now c.deref.result.now c.in_ok-order.order.items c.deref-2.result.now
    c.in_ok-keys.keys.items c.deref-4.result.now c.in_ok-nodes.nodes.items c.put_in_order.new.ids.items
    c.in_ok-links.links.items nodes.graph nodes.within (ap length c.deref.ensures.value ∙ c.in_ok-turns.ensures)
    c.in_ok-order.ensures c.deref-2.ensures.value c.in_ok-keys.ensures c.deref-4.ensures.value c.in_ok-links.ensures
    (c.in_ok-nodes.ensures.items ∙ c.deref-5.ensures.value) c.put_in_order.ensures.ascend c.put_in_order.ensures.each in
    rw (c.in_ok-copy.ensures, c.deref-6.ensures.value, c.deref-7.ensures.value)
    (copy_has_new_ids c.args.graph.now c.in_ok-keys.keys.items c.put_in_order.new.ids.items c.in_ok-links.links.items
    made)

pub returns-clause-renamed : goal.returns-clause-renamed
returns-clause-renamed c =
    let g = c.args.graph.now in
    let q = c.args.group.now in
    let r = c.in_ok-members.members.items in
    let ids = subst (λ (keys : List ℕ). AreIdsOf g keys q r) c.deref-8.ensures.value c.in_ok-members.ensures in
    group_is_renamed g q c.in_ok-keys.keys.items c.in_ok-copy.copy r c.nodes.ensures.graph (returns-clause-keys c) ids

pub returns-clause-group : goal.returns-clause-group
returns-clause-group c =
    let g = c.args.graph.now in
    let q = c.args.group.now in
    let r = c.in_ok-members.members.items in
    let ids = subst (λ (keys : List ℕ). AreIdsOf g keys q r) c.deref-8.ensures.value c.in_ok-members.ensures in
    copy_has_group g q c.in_ok-keys.keys.items c.in_ok-copy.copy r c.nodes.ensures.graph (returns-clause-keys c)
    c.requires.group ids

pub returns-clause-alike : goal.returns-clause-alike
returns-clause-alike c =
    keeps_number c.args.graph.now c.args.group.now c.in_ok-copy.copy c.in_ok-members.members.items c.requires.group
    (returns-clause-renamed c)
