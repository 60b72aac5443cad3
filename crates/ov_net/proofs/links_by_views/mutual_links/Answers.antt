-- One live node more.
use Rattle.std.proofs.Common.{◌≡◌, ◌↔◌, [], List, ℕ, take, arith, sym, subst}
use Rattle.std.proofs.lemmas.Grind.{common_steps}
use Rattle.ov_ids.specs.Members.{Has}
use Rattle.ov_net.specs.Code.WorldGraph.{IsUpward}
use Rattle.ov_net.proofs.Links.Scanned.{LinksSoFar, links_begun, links_below, links_more}
use Rattle.ov_net.proofs.links_by_views.mutual_links.Goals as goal

pub loop-node-init : goal.loop-node-init
loop-node-init c =
    subst (λ (ls : List (ℕ × ℕ)). LinksSoFar c.args.nodes.now [] ls) (sym c.new-links.ensures.items)
    (links_begun c.args.nodes.now)

pub add_links-requires-clause-ascend : goal.add_links-requires-clause-ascend
add_links-requires-clause-ascend c = c.loop-node.invariant.ascend

pub add_links-requires-clause-below : goal.add_links-requires-clause-below
add_links-requires-clause-below c =
    links_below c.args.nodes.now c.args.live.now c.loop-node.node-index c.node-item.result c.loop-node.links.items
    c.requires c.loop-node-test.true c.node-item.is c.loop-node.invariant

pub loop-node-preserved : goal.loop-node-preserved
loop-node-preserved c =
    links_more c.args.nodes.now c.args.live.now c.loop-node.node-index c.node-item.result c.loop-node.links.items
    c.add_links.new.links.items c.loop-node-test.true c.node-item.is c.loop-node.invariant
    c.in_ok-add_links.ensures.ascend c.in_ok-add_links.ensures.each

pub returns-clause-each : goal.returns-clause-each
returns-clause-each c =
    let live = c.args.live.now in
    let i = c.loop-node.node-index in
    let all : take i live ≡ live = grind (arith, common_steps) in
    subst (λ (seen : List ℕ). (l : ℕ × ℕ)
    → Has c.loop-node.links.items l ↔ (Has seen l.0 × IsUpward c.args.nodes.now l)) all c.loop-node.invariant.each
