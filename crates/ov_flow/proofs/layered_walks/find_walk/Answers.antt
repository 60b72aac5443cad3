-- Each step goes to a node that was not visited, and a step that leads nowhere is dropped.
use Rattle.std.proofs.Common.{rules, ◌≡◌, ◌∙◌, ℕ, List, length, sym, ap, subst, arith, option_to_list}
use Rattle.ov_split.specs.Places.{net_by_place}
use Rattle.ov_flow.specs.Code.Walked.{table_of, end_of, IsNextHop}
use Rattle.ov_flow.proofs.Seeking.{IsSought, sought_at, sought_room, sought_walk, sought_more, sought_less}
use Rattle.ov_flow.proofs.layered_walks.find_walk.Goals.{in-Some+else-has, in-None+else-is_none}
use Rattle.ov_flow.proofs.layered_walks.find_walk.Goals as goal

pub next_hop-requires : goal.next_hop-requires
next_hop-requires g c = (
  omega arith,
  (
    omega arith,
    (
      c.requires.ready,
      (
        search rules,
        (let n = net_by_place c.args.net.now in
            let hops = c.loop-turn.hops.items in
            let e : c.last_node-at.result ≡ end_of n.source hops =
            c.last_node-at.ensures ∙ ap (end_of c.source-source.result) c.deref.ensures.value
            ∙ ap (λ (a : ℕ). end_of a hops) c.source-source.ensures.place in
            let b = sought_at n (length c.args.net.now.graph.nodes) c.requires.ready.placed (table_of c.args.from.now)
            hops
            c.loop-turn.layers.visited c.loop-turn.invariant.sought in
            omega (arith, e, b)),
      ),
    ),
  ),
)

pub push_reserved-requires : goal.push_reserved-requires
push_reserved-requires g c =
    let n = net_by_place c.args.net.now in
    let from = table_of c.args.from.now in
    let hops = c.loop-turn.hops.items in
    let visited = c.loop-turn.layers.visited in
    let e : c.last_node-at.result ≡ end_of n.source hops =
    c.last_node-at.ensures ∙ ap (end_of c.source-source.result) c.deref.ensures.value
    ∙ ap (λ (a : ℕ). end_of a hops) c.source-source.ensures.place in
    let next = subst (λ (a : ℕ). IsNextHop n from a visited c.in-Some.hop) e c.in-Some.ensures.hop in
    let b = sought_room n (length c.args.net.now.graph.nodes) c.requires.ready.placed from hops visited
    c.loop-turn.invariant.sought c.in-Some.hop next in
    let len = c.loop-turn.hops.ok.0 in
    let room = c.requires.room in
    let same = c.loop-turn.invariant.room in
    omega (arith, b, len, room, same)

pub returns-then-has-clause-walk : goal.returns-then-has-clause-walk
returns-then-has-clause-walk g c =
    let n = net_by_place c.args.net.now in
    let from = table_of c.args.from.now in
    let hops = c.loop-turn.hops.items in
    let visited = c.loop-turn.layers.visited in
    let e : c.last_node-at.result ≡ end_of n.source hops =
    c.last_node-at.ensures ∙ ap (end_of c.source-source.result) c.deref.ensures.value
    ∙ ap (λ (a : ℕ). end_of a hops) c.source-source.ensures.place in
    let next = subst (λ (a : ℕ). IsNextHop n from a visited c.in-Some.hop) e c.in-Some.ensures.hop in
    rw c.push_reserved.ensures.items
    (sought_walk n (length c.args.net.now.graph.nodes) c.requires.ready.placed from hops visited
    c.loop-turn.invariant.sought c.in-Some.hop next)

pub loop-turn-preserved : goal.loop-turn-preserved
loop-turn-preserved g c =
    let n = net_by_place c.args.net.now in
    let from = table_of c.args.from.now in
    let hops = c.loop-turn.hops.items in
    let i = c.loop-turn.invariant in
    let visited = c.next_hop.new.layers.visited in
    let same : visited ≡ c.loop-turn.layers.visited = c.next_hop.ensures.visited in
    let e : c.last_node-at.result ≡ end_of n.source hops =
    c.last_node-at.ensures ∙ ap (end_of c.source-source.result) c.deref.ensures.value
    ∙ ap (λ (a : ℕ). end_of a hops) c.source-source.ensures.place in
    let s : IsSought n from hops visited = subst (IsSought n from hops) (sym same) i.sought in
    elim c.match-next_hop.branch [
      | in-Some+else-has w ↦
          let hop = w.in-Some.hop in
          let next : IsNextHop n from (end_of n.source hops) visited hop =
          subst (λ (v : List ℕ). IsNextHop n from (end_of n.source hops) v hop) (sym same)
          (subst (λ (a : ℕ). IsNextHop n from a c.loop-turn.layers.visited hop) e w.in-Some.ensures.hop) in
          rw (w.hops-is, w.layers-is, w.push_reserved.ensures.items) (record {
            sought = sought_more n (length c.args.net.now.graph.nodes) c.requires.ready.placed from hops visited s hop
                next
                w.put.new.row w.put.ensures;
            room = w.push_reserved.ensures.capacity ∙ i.room;
          })
      | in-None+else-is_none w ↦ rw (w.hops-is, w.layers-is) (record {
        sought = sought_less n from hops w.pop.new.self.items (option_to_list w.pop.result) visited
            w.pop.ensures.items s;
        room = w.pop.ensures.capacity ∙ i.room;
      })
    ]
