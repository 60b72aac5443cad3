-- Both nodes are places, and there is room for one more end.
use Rattle.std.proofs.Common.{◌≡◌, ◌∙◌, ◌≢◌, set, length, length-set, Some, sym, ap, subst, arith}
use Rattle.ov_ids.specs.Members.{Has}
use Rattle.ov_graph.proofs.EvenTest.Filtered.{linked_node}
use Rattle.ov_split.specs.Places.{net_by_place}
use Rattle.ov_split.specs.Code.Residual.{IsFlow}
use Rattle.ov_flow.specs.Code.Walked.{table_of}
use Rattle.ov_flow.proofs.Walking.{write_there, write_others}
use Rattle.ov_flow.proofs.Beginning.{ends_below, flow_over}
use Rattle.ov_flow.proofs.two_link_paths.take_over.Goals as goal

pub push_reserved-requires : goal.push_reserved-requires
push_reserved-requires g c =
    let w = c.args.work.now in
    let less = ends_below (net_by_place c.args.net.now) (length c.args.net.now.graph.nodes) (table_of w.from)
    w.ends.items c.requires.ready.placed c.requires.work.flow in
    let len = w.ends.ok.0 in
    let room = c.requires.work.room.ends in
    omega (arith, less, len, room)

pub set-requires : goal.set-requires
set-requires g c =
    let n = net_by_place c.args.net.now in
    let u = c.args.u in
    let l = (c.requires.ready.placed.nodes u).0
    (linked_node n.graph n.source u c.requires.ready.placed.net.graph c.requires.over.first.0) in
    let room = c.requires.work.room.from in
    omega (arith, l, room)

pub set-requires-2 : goal.set-requires-2
set-requires-2 g c =
    let n = net_by_place c.args.net.now in
    let t = c.args.t in
    let l = (c.requires.ready.placed.nodes t).0
    (linked_node n.graph c.args.u t c.requires.ready.placed.net.graph c.requires.over.second.0) in
    let room = c.requires.work.room.from in
    rw c.set.ensures (let long = length-set c.args.work.now.from c.args.u (Some c.source.result) in
    omega (arith, l, room, long))

pub overflow_cast-u : goal.overflow_cast-u
overflow_cast-u g c =
    let n = net_by_place c.args.net.now in
    let u = c.args.u in
    let l = (c.requires.ready.placed.nodes u).0
    (linked_node n.graph n.source u c.requires.ready.placed.net.graph c.requires.over.first.0) in
    let few = c.requires.ready.placed.few in
    omega (arith, l, few)

pub returns-clause-work : goal.returns-clause-work
returns-clause-work g c =
    let n = net_by_place c.args.net.now in
    let u = c.args.u in
    let t = c.args.t in
    let over = c.requires.over in
    let graph = c.requires.ready.placed.net.graph in
    let s = c.source.result in
    let is : s ≡ n.source = c.source.ensures.place in
    let room = c.requires.work.room in
    let wide = room.from in
    let from = c.args.work.now.from in
    let one = set from u (Some s) in
    let ends = c.args.work.now.ends.items in
    let items = c.push_reserved.ensures.items in
    let l = (c.requires.ready.placed.nodes u).0 (linked_node n.graph n.source u graph over.first.0) in
    let k = (c.requires.ready.placed.nodes t).0 (linked_node n.graph u t graph over.second.0) in
    let differ : u ≢ t = λ e. over.inner (subst (Has n.targets) (sym e) over.target) in
    let long : length one ≡ length from = length-set from u (Some s) in
    rw (c.set-2.ensures, c.set.ensures) (record {
      room = record {
        from = length-set one t (Some u) ∙ long ∙ wide;
        next = room.next;
        tree = room.tree;
        hops = room.hops;
        ends = let kept = c.push_reserved.ensures.capacity in let r = room.ends in omega (arith, kept, r);
      };
      flow = subst (IsFlow n (table_of (set one t (Some u)))) (sym items)
          (flow_over n c.requires.ready.placed.net (table_of from) (table_of (set one t (Some u))) ends u t
          c.requires.work.flow over
          (write_others one t (Some u) u differ ∙ write_there from u (Some s) (omega (arith, l, wide)) ∙ ap Some is)
          (write_there one t (Some u) (omega (arith, k, wide, long)))
          (λ v nu nt. write_others one t (Some u) v nt ∙ write_others from u (Some s) v nu));
    })
