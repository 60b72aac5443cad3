-- Each node that is reached is visited.
use Rattle.std.proofs.Common.{ℕ, ◌<◌, Bool, MatchBool, get_or, sym, subst, arith, length}
use Rattle.ov_ids.proofs.Members.{place_of}
use Rattle.ov_graph.specs.Links.{Linked}
use Rattle.ov_split.specs.Places.{net_by_place}
use Rattle.ov_flow.specs.Code.Reached.{IsSearchEnded, IsVisited}
use Rattle.ov_flow.specs.Code.Walked.{table_of}
use Rattle.ov_flow.proofs.Reaching.{tree_bound, all_visited, links_more, backs_more}
use Rattle.ov_flow.proofs.path_search.search.Goals as goal

pub loop-at-init : goal.loop-at-init
loop-at-init g c = record {
  grown = c.begin.ensures.grown (table_of c.args.from.now);
  clean = c.begin.ensures.clean;
  room = c.begin.ensures.room;
  within = omega arith;
  links = λ k w l. absurd (omega arith);
  backs = λ k u l. absurd (omega arith);
}

pub overflow_add-at : goal.overflow_add-at
overflow_add-at g c =
    let t = c.loop-at.tree in
    let b = tree_bound (net_by_place c.args.net.now) (table_of c.args.from.now) t.order.items t.parents.items
    t.ways.items c.loop-at.invariant.grown.is_tree in
    let l = c.requires.ready.placed.count in
    let few = c.requires.ready.placed.few in
    let lt : c.loop-at.at < length t.order.items = omega arith in
    omega (arith, b, l, few, lt)

pub loop-at-smaller : goal.loop-at-smaller
loop-at-smaller g c =
    let t = c.loop-at.tree in
    let b = tree_bound (net_by_place c.args.net.now) (table_of c.args.from.now) t.order.items t.parents.items
    t.ways.items
    c.loop-at.invariant.grown.is_tree in
    let l = c.requires.ready.placed.count in
    omega (arith, b, l)

pub loop-at-preserved : goal.loop-at-preserved
loop-at-preserved g c =
    let n = net_by_place c.args.net.now in
    let from = table_of c.args.from.now in
    let old = c.loop-at.tree in
    let new = c.visit.new.tree in
    let v = c.visit.ensures in
    let f = subst (λ (b : Bool). MatchBool b (IsSearchEnded n new) (IsVisited n from (get_or old.order.items
    c.loop-at.at 0) new))
    c.if-visit.false v.found in
    let lt : c.loop-at.at < length old.order.items = omega arith in
    let le = v.more.order.0 in
    record {
      grown = v.grown;
      clean = f.swept.clean;
      room = v.room;
      within = omega (arith, lt, le);
      links = links_more n old.order.items new.order.items old.seen new.seen c.loop-at.at v.more.order lt v.more.seen
          c.loop-at.invariant.links f.swept.links;
      backs = backs_more from old.order.items new.order.items c.loop-at.at v.more.order lt c.loop-at.invariant.backs
          f.back;
    }

pub returns-clause-found : goal.returns-clause-found
returns-clause-found g c =
    let n = net_by_place c.args.net.now in
    let t = c.loop-at.tree in
    let i = c.loop-at.invariant in
    record {
      stuck = all_visited n (table_of c.args.from.now) t.order.items t.parents.items t.ways.items t.reached t.seen
          i.grown
          i.clean (λ k w l. i.links k w (omega arith)) (λ k u l. i.backs k u (omega arith));
      links = λ x w h l.
          let p = place_of t.order.items x h in
          i.links p.0 w (let m = p.1 in omega (arith, m)) (subst (λ (a : ℕ). Linked n.graph a w) (sym p.2) l);
    }
