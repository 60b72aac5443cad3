-- A step back reaches the node before, which is a target, or not.
use Rattle.std.proofs.Common.{◌≡◌, ◌∙◌, Some, length, sym, ap, subst, arith}
use Rattle.std.proofs.lemmas.List.{get_or_read}
use Rattle.ov_ids.specs.Members.{Has}
use Rattle.ov_split.specs.Places.{net_by_place}
use Rattle.ov_flow.specs.Code.Walked.{table_of}
use Rattle.ov_flow.proofs.Reaching.{clean_more, node_room, IsReachedBy}
use Rattle.ov_flow.proofs.Visiting.{read_below}
use Rattle.ov_flow.proofs.path_search.step_back.Goals as goal

pub get-requires : goal.get-requires
get-requires g c =
    let t = c.args.tree.now in
    let b = read_below (net_by_place c.args.net.now) (length c.args.net.now.graph.nodes) (table_of c.args.from.now)
    t.order.items t.parents.items t.ways.items c.args.at c.index.result.now c.requires.ready.placed
    c.requires.grown.is_tree
    c.requires.at c.index.ensures in
    let e = c.requires.table.long in
    omega (arith, b, e)

pub reach-requires : goal.reach-requires
reach-requires g c =
    let n = net_by_place c.args.net.now in
    let from = table_of c.args.from.now in
    let is : from c.index.result.now ≡ Some c.in-Some.before = sym c.get.ensures ∙ c.in-Some.is in
    let told = c.requires.table.told c.index.result.now c.in-Some.before is in
    let wide = c.requires.ready.room in (
      omega arith,
      (
        c.requires.at,
        (
          omega (arith, told, wide),
          node_room n (length c.args.net.now.graph.nodes) from c.args.tree.now c.in-Some.before c.requires.ready.placed
              c.requires.grown c.requires.room ((c.requires.ready.placed.nodes c.in-Some.before).1 told),
        ),
      ),
    )

pub returns-then-has-clause-room : goal.returns-then-has-clause-room
returns-then-has-clause-room g c = c.reach.ensures.room (length c.args.net.now.graph.nodes) c.requires.room

pub returns-else-has-clause-room : goal.returns-else-has-clause-room
returns-else-has-clause-room g c = c.reach.ensures.room (length c.args.net.now.graph.nodes) c.requires.room

pub returns-then-has-clause-grown : goal.returns-then-has-clause-grown
returns-then-has-clause-grown g c =
    let n = net_by_place c.args.net.now in
    let from = table_of c.args.from.now in
    let t = c.args.tree.now in
    let x = c.index.result.now in
    let y = c.in-Some.before in
    let is : from x ≡ Some y = sym c.get.ensures ∙ c.in-Some.is in
    let e = get_or_read t.order.items c.args.at x c.requires.at c.index.ensures 0 in
    let node = (c.requires.ready.placed.nodes y).1 (c.requires.table.told x y is) in
    (c.reach.ensures.grown n from c.requires.grown node (ap from (sym e) ∙ is)).0

pub returns-then-has-clause-found : goal.returns-then-has-clause-found
returns-then-has-clause-found g c =
    let n = net_by_place c.args.net.now in
    let from = table_of c.args.from.now in
    let t = c.args.tree.now in
    let x = c.index.result.now in
    let y = c.in-Some.before in
    let is : from x ≡ Some y = sym c.get.ensures ∙ c.in-Some.is in
    let e = get_or_read t.order.items c.args.at x c.requires.at c.index.ensures 0 in
    let node = (c.requires.ready.placed.nodes y).1 (c.requires.table.told x y is) in
    let r : IsReachedBy n from t c.reach.new.tree y =
    c.reach.ensures.grown n from c.requires.grown node (ap from (sym e) ∙ is) in
    let s = c.requires.swept in
    let h = (c.targets.ensures.places y).0 (c.has.ensures.0 c.if-has.true) in
    subst (Has n.targets) (sym (r.2 (λ k. s.clean y k h))) h

pub returns-else-has-clause-grown : goal.returns-else-has-clause-grown
returns-else-has-clause-grown g c =
    let n = net_by_place c.args.net.now in
    let from = table_of c.args.from.now in
    let t = c.args.tree.now in
    let x = c.index.result.now in
    let y = c.in-Some.before in
    let is : from x ≡ Some y = sym c.get.ensures ∙ c.in-Some.is in
    let e = get_or_read t.order.items c.args.at x c.requires.at c.index.ensures 0 in
    let node = (c.requires.ready.placed.nodes y).1 (c.requires.table.told x y is) in
    (c.reach.ensures.grown n from c.requires.grown node (ap from (sym e) ∙ is)).0

pub returns-else-has-clause-found : goal.returns-else-has-clause-found
returns-else-has-clause-found g c =
    let n = net_by_place c.args.net.now in
    let from = table_of c.args.from.now in
    let t = c.args.tree.now in
    let u = c.reach.new.tree in
    let x = c.index.result.now in
    let y = c.in-Some.before in
    let is : from x ≡ Some y = sym c.get.ensures ∙ c.in-Some.is in
    let e = get_or_read t.order.items c.args.at x c.requires.at c.index.ensures 0 in
    let node = (c.requires.ready.placed.nodes y).1 (c.requires.table.told x y is) in
    let r : IsReachedBy n from t u y = c.reach.ensures.grown n from c.requires.grown node
    (ap from (sym e) ∙ is) in
    let s = c.requires.swept in
    let off : ¬ Has n.targets y = λ h. absurd (cc (
      c.has.ensures.1 ((c.targets.ensures.places y).1 h),
      c.if-has.false,
    )) in
    record {
      swept = record {
        clean = clean_more n t.order.items u.order.items y s.clean c.reach.ensures.only off;
        links = λ w l. c.reach.ensures.more.seen w (s.links w l);
      };
      back = λ b f.
          let g : from x ≡ Some b = ap from e ∙ f in
          let q : y ≡ b = cc (is, g) in
          subst (Has u.order.items) q r.1;
    }

pub returns-in_default-clause-found : goal.returns-in_default-clause-found
returns-in_default-clause-found g c =
    let n = net_by_place c.args.net.now in
    let from = table_of c.args.from.now in
    let t = c.args.tree.now in
    let x = c.index.result.now in
    let e = get_or_read t.order.items c.args.at x c.requires.at c.index.ensures 0 in
    let s = c.requires.swept in
    record {
      swept = s;
      back = λ b f. absurd (c.in_default.not-Some b (c.get.ensures ∙ ap from e ∙ f));
    }
