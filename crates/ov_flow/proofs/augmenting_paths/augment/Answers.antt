-- What is held is a table, and the walk leads to the last node that is reached.
use Rattle.std.proofs.Common.{rules, ◌≡◌, ◌∙◌, ◌-◌, ℕ, length, get_or, sym, subst, arith}
use Rattle.std.proofs.lemmas.List.{get_or_read}
use Rattle.ov_ids.specs.Members.{Has}
use Rattle.ov_split.specs.Places.{net_by_place}
use Rattle.ov_flow.specs.Code.Walked.{table_of}
use Rattle.ov_flow.proofs.Beginning.{flow_table, ends_below}
use Rattle.ov_flow.proofs.Reaching.{tree_bound}
use Rattle.ov_flow.proofs.augmenting_paths.augment.Goals as goal

pub search-requires : goal.search-requires
search-requires g c = (
  omega arith,
  (
    omega arith,
    (
      c.requires.ready,
      (
        (let w = c.args.work.now in
            flow_table (net_by_place c.args.net.now) (length c.args.net.now.graph.nodes) w.from w.ends.items
            c.requires.ready.placed c.requires.work.room.from c.requires.work.flow),
        search rules,
      ),
    ),
  ),
)

pub walk_back-requires : goal.walk_back-requires
walk_back-requires g c = (
  omega arith,
  (
    search rules,
    (let t = c.search.new.tree in
        let g = c.search.ensures.grown in
        let b = tree_bound (net_by_place c.args.net.now) (table_of c.args.work.now.from) t.order.items
        t.parents.items t.ways.items g.is_tree in
        let count = c.requires.ready.placed.count in
        let room = c.requires.work.room.hops in
        omega (arith, b, count, room)),
  ),
)

pub push_reserved-requires : goal.push_reserved-requires
push_reserved-requires g c =
    let w = c.args.work.now in
    let less = ends_below (net_by_place c.args.net.now) (length c.args.net.now.graph.nodes) (table_of w.from)
    w.ends.items c.requires.ready.placed c.requires.work.flow in
    let len = w.ends.ok.0 in
    let room = c.requires.work.room.ends in
    omega (arith, less, len, room)

pub replace_paths-requires : goal.replace_paths-requires
replace_paths-requires g c = (
  omega arith,
  (
    c.requires.ready,
    (
      search rules,
      (
        search rules,
        (
          (let n = net_by_place c.args.net.now in
              let w = c.args.work.now in
              let t = c.search.new.tree in
              let order = t.order.items in
              let x = c.index-target.result.now in
              let g = c.search.ensures.grown in
              let some = g.is_tree.some in
              let read : x ≡ get_or order (length order - 1) x =
              subst (λ (k : ℕ). x ≡ get_or order (k - 1) x) (c.len.ensures ∙ t.order.ok.0)
              c.index-target.ensures in
              let e = get_or_read order (length order - 1) x (omega (arith, some)) read 0 in
              rw (c.deref-2.ensures.value, e) (c.walk_back.ensures.walk n (table_of w.from) g)),
          (
            subst (Has (net_by_place c.args.net.now).targets) (sym (let t = c.search.new.tree.order.items in
                let g = c.search.ensures.grown in
                let some = g.is_tree.some in
                let x = c.index-target.result.now in
                get_or_read t (length t - 1) x (omega (arith, some))
                (subst (λ (k : ℕ). x ≡ get_or t (k - 1) x) (c.len.ensures ∙ c.search.new.tree.order.ok.0)
                c.index-target.ensures) 0))
                (search rules),
            search rules,
          ),
        ),
      ),
    ),
  ),
)
