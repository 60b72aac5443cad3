-- The node is inserted, a row for it, and a bit for it in each row.
use Rattle.std.proofs.Common.{◌∙◌, ◌↔◌, ◌*◌, ◌<◌, ℕ, List, length, sym, ap, subst, arith}
use Rattle.std.specs.Prelude.{insert}
use Rattle.std.specs.Vec.{with_items}
use Rattle.std.proofs.lemmas.List.{with_items_is}
use Rattle.ov_ids.specs.Sets.{count_below}
use Rattle.ov_ids.proofs.Sets.{count_below-le-length}
use Rattle.ov_graph.specs.declared.bit_rows.TheConstants.{EMPTY}
use Rattle.ov_graph.specs.Row.{HasBit}
use Rattle.ov_graph.specs.Code.Shifts.{HasOpened}
use Rattle.ov_graph.specs.Changes.{GainsNode}
use Rattle.ov_graph.specs.Code.Kept.{row_at, graph_kept, IsKept}
use Rattle.ov_graph.proofs.GraphValues.ChangedNodes.{IsPutIn, gains_node}
use Rattle.ov_graph.proofs.changing.put_in.Goals as goal

pub insert-requires : goal.insert-requires
insert-requires c =
    let p = c.place_for-p.ensures in
    let n = c.deref.ensures.len in
    omega (arith, p, n, count_below-le-length c.args.id c.deref.result.now)

pub insert_empty-requires-clause-place : goal.insert_empty-requires-clause-place
insert_empty-requires-clause-place c =
    let p = c.place_for-p.ensures in
    let n = ap length c.deref.ensures.value in
    let m = ap length c.reserve.ensures.items in
    let each = c.requires.kept.each in
    omega (arith, p, n, m, each, count_below-le-length c.args.id c.deref.result.now)

both : (c : goal.After-rows-1)
    → IsKept c.insert.new.self.items (with_items c.insert_empty.new.rows c.open_all.new.rows).items
    × GainsNode (graph_kept c.args.nodes.now.items c.args.rows.now.items) c.args.id
    (graph_kept c.insert.new.self.items (with_items c.insert_empty.new.rows c.open_all.new.rows).items)
both c =
    let nodes = c.args.nodes.now.items in
    let rows = c.args.rows.now.items in
    let now = c.open_all.new.rows in
    let p = c.place_for-p.result in
    let w = c.words_for.result in
    let t = c.deref_mut.ensures.value ∙ c.insert_empty.ensures
    ∙ ap (λ (xs : List (List ℕ)). insert xs p EMPTY) c.reserve.ensures.items in
    let put : IsPutIn p w rows now = record {
      each = c.open_all.ensures.each ∙ ap length t;
      bits = subst
          (λ (xs : List (List ℕ)). (r q : ℕ) → HasBit (row_at now r) q ↔ ((q < 64 * w) × HasOpened (row_at xs r) p q))
          t c.open_all.ensures.bits;
    } in
    let enough = c.words_for.ensures.words.enough in
    let longer = c.in_ok-insert.ensures.len in
    let len = c.len.ensures in
    let n = c.deref.ensures.len in
    let m = ap length c.deref.ensures.value in
    let r = gains_node nodes rows now c.args.id p w c.requires.kept c.requires.stranger c.requires.few
    (c.place_for-p.ensures ∙ ap (count_below c.args.id) c.deref.ensures.value)
    (omega (arith, enough, longer, len, n, m)) put in
    let rows_are = with_items_is c.insert_empty.new.rows now (c.open_all.ensures.each ∙ c.deref_mut.ensures.len) in
    let nodes_are = c.in_ok-insert.ensures.items in
    let s = subst (λ (ns : List ℕ). IsKept ns now × GainsNode (graph_kept nodes rows) c.args.id (graph_kept ns now))
    (sym nodes_are) r in
    let ns = c.insert.new.self.items in
    subst (λ (rs : List (List ℕ)). IsKept ns rs × GainsNode (graph_kept nodes rows) c.args.id (graph_kept ns rs))
    (sym rows_are) s

pub returns-clause-kept : goal.returns-clause-kept
returns-clause-kept c = (both c).0

pub returns-clause-gains : goal.returns-clause-gains
returns-clause-gains c = (both c).1
