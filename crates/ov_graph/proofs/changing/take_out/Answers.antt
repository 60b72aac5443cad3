-- The node is removed, its row, and its bit in each row.
use Rattle.std.proofs.Common.{◌∙◌, ◌↔◌, ◌*◌, ◌<◌, ℕ, List, length, slice_index, refl, sym, ap, subst, arith}
use Rattle.std.specs.Vec.{with_items}
use Rattle.std.proofs.lemmas.List.{with_items_is}
use Rattle.ov_graph.specs.Row.{HasBit}
use Rattle.ov_graph.specs.Code.Shifts.{HasClosed}
use Rattle.ov_graph.specs.Changes.{LosesNode}
use Rattle.ov_graph.specs.Code.Kept.{row_at, graph_kept, IsKept}
use Rattle.ov_graph.proofs.GraphValues.ChangedNodes.{IsTakenOut, loses_node}
use Rattle.ov_graph.proofs.changing.take_out.Goals as goal

both : (c : goal.After-rows-1)
    → IsKept c.remove.new.self.items (with_items c.remove-2.new.self c.close_all.new.rows).items
    × LosesNode (graph_kept c.args.nodes.now.items c.args.rows.now.items) (slice_index c.args.nodes.now.items c.args.p)
    (graph_kept c.remove.new.self.items (with_items c.remove-2.new.self c.close_all.new.rows).items)
both c =
    let nodes = c.args.nodes.now.items in
    let rows = c.args.rows.now.items in
    let now = c.close_all.new.rows in
    let p = c.args.p in
    let id = slice_index nodes p in
    let w = c.words_for-words.result in
    let t = c.deref_mut.ensures.value ∙ c.remove-2.ensures.items in
    let taken : IsTakenOut p w rows now = record {
      each = c.close_all.ensures.each ∙ ap length t;
      bits = subst
          (λ (xs : List (List ℕ)). (r q : ℕ) → HasBit (row_at now r) q ↔ ((q < 64 * w) × HasClosed (row_at xs r) p q))
          t c.close_all.ensures.bits;
    } in
    let enough = c.words_for-words.ensures.words.enough in
    let len = c.len.ensures in
    let r = loses_node nodes rows now id p w c.requires.kept c.requires.place refl (omega (arith, enough, len)) taken in
    let rows_are = with_items_is c.remove-2.new.self now (c.close_all.ensures.each ∙ c.deref_mut.ensures.len) in
    let s = subst (λ (ns : List ℕ). IsKept ns now × LosesNode (graph_kept nodes rows) id (graph_kept ns now))
    (sym c.remove.ensures.items) r in
    let ns = c.remove.new.self.items in
    subst (λ (rs : List (List ℕ)). IsKept ns rs × LosesNode (graph_kept nodes rows) id (graph_kept ns rs))
    (sym rows_are) s

pub returns-clause-kept : goal.returns-clause-kept
returns-clause-kept c = (both c).0

pub returns-clause-loses : goal.returns-clause-loses
returns-clause-loses c = (both c).1
