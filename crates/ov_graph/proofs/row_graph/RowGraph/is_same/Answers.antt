-- Graphs with the same nodes are equal where their rows are.
use Rattle.std.proofs.Common.{◌≡◌, ◌∙◌, ◌↔◌, ◌<◌, ◌≤◌, ◌*◌, List, ℕ, IsTrue, length, sym, subst}
use Rattle.ov_graph.specs.Links.{LinkGraph}
use Rattle.ov_graph.specs.Row.{HasBit}
use Rattle.ov_graph.specs.Code.Kept.{row_at, graph_kept}
use Rattle.ov_graph.proofs.GraphValues.Alike.{rows_tested}
use Rattle.ov_graph.proofs.row_graph.RowGraph.is_same.Goals as goal

pub returns : goal.returns
returns c =
    let n = c.self.inside in
    let m = c.other.inside in
    let w = c.words.result in
    let b = c.have_same_rows.result in
    let e : n.nodes.items ≡ m.nodes.items = sym c.deref.ensures.value ∙ c.are_equal.ensures.0 c.if-not-are_equal.false
    ∙ c.deref-2.ensures.value in
    let enough = subst (λ (g : LinkGraph). length g.nodes ≤ 64 * w) (sym c.self.view_is) c.words.ensures.words.enough in
    let half =
    subst (λ (rows : List (List ℕ)). IsTrue b
    ↔ ((p q : ℕ) → p < length rows → q < 64 * w
    → HasBit (row_at rows p) q ↔ HasBit (row_at c.deref-4.result.now p) q))
    c.deref-3.ensures.value c.have_same_rows.ensures in
    let test =
    subst (λ (rows : List (List ℕ)). IsTrue b
    ↔ ((p q : ℕ) → p < length n.rows.items → q < 64 * w
    → HasBit (row_at n.rows.items p) q ↔ HasBit (row_at rows p) q)) c.deref-4.ensures.value half in
    let r = rows_tested n.nodes.items m.nodes.items n.rows.items m.rows.items w b c.self.invariant c.other.invariant e
    enough test in
    subst (λ (g : LinkGraph). IsTrue b ↔ (g ≡ c.args.other.now)) c.self.view_is
    (subst (λ (h : LinkGraph). IsTrue b ↔ (graph_kept n.nodes.items n.rows.items ≡ h)) c.other.view_is r)
