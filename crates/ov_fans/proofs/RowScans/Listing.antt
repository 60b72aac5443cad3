-- The nodes whose bits are set, one after another.
use Rattle.std.proofs.Common.{◌≡◌, ◌∙◌, ℕ, ◌+◌, ◌*◌, ◌<◌, ◌≤◌, List, [], ◌∷◌, ◌++◌, length, slice_index, drop, sym, ap}
use Rattle.std.proofs.Common.{arith}
use Rattle.std.proofs.lemmas.List.{append_assoc, append-nil}
use Rattle.ov_graph.specs.Row.{HasBit, IsFirstFrom, AreWordsFor}
use Rattle.ov_graph.specs.Row.{picked}
use Rattle.ov_graph.proofs.BitRows.Read.{next_picked, none_picked}
use Rattle.ov_fans.specs.Code.Kept.{AreBitsOfNodes}

-- one more node is found
pub found_more : (row nodes found : List ℕ) (next place x : ℕ) → IsFirstFrom row next place → place < length nodes
    → x ≡ slice_index nodes place → found ++ picked row next (drop next nodes) ≡ picked row 0 nodes
    → (found ++ x ∷ []) ++ picked row (place + 1) (drop (place + 1) nodes) ≡ picked row 0 nodes
found_more row nodes found next place x first l e before =
    append_assoc found (x ∷ []) (picked row (place + 1) (drop (place + 1) nodes))
    ∙ ap (λ (y : ℕ). found ++ y ∷ picked row (place + 1) (drop (place + 1) nodes)) e
    ∙ ap (λ (t : List ℕ). found ++ t) (sym (next_picked row nodes next place 0 first l))
    ∙ before

-- all nodes are found
pub found_all : (row nodes found : List ℕ) (next words : ℕ) → AreBitsOfNodes nodes row
    → AreWordsFor (length nodes) words → ((p : ℕ) → next ≤ p → p < 64 * words → ¬ HasBit row p)
    → found ++ picked row next (drop next nodes) ≡ picked row 0 nodes → found ≡ picked row 0 nodes
found_all row nodes found next words kept wide none before =
    sym (append-nil found)
    ∙ ap (λ (t : List ℕ). found ++ t) (sym (none_picked row next (drop next nodes) (λ q l h.
    let m = kept q h in
    let k = wide.enough in
    none q l (omega (arith, m, k)) h)))
    ∙ before
