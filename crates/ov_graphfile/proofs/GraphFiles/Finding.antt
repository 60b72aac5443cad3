-- The line of a kind at a place, looked for line by line.
use Rattle.std.proofs.Common.{◌≡◌, ◌∙◌, ℕ, suc, true, false, List, [], ◌∷◌, slice_get, Some, None}
use Rattle.std.proofs.Common.{ap, sym}
use Rattle.ov_graphfile.specs.GraphFiles.{graph_line, graph_lines, lines_where, is_of_kind}
use Rattle.ov_graphfile.specs.declared.graph_line.LineKind.{LineKind}
use Rattle.ov_graphfile.proofs.GraphFiles.Numbers.{left_where, holding, other, none_left}
use Rattle.ov_lines.specs.Lines.{kept_lines}

-- of the lines of this kind that are left, the one behind so many others is the one at the place
abbrev pub Finds : List ℕ → LineKind → ℕ → ℕ → List (ℕ × List ℕ) → Type 0
Finds bytes kind at before left =
    slice_get (left_where (is_of_kind kind) left) before
    ≡ slice_get (lines_where (is_of_kind kind) (graph_lines bytes)) at

-- no line was looked at
pub begun : (bytes : List ℕ) (kind : LineKind) (at : ℕ) (left : List (ℕ × List ℕ)) → left ≡ kept_lines bytes
    → Finds bytes kind at at left
unfolding graph_lines
begun bytes kind at left all = ap (λ ls. slice_get (left_where (is_of_kind kind) ls) at) all

-- the next line is of another kind
pub passed :
    (bytes : List ℕ) (kind : LineKind) (at before : ℕ) (now later : List (ℕ × List ℕ)) (n : ℕ) (text : List ℕ)
    → Finds bytes kind at before now → now ≡ (n, text) ∷ later → is_of_kind kind (graph_line text) ≡ false
    → Finds bytes kind at before later
passed bytes kind at before now later n text so_far first test =
    ap (λ ns. slice_get ns before) (sym (other (is_of_kind kind) now later n text first test)) ∙ so_far

-- the next line is of this kind, and stands before the one at the place
pub counted :
    (bytes : List ℕ) (kind : LineKind) (at before then : ℕ) (now later : List (ℕ × List ℕ)) (n : ℕ) (text : List ℕ)
    → Finds bytes kind at before now → now ≡ (n, text) ∷ later → is_of_kind kind (graph_line text) ≡ true
    → before ≡ suc then
    → Finds bytes kind at then later
counted bytes kind at before then now later n text so_far first test is =
    ap (λ k. slice_get (n ∷ left_where (is_of_kind kind) later) k) (sym is)
    ∙ ap (λ ns. slice_get ns before) (sym (holding (is_of_kind kind) now later n text first test)) ∙ so_far

-- it is the one at the place
pub found :
    (bytes : List ℕ) (kind : LineKind) (at before : ℕ) (now later : List (ℕ × List ℕ)) (n : ℕ) (text : List ℕ)
    → Finds bytes kind at before now → now ≡ (n, text) ∷ later → is_of_kind kind (graph_line text) ≡ true
    → before ≡ 0
    → Some n ≡ slice_get (lines_where (is_of_kind kind) (graph_lines bytes)) at
found bytes kind at before now later n text so_far first test is =
    ap (λ k. slice_get (n ∷ left_where (is_of_kind kind) later) k) (sym is)
    ∙ ap (λ ns. slice_get ns before) (sym (holding (is_of_kind kind) now later n text first test)) ∙ so_far

-- no line is left
pub not_found : (bytes : List ℕ) (kind : LineKind) (at before : ℕ) (left : List (ℕ × List ℕ))
    → Finds bytes kind at before left → left ≡ []
    → None ≡ slice_get (lines_where (is_of_kind kind) (graph_lines bytes)) at
not_found bytes kind at before left so_far none =
    ap (λ ns. slice_get ns before) (sym (none_left (is_of_kind kind) left none)) ∙ so_far
