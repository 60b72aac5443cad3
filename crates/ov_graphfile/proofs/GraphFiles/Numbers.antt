-- The numbers of those of the lines that are left of which something holds.
use Rattle.std.proofs.Common.{◌≡◌, ◌∙◌, ℕ, Bool, true, false, if◌then◌else◌, List, [], ◌∷◌, map, Option, ap}
use Rattle.std.specs.List.{filter}
use Rattle.ov_graphfile.specs.GraphFiles.{graph_line, graph_line_at, lines_where}
use Rattle.ov_graphfile.specs.declared.graph_line.GraphLine.{GraphLine}

-- these numbers
abbrev pub left_where : (Option GraphLine → Bool) → List (ℕ × List ℕ) → List ℕ
left_where holds left = lines_where holds (map graph_line_at left)

-- of a line and those behind it, by whether it holds of the line
first_where :
    (holds : Option GraphLine → Bool) (now later : List (ℕ × List ℕ)) (n : ℕ) (text : List ℕ) (b : Bool)
    → now ≡ (n, text) ∷ later → holds (graph_line text) ≡ b
    → left_where holds now ≡ map (λ (l : ℕ × Option GraphLine). l.0)
    (if b then graph_line_at (n, text) ∷ filter (λ l. holds l.1) (map graph_line_at later)
    else filter (λ l. holds l.1) (map graph_line_at later))
unfolding lines_where
first_where holds now later n text b first test =
    ap (left_where holds) first
    ∙ ap
    (λ t. map (λ (l : ℕ × Option GraphLine). l.0)
    (if t then graph_line_at (n, text) ∷ filter (λ l. holds l.1) (map graph_line_at later)
    else filter (λ l. holds l.1) (map graph_line_at later)))
    test

-- it holds of the next line
pub holding :
    (holds : Option GraphLine → Bool) (now later : List (ℕ × List ℕ)) (n : ℕ) (text : List ℕ)
    → now ≡ (n, text) ∷ later → holds (graph_line text) ≡ true
    → left_where holds now ≡ n ∷ left_where holds later
unfolding lines_where
holding holds now later n text first test = first_where holds now later n text true first test

-- it does not hold of the next line
pub other :
    (holds : Option GraphLine → Bool) (now later : List (ℕ × List ℕ)) (n : ℕ) (text : List ℕ)
    → now ≡ (n, text) ∷ later → holds (graph_line text) ≡ false
    → left_where holds now ≡ left_where holds later
unfolding lines_where
other holds now later n text first test = first_where holds now later n text false first test

-- no line is left
pub none_left :
    (holds : Option GraphLine → Bool) (left : List (ℕ × List ℕ)) → left ≡ [] → left_where holds left ≡ []
unfolding lines_where
none_left holds left none = ap (left_where holds) none
