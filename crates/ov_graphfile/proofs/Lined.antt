-- The lines of a text with names in comments, one by one.
use Rattle.std.proofs.Common.{◌≡◌, ◌∙◌, ◌<◌, ℕ, List, [], ◌∷◌, ◌++◌, codes, decimal, inl, inr, refl, ap, subst, sym}
use Rattle.std.proofs.Common.{append_assoc}
use Rattle.std.specs.List.{flat_map}
use Rattle.std.specs.Str.Lines.{lines}
use Rattle.ov_ids.specs.Limits.{number_limit}
use Rattle.ov_ids.specs.Members.{Has}
use Rattle.ov_graphfile.specs.GraphFiles.{graph_line, node_said}
use Rattle.ov_graphfile.specs.GraphTexts.{IsOnOneLine, link_line, named_node_line, node_line}
use Rattle.ov_graphfile.proofs.Sayings.{ids_text, link_line_says, node_line_says}
use Rattle.ov_graphfile.proofs.Naming.{comment_clean, comment_text}
use Rattle.ov_lines.proofs.Lines.Front.{first_line}

-- the line of a node, without its line feed
abbrev pub node_text : ℕ → List ℕ
node_text n = codes "node " ++ decimal n

-- the line of a node says it
pub says_node : (n : ℕ) → n < number_limit → node_said (graph_line (node_text n)) ≡ n ∷ []
says_node n low = (node_line_says n low).node

-- the two lines of a node with a name, and those behind them
pub named_lines : (n : ℕ) (name rest : List ℕ) → n < number_limit → IsOnOneLine name
    → lines (named_node_line (n, name) ++ rest) ≡ comment_text n name ∷ node_text n ∷ lines rest
named_lines n name rest low alone =
    let said : List ℕ = decimal n ++ 32 ∷ name in
    let split : named_node_line (n, name) ++ rest ≡ comment_text n name ++ 10 ∷ (node_line n ++ rest) =
    ap (λ t. codes "# " ++ t)
    (ap (λ t. t ++ rest) (sym (append_assoc (decimal n) (32 ∷ name) (10 ∷ node_line n)))
    ∙ append_assoc said (10 ∷ node_line n) rest) in
    let own : node_line n ++ rest ≡ node_text n ++ 10 ∷ rest =
    ap (λ t. codes "node " ++ t) (append_assoc (decimal n) (10 ∷ []) rest) in
    ap lines split ∙ first_line (comment_text n name) (node_line n ++ rest) (comment_clean n name low alone)
    ∙ ap (λ t. comment_text n name ∷ lines t) own
    ∙ ap (λ ls. comment_text n name ∷ ls) (first_line (node_text n) rest (node_line_says n low).clean)

-- the line of a link in front
link_lines : (l : ℕ × ℕ) (rest : List ℕ) → l.0 < number_limit → l.1 < number_limit
    → lines (link_line l ++ rest) ≡ (codes "link " ++ ids_text l) ∷ lines rest
unfolding ids_text
link_lines l rest low high =
    let split : link_line l ++ rest ≡ (codes "link " ++ ids_text l) ++ 10 ∷ rest =
    ap (λ t. codes "link " ++ t)
    (ap (λ t. t ++ rest) (sym (append_assoc (decimal l.0) (32 ∷ decimal l.1) (10 ∷ [])))
    ∙ append_assoc (ids_text l) (10 ∷ []) rest) in
    ap lines split ∙ first_line (codes "link " ++ ids_text l) rest (link_line_says l low high).clean

-- the lines of links say no node
pub say_no_node : (links : List (ℕ × ℕ))
    → ((l : ℕ × ℕ) → Has links l → (l.0 < number_limit) × (l.1 < number_limit)) → (line : List ℕ)
    → Has (lines (flat_map link_line links)) line → node_said (graph_line line) ≡ []
say_no_node [] low line h = absurd h
say_no_node (l ∷ links) low line h =
    let ends = low l (inl refl) in
    let first = link_lines l (flat_map link_line links) ends.0 ends.1 in
    elim (subst (λ (ls : List (List ℕ)). Has ls line) first h) [
      | inl e ↦ subst (λ (t : List ℕ). node_said (graph_line t) ≡ []) e (link_line_says l ends.0 ends.1).node
      | inr later ↦ say_no_node links (λ m has. low m (inr has)) line later
    ]
