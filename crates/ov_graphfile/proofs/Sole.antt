-- A file that says a graph gives a node one name at most.
use Rattle.std.proofs.Common.{◌≡◌, ◌∙◌, ◌+◌, ℕ, Bool, true, false, nat_eq, if◌then◌else◌, List, [], ◌∷◌, ◌++◌, map}
use Rattle.std.proofs.Common.{Option, Some, None, inl, inr, refl, sym, ap, subst, eqb-true}
use Rattle.std.specs.Str.Lines.{lines}
use Rattle.std.proofs.lemmas.Bool.{and_parts}
use Rattle.ov_ids.specs.Members.{Has, IsDistinct}
use Rattle.ov_ids.proofs.Members.{has_append_left, has_append_right, ascends_distinct}
use Rattle.ov_graphfile.specs.GraphFiles.{graph_line, graph_line_at, graph_line_of, graph_lines, node_said}
use Rattle.ov_graphfile.specs.GraphFiles.{nodes_said}
use Rattle.ov_graphfile.specs.declared.graph_line.GraphLine.{GraphLine}
use Rattle.ov_lines.specs.Lines.{is_skipped, kept_from, kept_lines, skips, words_of}
use Rattle.ov_graphfile.specs.NameLines.{comment_said, AreNaming}
use Rattle.ov_graphfile.specs.Theorems.{OneName}

-- the nodes that lines say, skipped ones too, which say none
abbrev pub nodes_in : List (List ℕ) → List ℕ
nodes_in [] = []
nodes_in (line ∷ more) = node_said (graph_line line) ++ nodes_in more

-- what lines name is among them
naming_has : (before : List ℕ) (ls : List (List ℕ)) (n : ℕ) (s : List ℕ) → AreNaming before ls n s
    → Has (nodes_in ls) n
naming_has before [] n s h = absurd h
naming_has before (l ∷ ls) n s h = elim h [
  | inl by ↦ has_append_left (node_said (graph_line l)) (nodes_in ls) n
      (subst (λ (xs : List ℕ). Has xs n) (sym by.1) (inl refl))
  | inr later ↦ has_append_right (node_said (graph_line l)) (nodes_in ls) n (naming_has l ls n s later)
]

name_in : Option (ℕ × List ℕ) → List ℕ
name_in None = []
name_in (Some said) = said.1

same_name : (n : ℕ) (s t : List ℕ) (o : Option (ℕ × List ℕ)) → o ≡ Some (n, s) → o ≡ Some (n, t) → s ≡ t
unfolding name_in
same_name n s t o e f = sym (ap name_in e) ∙ ap name_in f

distinct_later : (xs ys : List ℕ) → IsDistinct (xs ++ ys) → IsDistinct ys
distinct_later [] ys d = d
distinct_later (x ∷ xs) ys d = distinct_later xs ys d.1

twice : (xs ys : List ℕ) (n : ℕ) → IsDistinct (xs ++ ys) → xs ≡ n ∷ [] → ¬ Has ys n
twice xs ys n d e h = (subst (λ (zs : List ℕ). IsDistinct (zs ++ ys)) e d).0 h

one_of : (before : List ℕ) (ls : List (List ℕ)) (n : ℕ) (s t : List ℕ) → IsDistinct (nodes_in ls)
    → AreNaming before ls n s → AreNaming before ls n t → s ≡ t
one_of before [] n s t d a b = absurd a
one_of before (l ∷ ls) n s t d a b =
    let own : List ℕ = node_said (graph_line l) in
    elim a [
      | inl x ↦ elim b [
        | inl y ↦ same_name n s t (comment_said before) x.0 y.0
        | inr y ↦ absurd (twice own (nodes_in ls) n d x.1 (naming_has l ls n t y))
      ]
      | inr x ↦ elim b [
        | inl y ↦ absurd (twice own (nodes_in ls) n d y.1 (naming_has l ls n s x))
        | inr y ↦ one_of l ls n s t (distinct_later own (nodes_in ls) d) x y
      ]
    ]

-- a comment says nothing, and no skipped line does
comment_none : (word : List ℕ) (more : List (List ℕ)) → skips (word ∷ more) ≡ true
    → graph_line_of (word ∷ more) ≡ None
comment_none [] more e = absurd (cc)
comment_none (b ∷ bs) more e =
    let is : 35 ≡ b = eqb-true 35 b (and_parts (nat_eq 35 b) true e).0 in
    subst (λ (a : ℕ). graph_line_of ((a ∷ bs) ∷ more) ≡ None) is refl

pub skipped_none : (ws : List (List ℕ)) → skips ws ≡ true → graph_line_of ws ≡ None
skipped_none [] e = refl
skipped_none (word ∷ more) e = comment_none word more e

nodes_kept : (k : ℕ) (ls : List (List ℕ)) → nodes_said (map graph_line_at (kept_from k ls)) ≡ nodes_in ls
unfolding nodes_said kept_from
nodes_kept k [] = refl
nodes_kept k (l ∷ ls) = by (is_skipped l) refl (nodes_kept (k + 1) ls) where
  by : (b : Bool) → is_skipped l ≡ b → nodes_said (map graph_line_at (kept_from (k + 1) ls)) ≡ nodes_in ls
      → nodes_said (map graph_line_at ((if b then [] else (k, l) ∷ []) ++ kept_from (k + 1) ls))
      ≡ node_said (graph_line l) ++ nodes_in ls
  by true e later =
      later ∙ ap (λ (o : Option GraphLine). node_said o ++ nodes_in ls) (sym (skipped_none (words_of l) e))
  by false e later = ap (λ (xs : List ℕ). node_said (graph_line l) ++ xs) later

-- the nodes that the lines of a file say
pub all_nodes : (bytes : List ℕ) → nodes_said (graph_lines bytes) ≡ nodes_in (lines bytes)
unfolding graph_lines kept_lines
all_nodes bytes = nodes_kept 1 (lines bytes)

pub one_name : OneName
one_name bytes g n s t file a b =
    one_of [] (lines bytes) n s t
    (subst IsDistinct (file.nodes ∙ all_nodes bytes) (ascends_distinct g.nodes file.graph.nodes_ascend)) a b
