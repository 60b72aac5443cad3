-- Texts that grow.
use Rattle.std.proofs.Common.{◌≡◌, ◌∙◌, ℕ, List, [], ◌∷◌, ◌++◌, refl, sym, ap, append_assoc, append-nil}
use Rattle.ov_graphfile.specs.NamesState.{NamesState}
use Rattle.ov_answers.specs.Lines.{IsNodeLine, AreNodeLines}
use Rattle.ov_answers.specs.Code.Begun.{Gains}

-- no line, and one line more
pub no_lines : (words : List ℕ) (names : NamesState) (t : List ℕ) → Gains (AreNodeLines words names []) t t
no_lines words names t = ([], refl, sym (append-nil t))

lines_push : (words : List ℕ) (names : NamesState) (ns : List ℕ) (n : ℕ) (text line : List ℕ)
    → AreNodeLines words names ns text → IsNodeLine words names n line
    → AreNodeLines words names (ns ++ n ∷ []) (text ++ line)
lines_push words names [] n text line is new =
    (line, [], new, refl, ap (λ t. t ++ line) is ∙ sym (append-nil line))
lines_push words names (m ∷ ms) n text line is new = (
  is.0,
  is.1 ++ line,
  is.2,
  lines_push words names ms n is.1 line is.3 new,
  ap (λ t. t ++ line) is.4 ∙ append_assoc is.0 is.1 line,
)

pub lines_more : (words : List ℕ) (names : NamesState) (ns : List ℕ) (n : ℕ) (a b c : List ℕ)
    → Gains (AreNodeLines words names ns) a b → Gains (IsNodeLine words names n) b c
    → Gains (AreNodeLines words names (ns ++ n ∷ [])) a c
lines_more words names ns n a b c g h = (
  g.0 ++ h.0,
  lines_push words names ns n g.0 h.0 g.1 h.1,
  h.2 ∙ ap (λ t. t ++ h.0) g.2 ∙ append_assoc a g.0 h.0,
)

-- the lines of a split, one after the other
pub split_lines : (P Q R S : List ℕ → Type 0) (a b c d e : List ℕ) → Gains P a b → Gains Q b c → Gains R c d
    → Gains S d e
    → (cut : List ℕ) × (near : List ℕ) × (far : List ℕ) × (told : List ℕ) × P cut × Q near × R far × S told
    × (e ≡ a ++ (cut ++ (near ++ (far ++ told))))
split_lines P Q R S a b c d e p q r s = (
  p.0,
  q.0,
  r.0,
  s.0,
  p.1,
  q.1,
  r.1,
  s.1,
  s.2 ∙ ap (λ t. t ++ s.0) (r.2 ∙ ap (λ t. t ++ r.0) (q.2 ∙ ap (λ t. t ++ q.0) p.2))
      ∙ append_assoc ((a ++ p.0) ++ q.0) r.0 s.0
      ∙ append_assoc (a ++ p.0) q.0 (r.0 ++ s.0)
      ∙ append_assoc a p.0 (q.0 ++ (r.0 ++ s.0)),
)
