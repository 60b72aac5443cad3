-- The names of a file, line by line.
use Rattle.std.proofs.Common.{◌≡◌, ◌∙◌, ◌⊎◌, ℕ, ◌<◌, List, [], ◌∷◌, length, get_or, Option, Some, None, inl, inr}
use Rattle.std.proofs.Common.{refl, sym, ap, subst, arith}
use Rattle.std.specs.Str.Lines.{lines}
use Rattle.ov_ids.specs.Members.{Has}
use Rattle.ov_graph.specs.Links.{LinkGraph}
use Rattle.ov_lines.specs.Lines.{first_line}
use Rattle.ov_lines.proofs.Lines.Lined.{lines_first}
use Rattle.ov_graphfile.specs.NamesState.{IsNamed, names_of}
use Rattle.ov_graphfile.specs.NameLines.{comment_said, IsNamedBy, AreNaming, NameSaid, AreNamesOf}
use Rattle.ov_graphfile.specs.Code.Table.{Keeps, TakesLine}

-- the table has names that the file says, and each node that the file names has one there, or is named by the lines
-- that are left, which the line `comment` precedes
pub record IsReading (bytes : List ℕ) (g : LinkGraph) (comment left : List ℕ) (told : List (Option (List ℕ)))
    : Type 0 where
  pub said : (n : ℕ) (s : List ℕ) → IsNamed (names_of g told) n s → NameSaid bytes n s
  pub rest : (n : ℕ) (s : List ℕ) → AreNaming comment (lines left) n s → NameSaid bytes n s
  pub all : (n : ℕ) (s : List ℕ) → Has g.nodes n → NameSaid bytes n s
      → ((t : List ℕ) × IsNamed (names_of g told) n t) ⊎ AreNaming comment (lines left) n s

pub begun : (bytes : List ℕ) (g : LinkGraph) (told : List (Option (List ℕ)))
    → ((p : ℕ) → get_or told p None ≡ None) → IsReading bytes g [] bytes told
begun bytes g told none = record {
  said = λ n s h. let e : None ≡ Some s = sym (none h.0) ∙ h.3 in absurd (cc);
  rest = λ n s h. h;
  all = λ n s has h. inr h;
}

first : Option (ℕ × List ℕ) → ℕ
first None = 0
first (Some said) = said.0

same_said : (n m : ℕ) (s t : List ℕ) (o : Option (ℕ × List ℕ)) → o ≡ Some (n, s) → o ≡ Some (m, t) → m ≡ n
unfolding first
same_said n m s t o e f = sym (ap first f) ∙ ap first e

-- a line behind a comment that names the node
pub named : (bytes : List ℕ) (g : LinkGraph) (comment left line later : List ℕ) (told new : List (Option (List ℕ)))
    (n : ℕ) (name : List ℕ) → IsReading bytes g comment left told → 0 < length left → (line, later) ≡ first_line left
    → IsNamedBy comment line n name → Keeps g n name told new → IsReading bytes g line later new
named bytes g comment left line later told new n name r some split_off by keeps =
    let split : lines left ≡ line ∷ lines later = lines_first left line later some split_off in
    let rest : (m : ℕ) (s : List ℕ) → AreNaming comment (line ∷ lines later) m s → NameSaid bytes m s = λ m s h.
    r.rest m s (subst (λ (ls : List (List ℕ)). AreNaming comment ls m s) (sym split) h) in
    record {
      said = λ m s h. elim (keeps.from m s h) [
        | inl old ↦ r.said m s old
        | inr same ↦ subst (λ (i : ℕ). NameSaid bytes i s) (sym same.0)
            (subst (NameSaid bytes n) (sym same.1) (rest n name (inl by)))
      ];
      rest = λ m s h. rest m s (inr h);
      all = λ m s has h. elim (r.all m s has h) [
        | inl old ↦ inl (keeps.stay m old.0 old.1)
        | inr naming ↦ elim (subst (λ (ls : List (List ℕ)). AreNaming comment ls m s) split naming) [
          | inl again ↦
              let e : m ≡ n = same_said n m name s (comment_said comment) by.0 again.0 in
              inl (subst (λ (i : ℕ). (t : List ℕ) × IsNamed (names_of g new) i t) (sym e)
              (keeps.gains (subst (Has g.nodes) e has)))
          | inr behind ↦ inr behind
        ]
      ];
    }

-- any other line
pub unnamed : (bytes : List ℕ) (g : LinkGraph) (comment left line later : List ℕ) (told : List (Option (List ℕ)))
    → IsReading bytes g comment left told → 0 < length left → (line, later) ≡ first_line left
    → ((n : ℕ) (name : List ℕ) → ¬ IsNamedBy comment line n name) → IsReading bytes g line later told
unnamed bytes g comment left line later told r some first none =
    let split : lines left ≡ line ∷ lines later = lines_first left line later some first in
    record {
      said = r.said;
      rest = λ m s h. r.rest m s (subst (λ (ls : List (List ℕ)). AreNaming comment ls m s) (sym split) (inr h));
      all = λ m s has h. elim (r.all m s has h) [
        | inl old ↦ inl old
        | inr naming ↦ elim (subst (λ (ls : List (List ℕ)). AreNaming comment ls m s) split naming) [
          | inl by ↦ absurd (none m s by)
          | inr behind ↦ inr behind
        ]
      ];
    }

-- one line more
pub line_taken : (bytes : List ℕ) (g : LinkGraph) (comment left line later : List ℕ)
    (told new : List (Option (List ℕ))) → IsReading bytes g comment left told → length later < length left
    → (line, later) ≡ first_line left → TakesLine g comment line told new → IsReading bytes g line later new
line_taken bytes g comment left line later told new r shorter split_off (inl taken) =
    named bytes g comment left line later told new taken.0 taken.1 r (omega (arith, shorter)) split_off taken.2 taken.3
line_taken bytes g comment left line later told new r shorter split_off (inr taken) =
    subst (IsReading bytes g line later) (sym taken.1)
    (unnamed bytes g comment left line later told r (omega (arith, shorter)) split_off taken.0)

no_lines : (left : List ℕ) → length left ≡ 0 → lines left ≡ []
no_lines [] none = refl
no_lines (b ∷ left) none = absurd (omega (arith, none))

-- no line is left
pub all_read : (bytes : List ℕ) (g : LinkGraph) (comment left : List ℕ) (told : List (Option (List ℕ)))
    → IsReading bytes g comment left told → length left ≡ 0 → AreNamesOf bytes g (names_of g told)
all_read bytes g comment left told r none = record {
  graph = refl;
  said = r.said;
  all = λ n s has h. elim (r.all n s has h) [
    | inl named ↦ named
    | inr naming ↦
        absurd (subst (λ (ls : List (List ℕ)). AreNaming comment ls n s) (no_lines left none) naming)
  ];
}
