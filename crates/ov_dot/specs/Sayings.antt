-- What the statements of a file say.
use Rattle.std.specs.Prelude.{Bool, true, false, List, [], ◌∷◌, ◌++◌}
use Rattle.ov_dot.specs.Tokens.{Lexeme}

-- names that have entries, and which name lists which, in their order
pub record Said : Type 0 where
  pub entries : List Lexeme
  pub listings : List (Lexeme × Lexeme)

-- nothing
abbrev pub nothing_said : Said
nothing_said = record { entries = []; listings = [] }

-- an edge is said: in a digraph the first end has an entry and lists the second; in a graph both have entries, and each
-- lists the other
abbrev pub with_edge : Bool → Lexeme → Lexeme → Said → Said
with_edge true a b said = record { entries = said.entries ++ a ∷ []; listings = said.listings ++ (a, b) ∷ [] }
with_edge false a b said = record {
  entries = said.entries ++ a ∷ b ∷ [];
  listings = said.listings ++ (a, b) ∷ (b, a) ∷ [];
}
