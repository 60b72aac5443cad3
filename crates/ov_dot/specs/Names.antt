-- The text of a name: what an identifier, a numeral or a quoted text of DOT says.
use Rattle.std.specs.Prelude.{ℕ, ◌-◌, Bool, false, not, ◌&&◌, ◌==◌, nat_lt, List, [], ◌∷◌, ◌++◌, length}
use Rattle.std.specs.Prelude.{slice_range, if◌then◌else◌}
use Rattle.ov_dot.specs.Tokens.{Lexeme}
use Rattle.ov_dot.specs.declared.token.Kind.{Kind}
use Rattle.ov_dot.specs.declared.token.Kind.TheVariants.{Quoted}

-- what a backslash and the byte behind it say: a quote, nothing if a line feed follows, or else both bytes
abbrev pub escaped : ℕ → List ℕ
escaped b = if b == 34 then 34 ∷ [] else (if b == 10 then [] else 92 ∷ b ∷ [])

-- what a byte between two quotes says, behind a backslash that is still to be read or not
abbrev pub said_by : Bool → ℕ → List ℕ
said_by behind_backslash b = if behind_backslash then escaped b else (if b == 92 then [] else b ∷ [])

-- behind a byte a backslash is still to be read
abbrev pub begins_escape : Bool → ℕ → Bool
begins_escape behind_backslash b = not behind_backslash && b == 92

-- what the bytes between two quotes say. The flag says whether they stand behind a backslash that is still to be read
abbrev pub unquoted : Bool → List ℕ → List ℕ
unquoted behind_backslash [] = if behind_backslash then 92 ∷ [] else []
unquoted behind_backslash (b ∷ bs) = said_by behind_backslash b ++ unquoted (begins_escape behind_backslash b) bs

-- a text without its first and its last byte
abbrev pub inside : List ℕ → List ℕ
inside text = if nat_lt (length text) 2 then [] else slice_range text 1 (length text - 1)

-- the text of a name of this kind
abbrev pub text_by : Kind → List ℕ → List ℕ
text_by Quoted text = unquoted false (inside text)
text_by kind text = text

-- the text of a name
abbrev pub text_of : Lexeme → List ℕ
text_of t = text_by t.kind t.text
