-- A line that says that two names are peers of each other, as `a b`, `a,b` or `a b {'weight': 3}`. The last is what
-- NetworkX writes. The form is chosen here.
use Rattle.std.specs.Prelude.{◌≡◌, ◌≢◌, ◌⊎◌, ⊤, ℕ, Bool, true, false, IsTrue, not, nat_eq, ◌&&◌, ◌||◌}
use Rattle.std.specs.Prelude.{List, [], ◌∷◌, ◌++◌, IsUtf8, if◌then◌else◌}
use Rattle.std.specs.List.{AllByRecursion}
use Rattle.ov_dump.specs.declared.unread_edge_line_reason.Why.{Why}
use Rattle.ov_dump.specs.declared.unread_edge_line_reason.Why.TheVariants.{CommaFirst, TwoCommas, CommaLast, OneName}
use Rattle.ov_dump.specs.declared.unread_edge_line_reason.Why.TheVariants.{ThirdWord, NoText}

-- a space or a tab
abbrev pub is_blank : ℕ → Bool
is_blank b = nat_eq b 32 || nat_eq b 9

-- a byte that a name may have: no space, no tab and no comma
abbrev pub is_name_byte : ℕ → Bool
is_name_byte b = not (is_blank b || nat_eq b 44)

-- with this byte, `#` or `{`, the words of a line begin that say no name
abbrev pub is_mark : ℕ → Bool
is_mark b = nat_eq b 35 || nat_eq b 123

-- what stands before the first mark that begins a word; whether the first byte begins a word is given
abbrev pub before_mark : Bool → List ℕ → List ℕ
before_mark begins [] = []
before_mark begins (b ∷ rest) = if begins && is_mark b then [] else b ∷ before_mark (is_blank b) rest

-- only spaces and tabs
abbrev pub AreBlanks : List ℕ → Type 0
AreBlanks text = AllByRecursion (λ b. IsTrue (is_blank b)) text

-- a name: text of one byte or more, without spaces, tabs and commas
pub record IsWord (name : List ℕ) : Type 0 where
  pub some : name ≢ []
  pub bytes : AllByRecursion (λ b. IsTrue (is_name_byte b)) name
  pub text : IsUtf8 name

-- one comma, with spaces and tabs around it
abbrev pub IsComma : List ℕ → Type 0
IsComma gap = (front back : List ℕ) × (gap ≡ front ++ 44 ∷ back) × AreBlanks front × AreBlanks back

-- what stands between two names: spaces and tabs, at least one; or one comma, with spaces and tabs around it
abbrev pub IsGap : List ℕ → Type 0
IsGap gap = (AreBlanks gap × (gap ≢ [])) ⊎ IsComma gap

-- the line says nothing
abbrev pub IsBlankLine : List ℕ → Type 0
IsBlankLine line = AreBlanks (before_mark true line)

-- the line says these two names
abbrev pub IsEdge : List ℕ → List ℕ → List ℕ → Type 0
IsEdge line a b = (front gap back : List ℕ) × (before_mark true line ≡ front ++ (a ++ (gap ++ (b ++ back))))
    × AreBlanks front × IsWord a × IsGap gap × IsWord b × AreBlanks back

-- the line can be read
abbrev pub IsReadable : List ℕ → Type 0
IsReadable line = IsBlankLine line ⊎ ((a b : List ℕ) × IsEdge line a b)

-- ---- lines that can't be read

-- one byte or more that a name may have, which need not be text
abbrev pub IsSpelled : List ℕ → Type 0
IsSpelled name = (name ≢ []) × AllByRecursion (λ b. IsTrue (is_name_byte b)) name

-- the text goes on with no byte that a name may have
abbrev pub EndsName : List ℕ → Type 0
EndsName [] = ⊤
EndsName (b ∷ rest) = is_name_byte b ≡ false

-- the line has these two names, and this behind them
abbrev pub HasTwoNames : List ℕ → List ℕ → List ℕ → List ℕ → Type 0
HasTwoNames line a b back = (front gap : List ℕ) × (before_mark true line ≡ front ++ (a ++ (gap ++ (b ++ back))))
    × AreBlanks front × IsSpelled a × IsGap gap × IsSpelled b

-- why a line can't be read: it begins with a comma; or two commas stand in it, with nothing between them; or one comma
-- behind the second name, and nothing else; or it has one name alone; or this word stands behind the second name; or it
-- has two names that are not both text
abbrev pub IsWhy : List ℕ → Why → Type 0
IsWhy line CommaFirst = (front rest : List ℕ) × (before_mark true line ≡ front ++ 44 ∷ rest) × AreBlanks front
IsWhy line TwoCommas =
    (front gap rest : List ℕ) × (before_mark true line ≡ front ++ 44 ∷ (gap ++ 44 ∷ rest)) × AreBlanks gap
IsWhy line CommaLast = (a b back : List ℕ) × HasTwoNames line a b back × IsComma back
IsWhy line OneName = (front name back : List ℕ) × (before_mark true line ≡ front ++ (name ++ back)) × AreBlanks front
    × IsSpelled name × (AreBlanks back ⊎ IsComma back)
IsWhy line (ThirdWord word) = (a b gap rest : List ℕ) × HasTwoNames line a b (gap ++ (word ++ rest)) × IsGap gap
    × IsSpelled word × EndsName rest
IsWhy line NoText = (a b back : List ℕ) × HasTwoNames line a b back × AreBlanks back × (¬ (IsUtf8 a × IsUtf8 b))
