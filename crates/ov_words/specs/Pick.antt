-- Random choices, and the random words that they are drawn from. How a word picks a member is chosen here. A set is
-- written as its members in ascending order.
use Rattle.std.specs.Prelude.{◌≡◌, ◌≤◌, ℕ, ◌%◌, List, [], ◌∷◌, length, slice_get, Some}

-- a set and a member chosen from it; the rules of the protocol allow any member
pub record Choice : Type 0 where
  pub from : List ℕ
  pub member : ℕ

-- d is the member that the word picks from the set: member number `word mod size`, counted from 0. The empty set has
-- none.
abbrev pub IsPick : List ℕ → ℕ → ℕ → Type 0
IsPick set word d = slice_get set (word % length set) ≡ Some d

-- the words pick these choices, one word for each and in order, and then these words are left
abbrev pub AreDrawn : List Choice → List ℕ → List ℕ → Type 0
AreDrawn [] words left = left ≡ words
AreDrawn (c ∷ choices) [] left = ⊥
AreDrawn (c ∷ choices) (word ∷ words) left = IsPick c.from word c.member × AreDrawn choices words left

-- some choices with the property P are drawn from the words `before`, and leave the words `after`
abbrev pub Drawn : List ℕ → List ℕ → (List Choice → Type 0) → Type 0
Drawn before after P = (choices : List Choice) × AreDrawn choices before after × P choices

-- the words suffice for choices with the property P, whatever they are: there is a word for each of them
abbrev pub Suffice : List ℕ → (List Choice → Type 0) → Type 0
Suffice words P = (choices : List Choice) → P choices → length choices ≤ length words
