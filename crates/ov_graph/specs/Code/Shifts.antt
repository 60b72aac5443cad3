-- Rows and words of bits in private contracts: a bit inserted into a row or removed from it, the first set bit of a
-- word, and places of which something holds.
use Rattle.std.specs.Prelude.{◌≡◌, ◌⊎◌, ℕ, ◌+◌, ◌-◌, ◌<◌, ◌≤◌, List}
use Rattle.std.specs.Int.{bit_at}
use Rattle.ov_graph.specs.Row.{HasBit, word_bits}

-- bit q is set after a bit 0 is inserted at place p: the bits from p on move one place up
abbrev pub HasOpened : List ℕ → ℕ → ℕ → Type 0
HasOpened row p q = ((q < p) × HasBit row q) ⊎ ((p < q) × HasBit row (q - 1))

-- bit q is set after the bit at place p is removed: the bits after p move one place down
abbrev pub HasClosed : List ℕ → ℕ → ℕ → Type 0
HasClosed row p q = ((q < p) × HasBit row q) ⊎ ((p ≤ q) × HasBit row (q + 1))

-- t is the first set bit of a word from bit `start` on
pub record IsLowestFrom (word start t : ℕ) : Type 0 where
  pub reached : start ≤ t
  pub below : t < word_bits
  pub set : bit_at word t ≡ 1
  pub first : (i : ℕ) → start ≤ i → i < t → bit_at word i ≡ 0

-- P holds for no place from `from` on before `end`
abbrev pub HoldsNowhere : (ℕ → Type 0) → ℕ → ℕ → Type 0
HoldsNowhere P from end = (q : ℕ) → from ≤ q → q < end → ¬ P q
