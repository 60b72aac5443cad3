-- Rows of bits: lists of words of 64 bits.
use Rattle.std.specs.Prelude.{ℕ, suc, ◌+◌, ◌*◌, ◌/◌, ◌%◌, ◌<◌, ◌≤◌, ◌==◌, Bool, IsTrue, List, [], ◌∷◌, slice_index}
use Rattle.std.specs.Prelude.{if◌then◌else◌}
use Rattle.std.specs.Int.{bit_at}

-- how many bits a word has
abbrev pub word_bits : ℕ
word_bits = 64

-- whether bit p is set: bit p mod 64 of word p / 64, where 64 is `word_bits`
unfoldable pub has_bit : List ℕ → ℕ → Bool
has_bit row p = bit_at (slice_index row (p / word_bits)) (p % word_bits) == 1

-- bit p is set
abbrev pub HasBit : List ℕ → ℕ → Type 0
HasBit row p = IsTrue (has_bit row p)

-- the nodes of xs whose bit is set. The first of xs is at place p
unfoldable pub picked : List ℕ → ℕ → List ℕ → List ℕ
picked row p [] = []
picked row p (x ∷ xs) = if has_bit row p then x ∷ picked row (suc p) xs else picked row (suc p) xs

-- p is the first set bit from `from` on
pub record IsFirstFrom (row : List ℕ) (from p : ℕ) : Type 0 where
  pub reached : from ≤ p
  pub set : HasBit row p
  pub first : (q : ℕ) → from ≤ q → q < p → ¬ HasBit row q

-- `words` is the lowest number of words with bits for n places
pub record AreWordsFor (n words : ℕ) : Type 0 where
  pub enough : n ≤ word_bits * words
  pub least : word_bits * words < n + word_bits
