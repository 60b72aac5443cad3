-- The lines of a file that count, the words of a line, and the numbers that words spell. These words are pieces of the
-- line, and not random words. The form of the files is chosen here.
use Rattle.std.specs.Prelude.{ℕ, ◌+◌, ◌-◌, ◌^◌, Bool, true, not, IsTrue, nat_lt, nat_le, nat_eq, ◌&&◌, List, [], ◌∷◌}
use Rattle.std.specs.Prelude.{◌++◌}
use Rattle.std.specs.Prelude.{length, take, drop, codes, Option, Some, None, unwrap_or, if◌then◌else◌}
use Rattle.std.specs.List.{filter, position, position_or_len, before_first, after_first, slice_split, starts_with}
use Rattle.std.specs.Cmp.Lexicographic.{pointwise}
use Rattle.std.specs.Str.{all_ascii_digits}
use Rattle.std.specs.Str.Lines.{lines}
use Rattle.std.specs.Str.Parse.{digits_value}
use Rattle.ov_ids.specs.Workers.{most_workers}
use Rattle.ov_ids.specs.Options.{◌>>=◌}

-- ---- words

-- the byte of a space
abbrev pub is_space : ℕ → Bool
is_space b = nat_eq b 32

-- any other byte
abbrev pub is_no_space : ℕ → Bool
is_no_space b = not (nat_eq b 32)

-- the words of a line: the parts between its spaces that are not empty
unfoldable pub words_of : List ℕ → List (List ℕ)
words_of line = filter (λ part. nat_lt 0 (length part)) (slice_split is_space line)

-- the place of the first byte that passes, or the end if none does
abbrev pub place_or_end : (ℕ → Bool) → List ℕ → ℕ
place_or_end p text = unwrap_or (position p text) (length text)

-- the text without the spaces that it begins with
abbrev pub without_spaces : List ℕ → List ℕ
without_spaces text = drop (place_or_end is_no_space text) text

-- what follows the first word of a line
abbrev pub behind_word : List ℕ → List ℕ
behind_word line = drop (place_or_end is_space (without_spaces line)) (without_spaces line)

-- the text without one space, if it begins with one
abbrev pub without_space : List ℕ → List ℕ
without_space text = if starts_with nat_eq text (codes " ") then drop 1 text else text

-- two words have the same bytes
abbrev pub same : List ℕ → List ℕ → Bool
same v w = pointwise nat_eq v w

-- the first of these words is this one
abbrev pub BeginsWith : List ℕ → List (List ℕ) → Type 0
BeginsWith name [] = ⊥
BeginsWith name (word ∷ more) = IsTrue (same word name)

-- what is in the first row with this name, or `otherwise` if no row has it
abbrev pub row : {A : Type 0} → List ℕ → List (List ℕ × Option A) → Option A → Option A
row name [] otherwise = otherwise
row name (first ∷ rows) otherwise = if same name first.0 then first.1 else row name rows otherwise

-- ---- lines

-- the byte of a line feed
abbrev pub is_feed : ℕ → Bool
is_feed b = nat_eq b 10

-- the line without one carriage return at its end, if it ends with one
unfoldable pub without_return : List ℕ → List ℕ
without_return line =
    if pointwise nat_eq (drop (length line - 1) line) (13 ∷ []) then take (length line - 1) line else line

-- the first line, without its line feed and one carriage return before that, and what is left after it; without a line
-- feed all bytes are one line
unfoldable pub first_line : List ℕ → List ℕ × List ℕ
first_line bytes =
    if nat_lt (position_or_len is_feed bytes) (length bytes)
    then (without_return (before_first is_feed bytes), after_first is_feed bytes)
    else (bytes, [])

-- a line with these words is skipped: it has no word, or it is a comment, whose first word begins with `#`
abbrev pub skips : List (List ℕ) → Bool
skips [] = true
skips (name ∷ rest) = starts_with nat_eq name (codes "#")

-- a line is skipped
abbrev pub is_skipped : List ℕ → Bool
is_skipped line = skips (words_of line)

-- of these lines, those that are not skipped, in order, each with its number; the first of all these lines has this
-- number
unfoldable pub kept_from : ℕ → List (List ℕ) → List (ℕ × List ℕ)
kept_from n [] = []
kept_from n (line ∷ more) = (if is_skipped line then [] else (n, line) ∷ []) ++ kept_from (n + 1) more

-- the lines of a file that are not skipped, each with its number. All lines are counted, from 1. They end by a line
-- feed, which the last may lack, and one carriage return right before it is dropped
unfoldable pub kept_lines : List ℕ → List (ℕ × List ℕ)
kept_lines bytes = kept_from 1 (lines bytes)

-- ---- numbers

-- the bits of an id, a moment, a parameter, a place of a packet and a number of a broadcast
abbrev pub short_bits : ℕ
short_bits = 32

-- the bits of a seed and of a random word
abbrev pub long_bits : ℕ
long_bits = 64

-- the number that a word of decimal digits spells, if it fits this many bits
unfoldable pub number_within : ℕ → List ℕ → Option ℕ
number_within bits word =
    if (nat_lt 0 (length word) && all_ascii_digits word) && nat_lt (digits_value 10 word) (2 ^ bits)
    then Some (digits_value 10 word)
    else None

-- one number that fits this many bits, and no further word
abbrev pub one : ℕ → List (List ℕ) → Option ℕ
one bits [] = None
one bits (v ∷ []) = number_within bits v
one bits (v ∷ w ∷ more) = None

-- two numbers of the bits of an id, and no further word
abbrev pub two : List (List ℕ) → Option (ℕ × ℕ)
two [] = None
two (v ∷ more) = number_within short_bits v >>= λ a. one short_bits more >>= λ b. Some (a, b)

-- three numbers of the bits of an id, and no further word
abbrev pub three : List (List ℕ) → Option (ℕ × (ℕ × ℕ))
three [] = None
three (v ∷ more) = number_within short_bits v >>= λ a. two more >>= λ b. Some (a, b)

-- each word spells a number that fits this many bits
abbrev pub each_number : ℕ → List (List ℕ) → Option (List ℕ)
each_number bits [] = Some []
each_number bits (w ∷ more) = number_within bits w >>= λ n. each_number bits more >>= λ ns. Some (n ∷ ns)

-- ---- numbers of workers

-- the number, if there may be this many workers: from 1 to `most_workers`
abbrev pub as_workers : ℕ → Option ℕ
as_workers n = if nat_le 1 n && nat_le n most_workers then Some n else None

-- the number of workers that a word spells
abbrev pub workers_of : List ℕ → Option ℕ
workers_of word = number_within short_bits word >>= as_workers

-- the number of workers that the first word spells, and the words after it
abbrev pub workers_first : List (List ℕ) → Option (ℕ × List (List ℕ))
workers_first [] = None
workers_first (w ∷ more) = workers_of w >>= λ n. Some (n, more)

-- ---- lists of ids

-- the byte of a comma
abbrev pub is_comma : ℕ → Bool
is_comma b = nat_eq b 44

-- the ids that one word spells: at least one number, with one comma between two
unfoldable pub ids_of : List ℕ → Option (List ℕ)
ids_of word = each_number short_bits (slice_split is_comma word)

-- the ids that one word spells, and no further word
abbrev pub one_list : List (List ℕ) → Option (List ℕ)
one_list [] = None
one_list (v ∷ []) = ids_of v
one_list (v ∷ w ∷ more) = None
