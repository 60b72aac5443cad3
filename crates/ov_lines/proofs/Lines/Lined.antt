-- The lines of a file, one after the other.
use Rattle.std.proofs.Common.{◌≡◌, ◌∙◌, ◌<◌, ◌+◌, ◌-◌, ◌==◌, ℕ, suc, Bool, true, false, cond, not, ◌&&◌, nat_lt}
use Rattle.std.proofs.Common.{nat_eq, if◌then◌else◌, List, [], ◌∷◌, length, take, drop, refl, ap, sym, arith}
use Rattle.std.proofs.Common.{slice_index}
use Rattle.std.specs.List.{slice_split, onto_first, position_or_len, before_first, after_first}
use Rattle.std.specs.Cmp.Lexicographic.{pointwise}
use Rattle.std.specs.Str.Lines.{lines, lines_of_parts, strip_carriage_return}
use Rattle.std.proofs.lemmas.Bool.{ltb-true}
use Rattle.std.proofs.lemmas.Bool.Decides.{nat_tests}
use Rattle.std.proofs.lemmas.List.Splits.{slice_split_first, length-slice_split}
use Rattle.std.proofs.lemmas.List.Sums.{prefix_len-le-length}
use Rattle.ov_lines.specs.Lines.{is_feed, without_return, first_line}
use Rattle.ov_lines.proofs.Lines.Parted.{not_empty}

last_alone : (x : ℕ) (xs : List ℕ) → drop (length xs) (x ∷ xs) ≡ slice_index (x ∷ xs) (length xs) ∷ []
last_alone x [] = refl
last_alone x (y ∷ ys) = last_alone y ys

returned : (v : ℕ) → pointwise nat_eq (v ∷ []) (13 ∷ []) ≡ (v == 13)
returned v = by (nat_eq v 13) where
  by : (b : Bool) → (b && true) ≡ b
  by true = refl
  by false = refl

less_one : (n : ℕ) → suc n - 1 ≡ n
less_one n = omega arith

-- the carriage return is dropped as std's lines drop it
stripped : (line : List ℕ) → strip_carriage_return line ≡ without_return line
unfolding without_return
stripped [] = refl
stripped (x ∷ xs) = ap (λ t. if t then take (length (x ∷ xs) - 1) (x ∷ xs) else (x ∷ xs)) (sym tested) where
  tested : pointwise nat_eq (drop (length (x ∷ xs) - 1) (x ∷ xs)) (13 ∷ []) ≡
      (slice_index (x ∷ xs) (length (x ∷ xs) - 1) == 13)
  tested =
      ap (λ k. pointwise nat_eq (drop k (x ∷ xs)) (13 ∷ [])) (less_one (length xs))
      ∙ ap (λ ys. pointwise nat_eq ys (13 ∷ [])) (last_alone x xs)
      ∙ returned (slice_index (x ∷ xs) (length xs))
      ∙ ap (λ k. slice_index (x ∷ xs) k == 13) (sym (less_one (length xs)))

unsplit : (p : ℕ → Bool) (xs : List ℕ) → position_or_len p xs ≡ length xs → slice_split p xs ≡ xs ∷ []
unsplit p [] none = refl
unsplit p (x ∷ xs) none = by (p x) refl (unsplit p xs) where
  by : (t : Bool) → p x ≡ t → (position_or_len p xs ≡ length xs → slice_split p xs ≡ xs ∷ [])
      → slice_split p (x ∷ xs) ≡ (x ∷ xs) ∷ []
  by true e before =
      let first : 0 ≡ suc (length xs) = ap (λ t. cond (not t) (1 + position_or_len p xs) 0) (sym e) ∙ none in
      absurd (omega arith)
  by false e before =
      let later : 1 + position_or_len p xs ≡ suc (length xs) =
      ap (λ t. cond (not t) (1 + position_or_len p xs) 0) (sym e) ∙ none in
      ap (λ t. cond t ([] ∷ slice_split p xs) (onto_first x (slice_split p xs))) e
      ∙ ap (onto_first x) (before (omega arith))

parts_more : (line : List ℕ) (parts : List (List ℕ)) → 0 < length parts
    → lines_of_parts (line ∷ parts) ≡ strip_carriage_return line ∷ lines_of_parts parts
parts_more line [] some = absurd (omega arith)
parts_more line (next ∷ parts) some = refl

-- the first line where a line feed ends it
lines_cut : (bytes : List ℕ) → position_or_len is_feed bytes < length bytes
    → lines bytes ≡ without_return (before_first is_feed bytes) ∷ lines (after_first is_feed bytes)
lines_cut bytes found =
    let parts : 0 < length (slice_split is_feed (after_first is_feed bytes)) =
    omega (arith, length-slice_split is_feed (after_first is_feed bytes)) in
    ap lines_of_parts (slice_split_first is_feed bytes 0 found)
    ∙ parts_more (before_first is_feed bytes) (slice_split is_feed (after_first is_feed bytes)) parts
    ∙ ap (λ l. l ∷ lines (after_first is_feed bytes)) (stripped (before_first is_feed bytes))

-- bytes without a line feed are one line
lines_uncut : (b : ℕ) (bytes : List ℕ) → position_or_len is_feed (b ∷ bytes) ≡ length (b ∷ bytes)
    → lines (b ∷ bytes) ≡ (b ∷ bytes) ∷ lines []
lines_uncut b bytes none =
    ap lines_of_parts (unsplit is_feed (b ∷ bytes) none)
    ∙ ap (λ t. if t then [] else (b ∷ bytes) ∷ []) (not_empty (length bytes))

-- the first line, and the lines behind it
pub lines_first : (bytes line later : List ℕ) → 0 < length bytes → (line, later) ≡ first_line bytes
    → lines bytes ≡ line ∷ lines later
unfolding first_line
lines_first [] line later some first = absurd (omega arith)
lines_first (b ∷ bytes) line later some first =
    by (nat_lt (position_or_len is_feed (b ∷ bytes)) (length (b ∷ bytes))) refl
    ∙ ap (λ p. p.0 ∷ lines p.1) (sym first) where
      cut : Bool → List ℕ × List ℕ
      cut t = if t then (without_return (before_first is_feed (b ∷ bytes)), after_first is_feed (b ∷ bytes)) else
          (b ∷ bytes, [])

      by : (t : Bool) → nat_lt (position_or_len is_feed (b ∷ bytes)) (length (b ∷ bytes)) ≡ t
          → lines (b ∷ bytes) ≡ (cut t).0 ∷ lines (cut t).1
      by true found = lines_cut (b ∷ bytes) (ltb-true (position_or_len is_feed (b ∷ bytes)) (length (b ∷ bytes)) found)
      by false none =
          let bound = prefix_len-le-length (λ x. not (is_feed x)) (b ∷ bytes) in
          lines_uncut b bytes (grind (arith, nat_tests, bound))
