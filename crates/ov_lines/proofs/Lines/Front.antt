-- A line in front of a text.
use Rattle.std.proofs.Common.{◌≡◌, ◌∙◌, ◌<◌, ◌+◌, ◌-◌, ◌==◌, ◌&&◌, ℕ, zero, suc, Bool, true, false, not}
use Rattle.std.proofs.Common.{if◌then◌else◌, List, [], ◌∷◌, ◌++◌, length, take, refl, ap, arith, slice_index}
use Rattle.std.specs.List.{list_all, slice_split}
use Rattle.std.specs.Str.Lines.{lines, lines_of_parts, strip_carriage_return}
use Rattle.std.proofs.lemmas.Bool.{and_from, and_parts}
use Rattle.std.proofs.lemmas.Bool.Decides.{nat_tests}
use Rattle.std.proofs.lemmas.List.Folds.{list_all-append}
use Rattle.std.proofs.lemmas.List.Sums.{AllPass-from_list_all}
use Rattle.std.proofs.lemmas.List.Splits.{slice_split_at, length-slice_split}
use Rattle.ov_lines.specs.Lines.{is_skipped, kept_from}

-- a byte that may stand in a line: no line feed and no carriage return
abbrev pub in_line : ℕ → Bool
in_line b = not (b == 10) && not (b == 13)

-- the byte of a line feed
abbrev is_feed : ℕ → Bool
is_feed b = b == 10

-- a test passes for two texts put together
pub all_joined :
    (p : ℕ → Bool) (front back : List ℕ) → list_all p front ≡ true → list_all p back ≡ true
    → list_all p (front ++ back) ≡ true
all_joined p front back first second =
    list_all-append p front back ∙ and_from (list_all p front) (list_all p back) first second

no_feed : (b : ℕ) → in_line b ≡ true → is_feed b ≡ false
no_feed b clean =
    let other = (and_parts (not (b == 10)) (not (b == 13)) clean).0 in
    grind (arith, nat_tests)

-- no byte of a line is a carriage return, the last one neither
not_returned : (line : List ℕ) (k : ℕ) → list_all in_line line ≡ true → (slice_index line k == 13) ≡ false
not_returned [] k clean = refl
not_returned (b ∷ line) zero clean =
    let here = (and_parts (in_line b) (list_all in_line line) clean).0 in
    let other = (and_parts (not (b == 10)) (not (b == 13)) here).1 in
    grind (arith, nat_tests)
not_returned (b ∷ line) (suc k) clean =
    not_returned line k (and_parts (in_line b) (list_all in_line line) clean).1

-- a part before others is a line
pub line_part :
    (part : List ℕ) (parts : List (List ℕ)) → 0 < length parts
    → lines_of_parts (part ∷ parts) ≡ strip_carriage_return part ∷ lines_of_parts parts
line_part part [] some = absurd (omega arith)
line_part part (next ∷ parts) some = refl

-- the first line, and the lines behind it
pub first_line :
    (line rest : List ℕ) → list_all in_line line ≡ true
    → lines (line ++ 10 ∷ rest) ≡ line ∷ lines rest
first_line line rest clean =
    let all = AllPass-from_list_all in_line line clean in
    let some : 0 < length (slice_split is_feed rest) = omega (arith, length-slice_split is_feed rest) in
    ap lines_of_parts (slice_split_at is_feed line 10 rest (λ k d within. no_feed _ (all k d within)) refl)
    ∙ line_part line (slice_split is_feed rest) some
    ∙ ap (λ t. (if t then take (length line - 1) line else line) ∷ lines rest)
    (not_returned line (length line - 1) clean)

-- a line that is not skipped
pub kept_first :
    (n : ℕ) (line rest : List ℕ) → list_all in_line line ≡ true → is_skipped line ≡ false
    → kept_from n (lines (line ++ 10 ∷ rest)) ≡ (n, line) ∷ kept_from (n + 1) (lines rest)
unfolding kept_from
kept_first n line rest clean kept =
    ap (kept_from n) (first_line line rest clean)
    ∙ ap (λ t. (if t then [] else (n, line) ∷ []) ++ kept_from (n + 1) (lines rest)) kept

-- a line that is skipped
pub skipped_first :
    (n : ℕ) (line rest : List ℕ) → list_all in_line line ≡ true → is_skipped line ≡ true
    → kept_from n (lines (line ++ 10 ∷ rest)) ≡ kept_from (n + 1) (lines rest)
unfolding kept_from
skipped_first n line rest clean skipped =
    ap (kept_from n) (first_line line rest clean)
    ∙ ap (λ t. (if t then [] else (n, line) ∷ []) ++ kept_from (n + 1) (lines rest)) skipped
