-- A text with one line more.
use Rattle.std.proofs.Common.{◌≡◌, ◌∙◌, ◌<◌, ◌+◌, ◌==◌, ◌||◌, inl, inr, ℕ, suc, Bool, true, false}
use Rattle.std.proofs.Common.{if◌then◌else◌, List, [], ◌∷◌, ◌++◌, length, map, refl, ap, sym}
use Rattle.std.proofs.Common.{arith, codes, append_assoc}
use Rattle.std.specs.List.{list_all, slice_split, onto_first}
use Rattle.std.specs.Str.Lines.{lines, lines_of_parts, strip_carriage_return}
use Rattle.std.proofs.lemmas.Bool.{and_parts, and_from}
use Rattle.std.proofs.lemmas.Bool.Decides.{nat_tests}
use Rattle.std.proofs.lemmas.List.{append-nil, length-append}
use Rattle.std.proofs.lemmas.List.Splits.{slice_split-cons_yes, slice_split-cons_no, length-slice_split}
use Rattle.ov_lines.specs.Lines.{is_skipped, kept_from, kept_lines, skips}
use Rattle.ov_lines.proofs.Lines.Front.{all_joined, first_line, in_line, line_part}
use Rattle.ov_lines.proofs.Lines.Written.{is_word, word_clean, words_next}
use Rattle.ov_script.specs.WrittenLines.{comment_line, ended, spaced, within_line}
use Rattle.ov_script.specs.Code.Kept.{EndsLine}

-- the byte of a line feed
abbrev is_feed : ℕ → Bool
is_feed b = b == 10

onto_joined :
    (x : ℕ) (front back : List (List ℕ)) → 0 < length front
    → onto_first x (front ++ back) ≡ onto_first x front ++ back
onto_joined x [] back some = absurd (omega arith)
onto_joined x (part ∷ front) back some = refl

-- the parts on both sides of a byte that splits
split_joined :
    (p : ℕ → Bool) (front : List ℕ) (c : ℕ) (back : List ℕ) → p c ≡ true
    → slice_split p (front ++ c ∷ back) ≡ slice_split p front ++ slice_split p back
split_joined p [] c back at = slice_split-cons_yes p c back at
split_joined p (x ∷ front) c back at = by (p x) refl (split_joined p front c back at) where
  by : (t : Bool) → p x ≡ t → slice_split p (front ++ c ∷ back) ≡ slice_split p front ++ slice_split p back
      → slice_split p (x ∷ front ++ c ∷ back) ≡ slice_split p (x ∷ front) ++ slice_split p back
  by true e before =
      slice_split-cons_yes p x (front ++ c ∷ back) e ∙ ap (λ ps. [] ∷ ps) before
      ∙ sym (ap (λ ps. ps ++ slice_split p back) (slice_split-cons_yes p x front e))
  by false e before =
      let some : 0 < length (slice_split p front) = omega (arith, length-slice_split p front) in
      slice_split-cons_no p x (front ++ c ∷ back) e ∙ ap (onto_first x) before
      ∙ onto_joined x (slice_split p front) (slice_split p back) some
      ∙ sym (ap (λ ps. ps ++ slice_split p back) (slice_split-cons_no p x front e))

parts_joined :
    (front back : List (List ℕ)) → 0 < length back
    → lines_of_parts (front ++ back) ≡ lines_of_parts (front ++ [] ∷ []) ++ lines_of_parts back
parts_joined [] back some = refl
parts_joined (part ∷ front) back some =
    let more : 0 < length (front ++ back) = omega (arith, length-append front back) in
    let last : 0 < length (front ++ [] ∷ []) = omega (arith, length-append front ([] ∷ [])) in
    line_part part (front ++ back) more
    ∙ ap (λ ls. strip_carriage_return part ∷ ls) (parts_joined front back some)
    ∙ sym (ap (λ ls. ls ++ lines_of_parts back) (line_part part (front ++ [] ∷ []) last))

-- lines after a text whose last line has a line feed
lines_behind : (text more : List ℕ) → lines ((text ++ 10 ∷ []) ++ more) ≡ lines (text ++ 10 ∷ []) ++ lines more
lines_behind text more =
    let some : 0 < length (slice_split is_feed more) = omega (arith, length-slice_split is_feed more) in
    ap lines (append_assoc text (10 ∷ []) more)
    ∙ ap lines_of_parts (split_joined is_feed text 10 more refl)
    ∙ parts_joined (slice_split is_feed text) (slice_split is_feed more) some
    ∙ sym (ap (λ ps. lines_of_parts ps ++ lines more) (split_joined is_feed text 10 [] refl))

lines_more : (text more : List ℕ) → EndsLine text → lines (text ++ more) ≡ lines text ++ lines more
lines_more text more (inl none) =
    ap (λ t. lines (t ++ more)) none ∙ sym (ap (λ t. lines t ++ lines more) none)
lines_more text more (inr (before, ends)) =
    ap (λ t. lines (t ++ more)) ends ∙ lines_behind before more ∙ sym (ap (λ t. lines t ++ lines more) ends)

-- the lines that are not skipped, after others
kept_joined :
    (n : ℕ) (front back : List (List ℕ))
    → kept_from n (front ++ back) ≡ kept_from n front ++ kept_from (n + length front) back
unfolding kept_from
kept_joined n [] back = let e : n ≡ n + 0 = omega arith in ap (λ k. kept_from k back) e
kept_joined n (line ∷ front) back =
    let e : n + 1 + length front ≡ n + suc (length front) = omega arith in
    let first : List (ℕ × List ℕ) = if is_skipped line then [] else (n, line) ∷ [] in
    ap (λ ls. first ++ ls) (kept_joined (n + 1) front back ∙ ap (λ k. kept_from (n + 1) front ++ kept_from k back) e)
    ∙ sym (append_assoc first (kept_from (n + 1) front) (kept_from (n + suc (length front)) back))

-- the lines of a text with one line more that are not skipped
kept_more :
    (text line : List ℕ) → EndsLine text → list_all in_line line ≡ true
    → kept_lines (text ++ ended line)
    ≡ kept_lines text ++ (if is_skipped line then [] else (1 + length (lines text), line) ∷ [])
unfolding kept_lines kept_from
kept_more text line ends clean =
    ap (kept_from 1) (lines_more text (ended line) ends ∙ ap (λ ls. lines text ++ ls) (first_line line [] clean))
    ∙ kept_joined 1 (lines text) (line ∷ [])
    ∙ ap (λ ls. kept_from 1 (lines text) ++ ls)
    (append-nil (if is_skipped line then [] else (1 + length (lines text), line) ∷ []))

-- a line that is skipped adds none
pub kept_skipped :
    (text line : List ℕ) → EndsLine text → list_all in_line line ≡ true → is_skipped line ≡ true
    → kept_lines (text ++ ended line) ≡ kept_lines text
kept_skipped text line ends clean skipped =
    kept_more text line ends clean
    ∙ ap (λ t. kept_lines text ++ (if t then [] else (1 + length (lines text), line) ∷ [])) skipped
    ∙ append-nil (kept_lines text)

-- another one is the last
pub kept_last :
    (text line : List ℕ) → EndsLine text → list_all in_line line ≡ true → is_skipped line ≡ false
    → kept_lines (text ++ ended line) ≡ kept_lines text ++ (1 + length (lines text), line) ∷ []
kept_last text line ends clean kept =
    kept_more text line ends clean
    ∙ ap (λ t. kept_lines text ++ (if t then [] else (1 + length (lines text), line) ∷ [])) kept

-- the last line has a line feed then
pub ends_line : (text line : List ℕ) → EndsLine (text ++ ended line)
ends_line text line = inr (text ++ line, sym (append_assoc text line (10 ∷ [])))

-- a comment stands on one line
within_clean : (b : ℕ) → in_line (within_line b) ≡ true
within_clean b = by ((b == 10) || (b == 13)) refl where
  by : (t : Bool) → ((b == 10) || (b == 13)) ≡ t → in_line (if t then 32 else b) ≡ true
  by true e = refl
  by false e = grind (arith, nat_tests)

all_within : (said : List ℕ) → list_all in_line (map within_line said) ≡ true
all_within [] = refl
all_within (b ∷ said) =
    and_from (in_line (within_line b)) (list_all in_line (map within_line said)) (within_clean b) (all_within said)

pub comment_clean : (said : List ℕ) → list_all in_line (comment_line said) ≡ true
unfolding comment_line
comment_clean said = all_joined in_line (codes "# ") (map within_line said) refl (all_within said)

-- a comment is skipped
pub comment_skipped : (said : List ℕ) → is_skipped (comment_line said) ≡ true
unfolding comment_line
comment_skipped said = ap skips (words_next (codes "#") (map within_line said) refl)

-- words with one space between two stand on one line
pub spaced_clean : (words : List (List ℕ)) → list_all is_word words ≡ true → list_all in_line (spaced words) ≡ true
unfolding spaced
spaced_clean [] are = refl
spaced_clean (word ∷ words) are =
    let (here, later) = and_parts (is_word word) (list_all is_word words) are in
    all_joined in_line word (spaced words) (word_clean word here) (spaced_clean words later)
