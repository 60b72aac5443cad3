-- Words with a space between two, and numbers as words.
use Rattle.std.proofs.Common.{◌≡◌, ◌∙◌, ◌<◌, ◌^◌, ◌&&◌, ℕ, Bool, true, false, cond, nat_lt, List, [], ◌∷◌, ◌++◌}
use Rattle.std.proofs.Common.{length, decimal, Some, ap, sym, refl, arith}
use Rattle.std.specs.List.{filter, list_all}
use Rattle.std.specs.Char.{digit_value}
use Rattle.std.specs.Str.Parse.{AllDigits}
use Rattle.std.proofs.lemmas.Bool.{and_from, and_parts, lt-ltb}
use Rattle.std.proofs.lemmas.Bool.Decides.{nat_tests}
use Rattle.std.proofs.lemmas.Fmt.{decimal_is_IsNumeral}
use Rattle.std.proofs.lemmas.Str.Parse.{digit_from_value}
use Rattle.std.proofs.lemmas.List.Sums.{AllPass-from_list_all, list_all-from_AllPass}
use Rattle.std.proofs.lemmas.List.Splits.{slice_split_at, slice_split_none}
use Rattle.ov_ids.specs.Limits.{number_limit}
use Rattle.ov_lines.specs.Lines.{is_space, number_within, short_bits, words_of}
use Rattle.ov_lines.proofs.Lines.Numerals.{numbered}
use Rattle.ov_lines.proofs.Lines.Front.{in_line}

-- a byte above the space, which is one of a word
abbrev pub in_word : ℕ → Bool
in_word b = nat_lt 32 b

-- a word: some bytes of this kind
abbrev pub is_word : List ℕ → Bool
is_word word = nat_lt 0 (length word) && list_all in_word word

no_space : (b : ℕ) → in_word b ≡ true → is_space b ≡ false
no_space b in_it = grind (arith, nat_tests)

-- the first word before a space
pub words_next :
    (word rest : List ℕ) → is_word word ≡ true
    → words_of (word ++ 32 ∷ rest) ≡ word ∷ words_of rest
unfolding words_of
words_next word rest is =
    let (some, solid) = and_parts (nat_lt 0 (length word)) (list_all in_word word) is in
    let all = AllPass-from_list_all in_word word solid in
    ap (filter (λ part. nat_lt 0 (length part)))
    (slice_split_at is_space word 32 rest (λ k d within. no_space _ (all k d within)) refl)
    ∙ ap (λ t. cond t (word ∷ words_of rest) (words_of rest)) some

-- one word alone
pub words_alone : (word : List ℕ) → is_word word ≡ true → words_of word ≡ word ∷ []
unfolding words_of
words_alone word is =
    let (some, solid) = and_parts (nat_lt 0 (length word)) (list_all in_word word) is in
    let all = AllPass-from_list_all in_word word solid in
    ap (filter (λ part. nat_lt 0 (length part)))
    (slice_split_none is_space word (λ k d within. no_space _ (all k d within)))
    ∙ ap (λ t. cond t (word ∷ []) []) some

digit_solid : (c : ℕ) → digit_value c < 10 → in_word c ≡ true
digit_solid c digit = let range = digit_from_value c digit in lt-ltb 32 c (omega (arith, range.0))

digits_solid : (ds : List ℕ) → AllDigits 10 ds → list_all in_word ds ≡ true
digits_solid [] digits = refl
digits_solid (c ∷ ds) digits =
    and_from (in_word c) (list_all in_word ds) (digit_solid c digits.0) (digits_solid ds digits.1)

-- a number is a word
pub numeral_word : (n : ℕ) → n < 2 ^ 64 → is_word (decimal n) ≡ true
numeral_word n low =
    let is = (decimal_is_IsNumeral n low).0 in
    and_from (nat_lt 0 (length (decimal n))) (list_all in_word (decimal n)) (lt-ltb 0 (length (decimal n)) is.0)
    (digits_solid (decimal n) is.1)

-- and is read back
pub numeral_read : (bits n : ℕ) → n < 2 ^ 64 → n < 2 ^ bits → number_within bits (decimal n) ≡ Some n
numeral_read bits n low fits =
    let is = decimal_is_IsNumeral n low in
    numbered bits n (decimal n) is.0 (sym is.1) fits

-- the same of an id
pub id_word : (n : ℕ) → n < number_limit → is_word (decimal n) ≡ true
id_word n low = numeral_word n (omega (arith, low))

pub id_read : (n : ℕ) → n < number_limit → number_within short_bits (decimal n) ≡ Some n
id_read n low = numeral_read short_bits n (omega (arith, low)) (omega (arith, low))

-- a word stands on one line
word_byte : (b : ℕ) → in_word b ≡ true → in_line b ≡ true
word_byte b in_it = grind (arith, nat_tests)

pub word_clean : (word : List ℕ) → is_word word ≡ true → list_all in_line word ≡ true
word_clean word is =
    let solid = (and_parts (nat_lt 0 (length word)) (list_all in_word word) is).1 in
    let all = AllPass-from_list_all in_word word solid in
    list_all-from_AllPass in_line word (λ k d within. word_byte _ (all k d within))
