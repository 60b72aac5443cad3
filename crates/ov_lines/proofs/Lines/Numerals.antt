-- What decimal digits spell, and a test that finds it.
use Rattle.std.proofs.Common.{◌≡◌, ◌<◌, ◌^◌, ℕ, Bool, true, false, ◌&&◌, nat_lt, List, [], ◌∷◌, length, Option, Some}
use Rattle.std.proofs.Common.{None, if◌then◌else◌, IfSome, IfNone, refl, ap, sym, subst, arith, ◌+◌, ◌*◌, ◌≤◌, drop}
use Rattle.std.proofs.Common.{get_or}
use Rattle.std.specs.Str.{all_ascii_digits}
use Rattle.std.specs.Char.{digit_value}
use Rattle.std.specs.Str.Parse.{IsNumeral, AllDigits, digits_value_after, digits_value}
use Rattle.std.proofs.lemmas.Str.Parse.{tells_all_ascii_digits, digit_from_value}
use Rattle.std.proofs.lemmas.Str.{digit_value_digit}
use Rattle.std.proofs.lemmas.List.{drop_more}
use Rattle.std.proofs.lemmas.Bool.{lt-ltb, ltb-true, false≢true}
use Rattle.ov_lines.specs.Lines.{number_within}

both : (a b : Bool) → (a && b) ≡ true → (a ≡ true) × (b ≡ true)
both true b e = (refl, e)
both false b e = absurd (false≢true e)

digits_tested : (word : List ℕ) → AllDigits 10 word → all_ascii_digits word ≡ true
digits_tested [] digits = refl
digits_tested (c ∷ cs) digits =
    tells_all_ascii_digits.more c cs (digit_from_value c digits.0) (digits_tested cs digits.1)

tested_digits : (word : List ℕ) → all_ascii_digits word ≡ true → AllDigits 10 word
tested_digits [] test = tt
tested_digits (c ∷ cs) test =
    let parts = tells_all_ascii_digits.parts c cs test in
    (omega (arith, digit_value_digit c parts.0), tested_digits cs parts.1)

-- a numeral whose number fits is read as it
pub numbered : (bits n : ℕ) (word : List ℕ) → IsNumeral 10 word → n ≡ digits_value 10 word → n < 2 ^ bits
    → number_within bits word ≡ Some n
unfolding number_within
numbered bits n word numeral same fits =
    let digits : all_ascii_digits word ≡ true = digits_tested word numeral.1 in
    let filled : nat_lt 0 (length word) ≡ true = lt-ltb 0 (length word) numeral.0 in
    let small : nat_lt (digits_value 10 word) (2 ^ bits) ≡ true =
    lt-ltb (digits_value 10 word) (2 ^ bits) (subst (λ k. k < 2 ^ bits) same fits) in
    rw (filled, digits, small) (ap Some (sym same))

-- what is no such numeral is read as none
pub not_numbered : (bits : ℕ) (word : List ℕ) → (IsNumeral 10 word → digits_value 10 word < 2 ^ bits → ⊥)
    → number_within bits word ≡ None
unfolding number_within
not_numbered bits word not_numeral =
    by ((nat_lt 0 (length word) && all_ascii_digits word) && nat_lt (digits_value 10 word) (2 ^ bits)) refl where
      by : (t : Bool) → ((nat_lt 0 (length word) && all_ascii_digits word) && nat_lt (digits_value 10 word) (2 ^ bits))
          ≡ t → (if t then Some (digits_value 10 word) else None) ≡ None
      by true test =
          let outer = both (nat_lt 0 (length word) && all_ascii_digits word) (nat_lt (digits_value 10 word) (2 ^ bits))
          test in
          let inner = both (nat_lt 0 (length word)) (all_ascii_digits word) outer.0 in
          absurd (not_numeral (ltb-true 0 (length word) inner.0, tested_digits word inner.1)
          (ltb-true (digits_value 10 word) (2 ^ bits) outer.1))
      by false test = refl

-- a reader that answers the number of each numeral of 64 bits, and none otherwise, reads what the test finds
pub number_read : (word : List ℕ) (r : Option ℕ) → IfSome r (λ n. IsNumeral 10 word × (n ≡ digits_value 10 word))
    → IfSome r (λ n. n < 2 ^ 64) → IfNone r (IsNumeral 10 word → digits_value 10 word < 2 ^ 64 → ⊥)
    → r ≡ number_within 64 word
number_read word None some fits none = sym (not_numbered 64 word none)
number_read word (Some n) some fits none = sym (numbered 64 n word some.0 some.1 fits)

-- a number is no more than the one that it spells with further digits
least_value : (n : ℕ) (digits : List ℕ) → n ≤ digits_value_after 10 n digits
least_value n [] = omega arith
least_value n (c ∷ cs) = omega (arith, least_value (n * 10 + digit_value c) cs)

-- where the digits from a place on, after a number, spell what all do, the number with the next digit is no more
pub next_value : (n place : ℕ) (word : List ℕ) → place < length word
    → digits_value_after 10 n (drop place word) ≡ digits_value 10 word
    → n * 10 + digit_value (get_or word place 0) ≤ digits_value 10 word
next_value n place word within same =
    let next = get_or word place 0 in
    let split : drop place word ≡ next ∷ drop (place + 1) word = drop_more word place 0 within in
    let step : digits_value_after 10 n (drop place word)
    ≡ digits_value_after 10 (n * 10 + digit_value next) (drop (place + 1) word) = ap (digits_value_after 10 n) split in
    omega (arith, step, same, least_value (n * 10 + digit_value next) (drop (place + 1) word))
