-- The random words of an event, and the numbers of a line of parameters, filled in one after the other.
use Rattle.std.proofs.Common.{◌≡◌, ◌∙◌, ◌==◌, ◌+◌, ◌-◌, ◌<◌, ◌≤◌, ℕ, suc, true, false, ◌&&◌, nat_lt, nat_le}
use Rattle.std.proofs.Common.{List, [], ◌∷◌, ◌++◌, length, drop, set, replicate, Option, Some, None, if◌then◌else◌}
use Rattle.std.proofs.Common.{refl, ap, sym, subst, arith, append_assoc, append-nil, length-append}
use Rattle.std.proofs.lemmas.Bool.Decides.{nat_tests}
use Rattle.ov_ids.specs.Options.{◌>>=◌}
use Rattle.ov_lines.specs.Lines.{number_within, each_number}
use Rattle.ov_scenario.specs.EventWords.{with_zeros, event_words}
use Rattle.ov_scenario.specs.Statements.{seven, seven_numbers}
use Rattle.ov_lines.specs.Code.Spaced.{first_number}
use Rattle.ov_lines.proofs.Lines.Parted.{not_empty}

-- of the words of a line, each a number of so many bits, so many numbers are given, and stand in front of zeros where
-- most numbers fit; these words are left
pub record Fills (bits most : ℕ) (all left : List (List ℕ)) (count : ℕ) (numbers : List ℕ) : Type 0 where
  pub given : List ℕ
  pub many : length given ≡ count
  pub fits : count ≤ most
  pub padded : numbers ≡ given ++ replicate (most - count) 0
  pub read : each_number bits all ≡ (each_number bits left >>= λ ns. Some (given ++ ns))

as_it_is : (o : Option (List ℕ)) → o ≡ (o >>= λ ns. Some ([] ++ ns))
as_it_is None = refl
as_it_is (Some ns) = refl

-- no number is given yet
pub begun : (bits most : ℕ) (all : List (List ℕ)) → Fills bits most all all 0 (replicate most 0)
begun bits most all =
    let same : most ≡ most - 0 = omega arith in
    record {
      given = [];
      many = refl;
      fits = omega arith;
      padded = ap (λ k. replicate k 0) same;
      read = as_it_is (each_number bits all);
    }

set_after : (xs ys : List ℕ) (y n : ℕ) → set (xs ++ y ∷ ys) (length xs) n ≡ (xs ++ n ∷ []) ++ ys
set_after [] ys y n = refl
set_after (x ∷ xs) ys y n = ap (λ zs. x ∷ zs) (set_after xs ys y n)

one_further : (o : Option (List ℕ)) (given : List ℕ) (n : ℕ)
    → ((o >>= λ ns. Some (n ∷ ns)) >>= λ ns. Some (given ++ ns)) ≡ (o >>= λ ns. Some ((given ++ n ∷ []) ++ ns))
one_further None given n = refl
one_further (Some ns) given n = ap Some (sym (append_assoc given (n ∷ []) ns))

filled_in : (most : ℕ) (given numbers : List ℕ) (count n : ℕ) → length given ≡ count → count < most
    → numbers ≡ given ++ replicate (most - count) 0
    → set numbers count n ≡ (given ++ n ∷ []) ++ replicate (most - (count + 1)) 0
filled_in most given numbers count n many room padded =
    let one_less : most - count ≡ suc (most - (count + 1)) = omega arith in
    let split : numbers ≡ given ++ 0 ∷ replicate (most - (count + 1)) 0 =
    padded ∙ ap (λ k. given ++ replicate k 0) one_less in
    subst (λ k. set numbers k n ≡ (given ++ n ∷ []) ++ replicate (most - (count + 1)) 0) many
    (ap (λ ws. set ws (length given) n) split ∙ set_after given (replicate (most - (count + 1)) 0) 0 n)

-- one number more
pub more : (bits most : ℕ) (all left rest : List (List ℕ)) (count n : ℕ) (numbers : List ℕ)
    → Fills bits most all left count numbers → count < most → first_number bits left ≡ Some n → rest ≡ drop 1 left
    → Fills bits most all rest (count + 1) (set numbers count n)
more bits most all [] rest count n numbers f room first behind = absurd (cc)
more bits most all (w ∷ left) rest count n numbers f room first behind =
    record {
      given = f.given ++ n ∷ [];
      many = omega (arith, length-append f.given (n ∷ []), f.many);
      fits = omega arith;
      padded = filled_in most f.given numbers count n f.many room f.padded;
      read =
          f.read
          ∙ ap (λ o. (o >>= λ m. each_number bits left >>= λ ns. Some (m ∷ ns)) >>= λ ns. Some (f.given ++ ns)) first
          ∙ one_further (each_number bits left) f.given n
          ∙ ap (λ ws. each_number bits ws >>= λ ns. Some ((f.given ++ n ∷ []) ++ ns)) (sym behind);
    }

-- of at least one word more than most numbers fit, and of a word that is no number, nothing comes
past_most :
    (w : List ℕ) (bits most : ℕ) (left : List (List ℕ)) (given : List ℕ) (k : List ℕ → Option (List ℕ))
    → ((ns : List ℕ) → most < length ns → k ns ≡ None) → length given ≡ most
    → ((each_number bits (w ∷ left) >>= λ ns. Some (given ++ ns)) >>= k) ≡ None
past_most w bits most left given k over many = by (number_within bits w) (each_number bits left) where
  by : (first : Option ℕ) (later : Option (List ℕ))
      → (((first >>= λ m. later >>= λ ns. Some (m ∷ ns)) >>= λ ns. Some (given ++ ns)) >>= k) ≡ None
  by None later = refl
  by (Some m) None = refl
  by (Some m) (Some ns) = over (given ++ (m ∷ ns)) (omega (arith, length-append given (m ∷ ns), many))

-- ---- random words

-- the first word
pub first_filled : (all rest : List (List ℕ)) (n : ℕ) (words zeros : List ℕ) → first_number 64 all ≡ Some n
    → rest ≡ drop 1 all
    → zeros ≡ replicate 64 0 → words ≡ set zeros 0 n → Fills 64 64 all rest 1 words
first_filled all rest n words zeros first behind none is =
    subst (λ ws. Fills 64 64 all rest 1 ws) (sym (is ∙ ap (λ zs. set zs 0 n) none))
    (more 64 64 all all rest 0 n (replicate 64 0) (begun 64 64 all) (omega arith) first behind)

-- no first word, or one that is no number
pub none_first : (all : List (List ℕ)) → first_number 64 all ≡ None → event_words all ≡ None
none_first [] first = refl
none_first (w ∷ left) first =
    ap (λ o. (o >>= λ m. each_number 64 left >>= λ ns. Some (m ∷ ns)) >>= with_zeros) first

-- a word that is no number
pub unread : (all left : List (List ℕ)) (count : ℕ) (words : List ℕ) → Fills 64 64 all left count words
    → (length left == 0) ≡ false → first_number 64 left ≡ None → event_words all ≡ None
unread all [] count words f some first = absurd (cc)
unread all (w ∷ left) count words f some first =
    ap (λ o. o >>= with_zeros)
    (f.read ∙ ap (λ o. (o >>= λ m. each_number 64 left >>= λ ns. Some (m ∷ ns)) >>= λ ns. Some (f.given ++ ns)) first)

too_many : (ns : List ℕ) → 64 < length ns → with_zeros ns ≡ None
too_many ns long =
    let over : nat_le (length ns) 64 ≡ false = grind (arith, nat_tests) in
    let none : (nat_lt 0 (length ns) && nat_le (length ns) 64) ≡ false = grind (arith, nat_tests) in
    ap (λ t. if t then Some (ns ++ replicate (64 - length ns) 0) else None) none

-- a word more than there is room for
pub full : (all left : List (List ℕ)) (count : ℕ) (words : List ℕ) → Fills 64 64 all left count words
    → (length left == 0) ≡ false → count ≡ 64 → event_words all ≡ None
full all [] count words f some most = absurd (cc)
full all (w ∷ left) count words f some most =
    ap (λ o. o >>= with_zeros) f.read ∙ past_most w 64 64 left f.given with_zeros too_many (f.many ∙ most)

-- all words are read
pub all_read : (all left : List (List ℕ)) (count : ℕ) (words : List ℕ) → Fills 64 64 all left count words → 0 < count
    → (length left == 0) ≡ true → event_words all ≡ Some words
all_read all (w ∷ left) count words f some none = absurd (cc (not_empty (length left)))
all_read all [] count words f some none =
    let within : (nat_lt 0 (length f.given) && nat_le (length f.given) 64) ≡ true =
    grind (arith, nat_tests, f.many, f.fits, some) in
    ap (λ o. o >>= with_zeros) (f.read ∙ ap Some (append-nil f.given))
    ∙ ap (λ t. if t then Some (f.given ++ replicate (64 - length f.given) 0) else None) within
    ∙ ap Some (ap (λ k. f.given ++ replicate (64 - k) 0) f.many ∙ sym f.padded)

-- ---- parameters

other_count : (ns : List ℕ) → ¬ (length ns ≡ 7) → seven ns ≡ None
other_count ns other =
    let e : (length ns == 7) ≡ false = grind (arith, nat_tests, other) in
    ap (λ t. if t then Some ns else None) e

-- a number is missing, or a word is none
pub none_next : (all left : List (List ℕ)) (count : ℕ) (numbers : List ℕ) → Fills 32 7 all left count numbers
    → count < 7 → first_number 32 left ≡ None → seven_numbers all ≡ None
none_next all [] count numbers f room first =
    ap (λ o. o >>= seven) f.read
    ∙ other_count (f.given ++ []) (λ e. omega (arith, e, length-append f.given [], f.many, room))
none_next all (w ∷ left) count numbers f room first =
    ap (λ o. o >>= seven)
    (f.read ∙ ap (λ o. (o >>= λ m. each_number 32 left >>= λ ns. Some (m ∷ ns)) >>= λ ns. Some (f.given ++ ns)) first)

-- a word follows all numbers
pub one_too_many : (all left : List (List ℕ)) (count : ℕ) (numbers : List ℕ) → Fills 32 7 all left count numbers
    → 7 ≤ count → (length left == 0) ≡ false → seven_numbers all ≡ None
one_too_many all [] count numbers f past some = absurd (cc)
one_too_many all (w ∷ left) count numbers f past some =
    ap (λ o. o >>= seven) f.read
    ∙ past_most w 32 7 left f.given seven (λ ns long. other_count ns (λ e. omega (arith, e, long)))
    (omega (arith, f.many, f.fits, past))

-- all numbers are read
pub seven_read : (all left : List (List ℕ)) (count : ℕ) (numbers : List ℕ) → Fills 32 7 all left count numbers
    → 7 ≤ count → (length left == 0) ≡ true → seven_numbers all ≡ Some numbers
seven_read all (w ∷ left) count numbers f past none = absurd (cc (not_empty (length left)))
seven_read all [] count numbers f past none =
    let whole : length f.given ≡ 7 = omega (arith, f.many, f.fits, past) in
    let right : (length f.given == 7) ≡ true = grind (arith, nat_tests, whole) in
    let none_left : 0 ≡ 7 - count = omega (arith, whole, f.many) in
    ap (λ o. o >>= seven) (f.read ∙ ap Some (append-nil f.given))
    ∙ ap (λ t. if t then Some f.given else None) right
    ∙ ap Some (sym (append-nil f.given) ∙ ap (λ k. f.given ++ replicate k 0) none_left ∙ sym f.padded)
