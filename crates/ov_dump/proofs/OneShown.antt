-- No two names are shown alike.
use Rattle.std.proofs.Common.{◌≡◌, ◌≢◌, ◌∙◌, ◌<◌, ℕ, Bool, true, false, cond, ◌&&◌, ◌||◌, nat_eq, List, []}
use Rattle.std.proofs.Common.{◌∷◌, ◌++◌, length, drop, get_or, codes, IsUtf8, encode_utf8, refl, sym, ap, ap₂, subst}
use Rattle.std.proofs.Common.{append_assoc, eqb-true, arith}
use Rattle.std.specs.Char.{digit_value, is_control}
use Rattle.std.specs.Fmt.{digits}
use Rattle.std.specs.List.{starts_with}
use Rattle.std.specs.Str.{chars, encode_utf8_all, all_scalars}
use Rattle.std.specs.Str.Parse.{AllDigits, digits_value}
use Rattle.std.proofs.Math.Utf8.{scalar}
use Rattle.std.proofs.lemmas.Bool.{and_parts, both_ways}
use Rattle.std.proofs.lemmas.Bool.Decides.{nat_tests}
use Rattle.std.proofs.lemmas.Fmt.{digits_is_IsNumeral}
use Rattle.std.proofs.lemmas.Str.{chars-encodes, cons_from_encodes, encode_ascii, encode_same, encodes-chars}
use Rattle.ov_dump.specs.ShownNames.{is_coded, shown_chars}
use Rattle.ov_dump.specs.ImportTheorems.{OneShownName}
use Rattle.ov_dump.proofs.Shown.{chars_some}

-- ---- where a code would begin

-- a text that begins with `u{`
begins : (xs : List ℕ) → starts_with nat_eq xs (codes "u{") ≡ true → (rest : List ℕ) × (xs ≡ 117 ∷ 123 ∷ rest)
begins [] e = absurd (cc)
begins (a ∷ []) e = let none = (and_parts (nat_eq 117 a) false e).1 in absurd (cc)
begins (a ∷ b ∷ rest) e =
    let both = and_parts (nat_eq 117 a) (nat_eq 123 b && true) e in
    let first : 117 ≡ a = eqb-true 117 a both.0 in
    let second : 123 ≡ b = eqb-true 123 b (and_parts (nat_eq 123 b) true both.1).0 in
    (rest, ap₂ (λ (x y : ℕ). x ∷ y ∷ rest) (sym first) (sym second))

-- its bytes do exactly if its characters do
pub begins_alike : (cs : List ℕ)
    → starts_with nat_eq (encode_utf8_all cs) (codes "u{") ≡ starts_with nat_eq cs (codes "u{")
begins_alike cs = by (test (encode_utf8_all cs)) (test cs) refl refl where
  test : List ℕ → Bool
  test xs = starts_with nat_eq xs (codes "u{")

  by : (s t : Bool) → test (encode_utf8_all cs) ≡ s → test cs ≡ t → test (encode_utf8_all cs) ≡ test cs
  by true true e f = e ∙ sym f
  by false false e f = e ∙ sym f
  by true false e f =
      let b = begins (encode_utf8_all cs) e in
      let first : encode_utf8_all cs ≡ encode_utf8 117 ++ 123 ∷ b.0 =
      b.1 ∙ ap (λ (xs : List ℕ). xs ++ 123 ∷ b.0) (sym (encode_ascii 117 (omega arith))) in
      let k = cons_from_encodes cs (123 ∷ b.0) 117 first in
      let second : encode_utf8_all k.0 ≡ encode_utf8 123 ++ b.0 =
      k.2 ∙ ap (λ (xs : List ℕ). xs ++ b.0) (sym (encode_ascii 123 (omega arith))) in
      let l = cons_from_encodes k.0 b.0 123 second in
      let are : cs ≡ 117 ∷ 123 ∷ l.0 = k.1 ∙ ap (λ (xs : List ℕ). 117 ∷ xs) l.1 in
      absurd (both_ways (test cs) f (ap test are))
  by false true e f =
      let b = begins cs f in
      let are : encode_utf8_all cs ≡ 117 ∷ 123 ∷ encode_utf8_all b.0 =
      ap encode_utf8_all b.1
      ∙ ap₂ (λ (xs ys : List ℕ). xs ++ (ys ++ encode_utf8_all b.0)) (encode_ascii 117 (omega arith))
      (encode_ascii 123 (omega arith)) in
      absurd (both_ways (test (encode_utf8_all cs)) e (ap test are))

-- ---- one character more

-- the characters of a text that begins with this one
pub chars_next : (bytes rest : List ℕ) (c : ℕ) → IsUtf8 bytes → bytes ≡ encode_utf8 c ++ rest
    → (chars bytes ≡ c ∷ chars rest) × IsUtf8 rest
chars_next bytes rest c utf8 split =
    let cs : List ℕ = utf8.0 in
    let k = cons_from_encodes cs rest c (utf8.1.1 ∙ split) in
    let later : List ℕ = k.0 in
    let scalars : all_scalars (c ∷ later) ≡ true = sym (ap all_scalars k.1) ∙ utf8.1.0 in
    let rests = (and_parts (scalar c) (all_scalars later) scalars).1 in (
      ap chars (sym utf8.1.1) ∙ chars-encodes cs utf8.1.0 ∙ k.1
          ∙ ap (λ (xs : List ℕ). c ∷ xs) (sym (chars-encodes later rests) ∙ ap chars k.2),
      (later, (rests, k.2)),
    )

-- ---- two codes

-- the digits before a brace
until_brace : (ns ms x y : List ℕ) → AllDigits 16 ns → AllDigits 16 ms → ns ++ 125 ∷ x ≡ ms ++ 125 ∷ y
    → (ns ≡ ms) × (x ≡ y)
until_brace [] [] x y da db e = (refl, ap (drop 1) e)
until_brace [] (b ∷ ms) x y da db e =
    let first : 125 ≡ b = ap (λ (xs : List ℕ). get_or xs 0 0) e in
    let digit : digit_value 125 < 16 = subst (λ (k : ℕ). digit_value k < 16) (sym first) db.0 in
    absurd (omega (arith, digit))
until_brace (a ∷ ns) [] x y da db e =
    let first : a ≡ 125 = ap (λ (xs : List ℕ). get_or xs 0 0) e in
    let digit : digit_value 125 < 16 = subst (λ (k : ℕ). digit_value k < 16) first da.0 in
    absurd (omega (arith, digit))
until_brace (a ∷ ns) (b ∷ ms) x y da db e =
    let rest = until_brace ns ms x y da.1 db.1 (ap (drop 1) e) in
    (ap₂ (λ (k : ℕ) (ks : List ℕ). k ∷ ks) (ap (λ (xs : List ℕ). get_or xs 0 0) e) rest.0, rest.1)

-- a character as its code
abbrev code : ℕ → List ℕ
code c = codes "\\u{" ++ (digits 16 false c ++ codes "}")

same_code : (c d : ℕ) (x y : List ℕ) → c < 160 → d < 160 → code c ++ x ≡ code d ++ y → (c ≡ d) × (x ≡ y)
same_code c d x y low high e =
    let of_c = digits_is_IsNumeral 16 false (omega arith) (omega arith) c (omega (arith, low)) in
    let of_d = digits_is_IsNumeral 16 false (omega arith) (omega arith) d (omega (arith, high)) in
    let behind : (digits 16 false c ++ codes "}") ++ x ≡ (digits 16 false d ++ codes "}") ++ y = ap (drop 3) e in
    let split = until_brace (digits 16 false c) (digits 16 false d) x y of_c.0.1 of_d.0.1
    (sym (append_assoc (digits 16 false c) (codes "}") x) ∙ behind
    ∙ append_assoc (digits 16 false d) (codes "}") y) in
    (sym of_c.1 ∙ ap (digits_value 16) split.0 ∙ of_d.1, split.1)

-- what is shown by its code is low
control_low : (c : ℕ) → is_control c ≡ true → c < 160
control_low c e = grind (arith, nat_tests)

coded_low : (c : ℕ) (later : List ℕ) → is_coded c later ≡ true → c < 160
coded_low c later e = by (is_control c) refl where
  by : (t : Bool) → is_control c ≡ t → c < 160
  by true f = control_low c f
  by false f =
      let slash : (nat_eq c 92 && starts_with nat_eq later (codes "u{")) ≡ true =
      ap (λ t. t || (nat_eq c 92 && starts_with nat_eq later (codes "u{"))) (sym f) ∙ e in
      let is : c ≡ 92 = eqb-true c 92 (and_parts (nat_eq c 92) (starts_with nat_eq later (codes "u{")) slash).0 in
      omega (arith, is)

-- ---- a code and another character

-- a text whose first byte is this one, which begins no code, begins with this character
first_plain : (cs rest : List ℕ) (b : ℕ) → b < 128 → b ≢ 92 → shown_chars cs ≡ b ∷ rest
    → (later : List ℕ) × (cs ≡ b ∷ later) × (shown_chars later ≡ rest)
first_plain [] rest b low other e = absurd (cc)
first_plain (c ∷ later) rest b low other e = by (is_coded c later) refl where
  by : (t : Bool) → is_coded c later ≡ t → (more : List ℕ) × (c ∷ later ≡ b ∷ more) × (shown_chars more ≡ rest)
  by true f =
      let shown : code c ++ shown_chars later ≡ b ∷ rest =
      ap (λ t. cond t (code c) (encode_utf8 c) ++ shown_chars later) (sym f) ∙ e in
      absurd (other (sym (ap (λ (xs : List ℕ). get_or xs 0 0) shown)))
  by false f =
      let shown : encode_utf8 c ++ shown_chars later ≡ encode_utf8 b ++ rest =
      ap (λ t. cond t (code c) (encode_utf8 c) ++ shown_chars later) (sym f) ∙ e
      ∙ ap (λ (xs : List ℕ). xs ++ rest) (sym (encode_ascii b low)) in
      let same = encode_same c b (shown_chars later) rest shown in
      (later, ap (λ (k : ℕ). k ∷ later) same.0, same.1)

-- a character that is shown as it is, with those behind it, does not look like a code
no_code : (c : ℕ) (later rest : List ℕ) → is_coded c later ≡ false
    → encode_utf8 c ++ shown_chars later ≡ 92 ∷ 117 ∷ 123 ∷ rest → ⊥
no_code c later rest plain e =
    let same = encode_same c 92 (shown_chars later) (117 ∷ 123 ∷ rest)
    (e ∙ ap (λ (xs : List ℕ). xs ++ 117 ∷ 123 ∷ rest) (sym (encode_ascii 92 (omega arith)))) in
    let u = first_plain later (123 ∷ rest) 117 (omega arith) (λ f. omega (arith, f)) same.1 in
    let brace = first_plain u.0 rest 123 (omega arith) (λ f. omega (arith, f)) u.2 in
    let are : later ≡ 117 ∷ 123 ∷ brace.0 = u.1 ∙ ap (λ (xs : List ℕ). 117 ∷ xs) brace.1 in
    let coded : is_coded c later ≡ true = ap₂ is_coded same.0 are in
    both_ways (is_coded c later) plain coded

-- ---- all characters

one_chars : (cs ds : List ℕ) → shown_chars cs ≡ shown_chars ds → cs ≡ ds
one_chars [] [] e = refl
one_chars [] (d ∷ ds) e = let some = chars_some d ds in let none = ap length e in absurd (omega (arith, some, none))
one_chars (c ∷ cs) [] e = let some = chars_some c cs in let none = ap length e in absurd (omega (arith, some, none))
one_chars (c ∷ cs) (d ∷ ds) e = by (is_coded c cs) (is_coded d ds) refl refl e (one_chars cs ds) where
  by : (s t : Bool) → is_coded c cs ≡ s → is_coded d ds ≡ t
      → cond s (code c) (encode_utf8 c) ++ shown_chars cs ≡ cond t (code d) (encode_utf8 d) ++ shown_chars ds
      → (shown_chars cs ≡ shown_chars ds → cs ≡ ds) → c ∷ cs ≡ d ∷ ds
  by true true f g shown later =
      let same = same_code c d (shown_chars cs) (shown_chars ds) (coded_low c cs f) (coded_low d ds g) shown in
      ap₂ (λ (k : ℕ) (ks : List ℕ). k ∷ ks) same.0 (later same.1)
  by true false f g shown later =
      absurd (no_code d ds ((digits 16 false c ++ codes "}") ++ shown_chars cs) g (sym shown))
  by false true f g shown later =
      absurd (no_code c cs ((digits 16 false d ++ codes "}") ++ shown_chars ds) f shown)
  by false false f g shown later =
      let same = encode_same c d (shown_chars cs) (shown_chars ds) shown in
      ap₂ (λ (k : ℕ) (ks : List ℕ). k ∷ ks) same.0 (later same.1)

pub one_shown : OneShownName
one_shown a b first second e =
    sym (encodes-chars a first) ∙ ap encode_utf8_all (one_chars (chars a) (chars b) e) ∙ encodes-chars b second
