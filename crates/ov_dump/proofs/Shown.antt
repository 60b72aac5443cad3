-- A name as it is shown stands on one line.
use Rattle.std.proofs.Common.{◌≡◌, ◌∙◌, ◌<◌, ◌≤◌, ◌+◌, ◌%◌, ◌/◌, ℕ, zero, suc, List, [], ◌∷◌, ◌++◌, inl, inr, true}
use Rattle.std.proofs.Common.{false, cond, ltb, map, codes, sym, ap, subst, refl, arith, encode_utf8, chars}
use Rattle.std.proofs.Common.{String, Global, string_bytes, nat_lt, ◌==◌, if◌then◌else◌, get_or, drop}
use Rattle.std.proofs.Common.{length, length-append, ap₂, ◌≢◌, ◌&&◌, nat_eq, IsUtf8}
use Rattle.std.proofs.lemmas.List.{drop_more}
use Rattle.std.proofs.lemmas.Str.{encodes-chars, len_utf8_bounds, length-encode}
use Rattle.std.specs.Str.{encode_utf8_all}
use lib.Utf8.{encode}
use Rattle.std.proofs.lemmas.Bool.{both_ways, or_parts}
use Rattle.std.specs.Char.{is_control}
use Rattle.std.specs.Fmt.{digit_glyph, digits, digits_onto}
use Rattle.std.specs.List.{AllByRecursion, starts_with}
use Rattle.ov_ids.specs.Members.{Has}
use Rattle.ov_ids.proofs.Members.{has_append_cases}
use Rattle.ov_graphfile.specs.GraphTexts.{IsOnOneLine}
use Rattle.ov_dump.specs.Dumps.{numbers}
use Rattle.ov_dump.specs.ShownNames.{is_coded, shown_char, shown_chars, shown_text}

-- of the bytes of a character, one below 128 is the character
char_byte : (c b : ℕ) → b < 128 → Has (encode_utf8 c) b → b ≡ c
unfolding encode
char_byte c b low h =
    elim (ltb c 128) as (λ t. Has (cond t (c ∷ []) (cond (ltb c 2048) ((192 + c / 64) ∷ (128 + c % 64) ∷ [])
    (cond (ltb c 65536) ((224 + c / 4096) ∷ (128 + c / 64 % 64) ∷ (128 + c % 64) ∷ [])
    ((240 + c / 262144) ∷ (128 + c / 4096 % 64) ∷ (128 + c / 64 % 64) ∷ (128 + c % 64) ∷ [])))) b → b ≡ c) [
      | true ↦ λ k. elim k [ inl e ↦ sym e | inr none ↦ absurd none ]
      | false ↦ λ k. absurd (elim (ltb c 2048) as (λ t. Has (cond t ((192 + c / 64) ∷ (128 + c % 64) ∷ [])
          (cond (ltb c 65536) ((224 + c / 4096) ∷ (128 + c / 64 % 64) ∷ (128 + c % 64) ∷ [])
          ((240 + c / 262144) ∷ (128 + c / 4096 % 64) ∷ (128 + c / 64 % 64) ∷ (128 + c % 64) ∷ []))) b → ⊥) [
            | true ↦ λ m. two 192 (c / 64) (c % 64) (omega arith) m
            | false ↦ λ m. elim (ltb c 65536) as (λ t. Has
                (cond t ((224 + c / 4096) ∷ (128 + c / 64 % 64) ∷ (128 + c % 64) ∷ [])
                ((240 + c / 262144) ∷ (128 + c / 4096 % 64) ∷ (128 + c / 64 % 64) ∷ (128 + c % 64) ∷ [])) b → ⊥) [
                  | true ↦ λ n. three 224 (c / 4096) (c / 64 % 64) (c % 64) (omega arith) n
                  | false ↦ λ n. elim n [
                    | inl e ↦ omega (arith, low, e)
                    | inr o ↦ three 128 (c / 4096 % 64) (c / 64 % 64) (c % 64) (omega arith) o
                  ]
                ] m
          ] k)
    ] h
  where
    two : (base x y : ℕ) → 128 ≤ base → Has ((base + x) ∷ (128 + y) ∷ []) b → ⊥
    two base x y high m = elim m [
      | inl e ↦ omega (arith, low, high, e)
      | inr n ↦ elim n [ inl e ↦ omega (arith, low, e) | inr none ↦ none ]
    ]

    three : (base x y z : ℕ) → 128 ≤ base → Has ((base + x) ∷ (128 + y) ∷ (128 + z) ∷ []) b → ⊥
    three base x y z high m = elim m [
      | inl e ↦ omega (arith, low, high, e)
      | inr n ↦ two 128 y z (omega arith) n
    ]

-- a digit is no control character
glyph : (d b : ℕ) → digit_glyph false d ≡ b → 48 ≤ b
glyph d b e =
    elim (nat_lt d 10) as (λ t. (if t then 48 + d else 87 + d) ≡ b → 48 ≤ b) [
      | true ↦ λ f. omega (arith, f)
      | false ↦ λ f. omega (arith, f)
    ] e

digit_byte : (k base n : ℕ) (acc : List ℕ) (b : ℕ) → ((c : ℕ) → Has acc c → 48 ≤ c)
    → Has (digits_onto k base false n acc) b → 48 ≤ b
digit_byte zero base n acc b high h = high b h
digit_byte (suc k) base n acc b high h =
    let more : (c : ℕ) → Has (digit_glyph false (n % base) ∷ acc) c → 48 ≤ c =
    λ c m. elim m [ inl e ↦ glyph (n % base) c e | inr r ↦ high c r ] in
    elim (n / base == 0) as (λ t. Has (if t then digit_glyph false (n % base) ∷ acc
    else digits_onto k base false (n / base) (digit_glyph false (n % base) ∷ acc)) b → 48 ≤ b) [
      | true ↦ λ m. more b m
      | false ↦ λ m. digit_byte k base (n / base) (digit_glyph false (n % base) ∷ acc) b more m
    ] h

digits_byte : (n b : ℕ) → Has (digits 16 false n) b → 48 ≤ b
unfolding digits
digits_byte n b h = digit_byte 64 16 n [] b (λ c none. absurd none) h

-- a low control character is none of the bytes that are shown
char_clean : (c : ℕ) (later : List ℕ) (b : ℕ) → b < 48 → is_control b ≡ true → Has (shown_char c later) b → ⊥
char_clean c later b low control h =
    elim (is_coded c later) as (λ t. is_coded c later ≡ t
    → Has (cond t (codes "\\u{" ++ (digits 16 false c ++ codes "}")) (encode_utf8 c)) b → ⊥) [
      | true ↦ λ e k. elim (has_append_cases (codes "\\u{") (digits 16 false c ++ codes "}") b k) [
        | inl m ↦ elim m [
          | inl f ↦ omega (arith, low, f)
          | inr n ↦ elim n [
            | inl f ↦ omega (arith, low, f)
            | inr o ↦ elim o [ inl f ↦ omega (arith, low, f) | inr none ↦ none ]
          ]
        ]
        | inr m ↦ elim (has_append_cases (digits 16 false c) (codes "}") b m) [
          | inl n ↦ let high = digits_byte c b n in omega (arith, low, high)
          | inr n ↦ elim n [ inl f ↦ omega (arith, low, f) | inr none ↦ none ]
        ]
      ]
      | false ↦ λ e k.
          let same : b ≡ c = char_byte c b (omega (arith, low)) k in
          let plain = (or_parts (is_control c) (nat_eq c 92 && starts_with nat_eq later (codes "u{")) e).0 in
          both_ways (is_control b) (ap is_control same ∙ plain) control
    ] refl h

chars_clean : (cs : List ℕ) (b : ℕ) → b < 48 → is_control b ≡ true → Has (shown_chars cs) b → ⊥
chars_clean [] b low control h = h
chars_clean (c ∷ later) b low control h = elim (has_append_cases (shown_char c later) (shown_chars later) b h) [
  | inl k ↦ char_clean c later b low control k
  | inr k ↦ chars_clean later b low control k
]

pub on_one_line : (name : List ℕ) → IsOnOneLine (shown_text name)
on_one_line name = (
  (λ h. chars_clean (chars name) 10 (omega arith) refl h),
  (λ h. chars_clean (chars name) 13 (omega arith) refl h),
)

-- a character is shown by one byte at least
pub char_some : (c : ℕ) (later : List ℕ) → 0 < length (shown_char c later)
char_some c later =
    let bytes = length-encode c in
    let some = (len_utf8_bounds c).0 in
    elim (is_coded c later) as (λ t.
    0 < length (cond t (codes "\\u{" ++ (digits 16 false c ++ codes "}")) (encode_utf8 c))) [
      | true ↦ omega arith
      | false ↦ omega (arith, bytes, some)
    ]

-- so are some characters
pub chars_some : (c : ℕ) (later : List ℕ) → 0 < length (shown_chars (c ∷ later))
chars_some c later =
    let first = char_some c later in
    let long : length (shown_char c later ++ shown_chars later)
    ≡ length (shown_char c later) + length (shown_chars later) =
    length-append (shown_char c later) (shown_chars later) in
    omega (arith, first, long)

-- and a name that is not empty
pub shown_some : (name : List ℕ) → IsUtf8 name → name ≢ [] → 0 < length (shown_text name)
shown_some name utf8 some = by (chars name) (encodes-chars name utf8) where
  by : (cs : List ℕ) → encode_utf8_all cs ≡ name → 0 < length (shown_chars cs)
  by [] e = absurd (some (sym e))
  by (c ∷ later) e = chars_some c later

-- each name as it is shown stands on one line
pub all_on_one_line : (shown : List (String Global)) (names : List (List ℕ))
    → map (λ name. string_bytes name) shown ≡ map shown_text names
    → AllByRecursion (λ name. IsOnOneLine (string_bytes name)) shown
all_on_one_line [] names e = tt
all_on_one_line (s ∷ shown) [] e = absurd (cc)
all_on_one_line (s ∷ shown) (n ∷ names) e =
    let same : string_bytes s ≡ shown_text n = ap (λ (l : List (List ℕ)). get_or l 0 []) e in
    (subst IsOnOneLine (sym same) (on_one_line n), all_on_one_line shown names (ap (drop 1) e))

-- one name more
pub shown_more : (before : List (String Global)) (names : List (List ℕ)) (s : String Global) (n : List ℕ)
    → map (λ name. string_bytes name) before ≡ map shown_text names → string_bytes s ≡ shown_text n
    → map (λ name. string_bytes name) (before ++ s ∷ []) ≡ map shown_text (names ++ n ∷ [])
shown_more [] [] s n e same = ap (λ t. t ∷ []) same
shown_more [] (m ∷ names) s n e same = absurd (cc)
shown_more (r ∷ before) [] s n e same = absurd (cc)
shown_more (r ∷ before) (m ∷ names) s n e same =
    let first : string_bytes r ≡ shown_text m = ap (λ (l : List (List ℕ)). get_or l 0 []) e in
    ap₂ (λ (t : List ℕ) (ts : List (List ℕ)). t ∷ ts) first (shown_more before names s n (ap (drop 1) e) same)

-- if the items from the next one on pass, and this one does, those from this one on pass
pub all_more : {X : Type 0} (P : X → Type 0) (xs : List X) (i : ℕ) (x : X) → i < length xs → x ≡ get_or xs i x → P x
    → AllByRecursion P (drop (i + 1) xs) → AllByRecursion P (drop i xs)
all_more P xs i x l at here rest =
    subst (AllByRecursion P) (ap (λ y. y ∷ drop (i + 1) xs) at ∙ sym (drop_more xs i x l)) (here, rest)

-- there are n numbers from 1 to n
pub numbered : (n : ℕ) → length (numbers n) ≡ n
numbered zero = refl
numbered (suc n) =
    let rest = numbered n in
    let both : length (numbers n ++ suc n ∷ []) ≡ length (numbers n) + 1 = length-append (numbers n) (suc n ∷ []) in
    omega (arith, rest, both)
