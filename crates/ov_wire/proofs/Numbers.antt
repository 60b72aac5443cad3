-- Numbers in bytes: what is read was spelled, and what is spelled is read again.
use Rattle.std.proofs.Common.{◌≡◌, ℕ, ◌+◌, ◌^◌, ◌<◌, ◌≤◌, ◌%◌, false, cond, ltb, List, [], ◌∷◌, ◌++◌, length, get_or}
use Rattle.std.proofs.Common.{take, drop, Result, Ok, Err, refl, sym, ap, arith, inl, inr}
use Rattle.std.specs.Int.{Width, w8, w16, w32, byte_len, from_be_bytes, to_be_bytes}
use Rattle.std.proofs.lemmas.Bool.{cases_lt, ltb-false, ltb-true, le-ltb, lt-ltb}
use Rattle.std.proofs.lemmas.List.{take_at, drop_at, take-append-drop, length-append, length-take, get_or-drop}
use Rattle.std.proofs.lemmas.List.{get_or-take, get_or_past}
use Rattle.std.proofs.lemmas.Nat.{be_bytes_2, be_bytes_4, from_be_bytes-to_be_bytes_2, from_be_bytes-to_be_bytes_4}
use Rattle.ov_wire.specs.declared.fault.WireFault.{WireFault}
use Rattle.ov_wire.specs.declared.fault.WireFault.TheVariants.{Short}
use Rattle.ov_wire.specs.Faults.{leading_number, IsNumberAtFault}
use Rattle.ov_wire.specs.Code.Reading.{number_at}
use Rattle.ov_wire.proofs.Steps.{guard_ok, guard_err, ok_is, apart}

-- each number is a byte
abbrev pub IsBytes : List ℕ → Type 0
IsBytes bytes = (i : ℕ) → get_or bytes i 0 < 256

pub IsBytes-drop : (n : ℕ) (bytes : List ℕ) → IsBytes bytes → IsBytes (drop n bytes)
IsBytes-drop n bytes h i = rw get_or-drop (h (n + i))

pub IsBytes-take : (n : ℕ) (bytes : List ℕ) → IsBytes bytes → IsBytes (take n bytes)
IsBytes-take n bytes h i =
    elim (cases_lt i n) [
      | inl lt ↦ rw (get_or-take n bytes i 0 lt) (h i)
      | inr le ↦ rw (get_or_past (take n bytes) i 0 (omega (arith, length-take n bytes))) (omega arith)
    ]

-- a reader took this text from the front and left the rest
pub record Takes (bytes text rest : List ℕ) : Type 0 where
  pub parts : bytes ≡ text ++ rest
  pub rest_fits : IsBytes rest

-- numbers of this width and their bytes are one to one
pub record IsWide (w : Width) : Type 0 where
  pub len : (n : ℕ) → length (to_be_bytes w n) ≡ byte_len w
  pub back : (bytes : List ℕ) → length bytes ≡ byte_len w → IsBytes bytes
      → to_be_bytes w (from_be_bytes w bytes) ≡ bytes
  pub again : (n : ℕ) → n < 256 ^ byte_len w → from_be_bytes w (to_be_bytes w n) ≡ n
  pub below : (bytes : List ℕ) → IsBytes bytes → from_be_bytes w bytes < 256 ^ byte_len w

back8 : (bytes : List ℕ) → length bytes ≡ 1 → IsBytes bytes → to_be_bytes w8 (from_be_bytes w8 bytes) ≡ bytes
back8 [] len fits = absurd (omega arith)
back8 (b ∷ []) len fits = let e : b % 256 ≡ b = omega (arith, fits 0) in rw e refl
back8 (b ∷ c ∷ bytes) len fits = absurd (omega arith)

pub wide8 : IsWide w8
wide8 = record {
  len = λ n. refl;
  back = back8;
  again = λ n lt. omega arith;
  below = λ bytes fits. fits 0;
}

pub wide16 : IsWide w16
wide16 = record {
  len = λ n. refl;
  back = λ bytes len fits. be_bytes_2 bytes _ len fits refl;
  again = λ n lt. from_be_bytes-to_be_bytes_2 n lt;
  below = λ bytes fits. omega (arith, fits 0, fits 1);
}

pub wide32 : IsWide w32
wide32 = record {
  len = λ n. refl;
  back = λ bytes len fits. be_bytes_4 bytes _ len fits refl;
  again = λ n lt. from_be_bytes-to_be_bytes_4 n lt;
  below = λ bytes fits. omega (arith, fits 0, fits 1, fits 2, fits 3);
}

-- a number of this width from least to most
pub record IsNumber (w : Width) (least most n : ℕ) : Type 0 where
  pub fits : n < 256 ^ byte_len w
  pub low : least ≤ n
  pub high : n ≤ most

-- what is known of a number that was read
pub record IsNumberRead (w : Width) (least most : ℕ) (bytes : List ℕ) (n : ℕ) (rest : List ℕ) : Type 0 where
  pub whole : byte_len w ≤ length bytes
  pub number : leading_number w bytes ≡ n
  pub rest_is : drop (byte_len w) bytes ≡ rest
  pub low : least ≤ n
  pub high : n ≤ most

pub number_read : (w : Width) (least most : ℕ) (otherwise : WireFault) (bytes : List ℕ) (n : ℕ) (rest : List ℕ)
    → number_at w least most otherwise bytes ≡ Ok (n, rest) → IsNumberRead w least most bytes n rest
number_read w least most otherwise bytes n rest e =
    let k = byte_len w in
    let found : Result (ℕ × List ℕ) WireFault = Ok (leading_number w bytes, drop k bytes) in
    let high : Result (ℕ × List ℕ) WireFault = cond (ltb most (leading_number w bytes)) (Err otherwise) found in
    let low : Result (ℕ × List ℕ) WireFault = cond (ltb (leading_number w bytes) least) (Err otherwise) high in
    let g1 = guard_ok (ltb (length bytes) k) Short low (n, rest) e in
    let g2 = guard_ok (ltb (leading_number w bytes) least) otherwise high (n, rest) g1.1 in
    let g3 = guard_ok (ltb most (leading_number w bytes)) otherwise found (n, rest) g2.1 in
    let is = ok_is (leading_number w bytes, drop k bytes) (n, rest) g3.1 in
    let n-is : leading_number w bytes ≡ n = ap (λ (x : ℕ × List ℕ). x.0) is in
    let least-is : least ≤ leading_number w bytes = ltb-false _ _ g2.0 in
    let most-is : leading_number w bytes ≤ most = ltb-false _ _ g3.0 in
    record {
      whole = ltb-false _ _ g1.0;
      number = n-is;
      rest_is = ap (λ (x : ℕ × List ℕ). x.1) is;
      low = omega arith;
      high = omega arith;
    }

pub number_takes : (w : Width) (wide : IsWide w) (least most : ℕ) (otherwise : WireFault)
    (bytes : List ℕ) (n : ℕ) (rest : List ℕ)
    → IsBytes bytes → number_at w least most otherwise bytes ≡ Ok (n, rest)
    → Takes bytes (to_be_bytes w n) rest × IsNumber w least most n
number_takes w wide least most otherwise bytes n rest fits e =
    let k = byte_len w in
    let is = number_read w least most otherwise bytes n rest e in
    let n-is : leading_number w bytes ≡ n = is.number in
    let rest-is : drop k bytes ≡ rest = is.rest_is in
    let long : k ≤ length bytes = is.whole in
    let front-is : to_be_bytes w n ≡ take k bytes =
    rw (← n-is) (wide.back (take k bytes) (omega (arith, length-take k bytes)) (IsBytes-take k bytes fits)) in (
      record {
        parts = rw (front-is, ← rest-is) (sym (take-append-drop k bytes));
        rest_fits = rw (← rest-is) (IsBytes-drop k bytes fits);
      },
      record {
        fits = rw (← n-is) (wide.below (take k bytes) (IsBytes-take k bytes fits));
        low = is.low;
        high = is.high;
      },
    )

-- a whole number from least to most is read
pub number_whole : (w : Width) (least most : ℕ) (otherwise : WireFault) (bytes : List ℕ)
    → byte_len w ≤ length bytes → least ≤ leading_number w bytes → leading_number w bytes ≤ most
    → number_at w least most otherwise bytes ≡ Ok (leading_number w bytes, drop (byte_len w) bytes)
number_whole w least most otherwise bytes long low high =
    rw (
      le-ltb (length bytes) (byte_len w) long,
      le-ltb (leading_number w bytes) least low,
      le-ltb most (leading_number w bytes) high,
    ) refl

pub number_again : (w : Width) (wide : IsWide w) (least most : ℕ) (otherwise : WireFault) (n : ℕ) (rest : List ℕ)
    → IsNumber w least most n → number_at w least most otherwise (to_be_bytes w n ++ rest) ≡ Ok (n, rest)
number_again w wide least most otherwise n rest is =
    let len = wide.len n in
    let long : ltb (length (to_be_bytes w n ++ rest)) (byte_len w) ≡ false =
    le-ltb _ _ (omega (arith, length-append (to_be_bytes w n) rest)) in
    let front-is : leading_number w (to_be_bytes w n ++ rest) ≡ n =
    rw (take_at (to_be_bytes w n) rest (byte_len w) len) (wide.again n is.fits) in
    rw (long, front-is, le-ltb n least is.low, le-ltb most n is.high, drop_at (to_be_bytes w n) rest (byte_len w) len)
    refl

-- a number isn't read exactly where it is at fault
pub number_fails : (w : Width) (least most : ℕ) (otherwise : WireFault) (bytes : List ℕ) (e : WireFault)
    → number_at w least most otherwise bytes ≡ Err e → IsNumberAtFault w least most otherwise bytes e
number_fails w least most otherwise bytes e h =
    let k = byte_len w in
    let found : Result (ℕ × List ℕ) WireFault = Ok (leading_number w bytes, drop k bytes) in
    let high : Result (ℕ × List ℕ) WireFault = cond (ltb most (leading_number w bytes)) (Err otherwise) found in
    let low : Result (ℕ × List ℕ) WireFault = cond (ltb (leading_number w bytes) least) (Err otherwise) high in
    elim (guard_err (ltb (length bytes) k) Short e low h) [
      | inl g1 ↦ inl (ltb-true _ _ g1.0, g1.1)
      | inr g1 ↦ elim (guard_err (ltb (leading_number w bytes) least) otherwise e high g1.1) [
        | inl g2 ↦ inr (ltb-false _ _ g1.0, inl (ltb-true _ _ g2.0), g2.1)
        | inr g2 ↦ elim (guard_err (ltb most (leading_number w bytes)) otherwise e found g2.1) [
          | inl g3 ↦ inr (ltb-false _ _ g1.0, inr (ltb-true _ _ g3.0), g3.1)
          | inr g3 ↦ absurd (apart g3.1)
        ]
      ]
    ]

low_fails : (w : Width) (least most : ℕ) (otherwise : WireFault) (bytes : List ℕ)
    → byte_len w ≤ length bytes → leading_number w bytes < least
    → number_at w least most otherwise bytes ≡ Err otherwise
low_fails w least most otherwise bytes long low =
    rw (le-ltb (length bytes) (byte_len w) long, lt-ltb (leading_number w bytes) least low) refl

high_fails : (w : Width) (least most : ℕ) (otherwise : WireFault) (bytes : List ℕ)
    → byte_len w ≤ length bytes → most < leading_number w bytes → number_at w least most otherwise bytes ≡ Err otherwise
high_fails w least most otherwise bytes long high =
    elim (cases_lt (leading_number w bytes) least) [
      | inl lt ↦ low_fails w least most otherwise bytes long lt
      | inr le ↦ rw (
        le-ltb (length bytes) (byte_len w) long,
        le-ltb (leading_number w bytes) least le,
        lt-ltb most (leading_number w bytes) high,
      ) refl
    ]

pub number_at_fault : (w : Width) (least most : ℕ) (otherwise : WireFault) (bytes : List ℕ) (e : WireFault)
    → IsNumberAtFault w least most otherwise bytes e → number_at w least most otherwise bytes ≡ Err e
number_at_fault w least most otherwise bytes e (inl h) = rw (lt-ltb (length bytes) (byte_len w) h.0, h.1) refl
number_at_fault w least most otherwise bytes e (inr h) =
    elim h.1 [
      | inl low ↦ rw h.2 (low_fails w least most otherwise bytes h.0 low)
      | inr high ↦ rw h.2 (high_fails w least most otherwise bytes h.0 high)
    ]
