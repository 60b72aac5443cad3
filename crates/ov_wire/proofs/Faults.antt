-- Bytes that are not read have a fault: that of the first wrong field from the left.
use Rattle.std.proofs.Common.{◌≡◌, ℕ, ◌*◌, ◌<◌, inl, inr, List, [], ◌∷◌, ◌++◌, length, ltb, drop, take, Result, Ok, Err}
use Rattle.std.proofs.Common.{refl, sym, ap, subst, ◌∙◌, arith, append_assoc}
use Rattle.std.specs.Int.{w8, w16}
use Rattle.std.proofs.lemmas.Bool.{ltb-true, lt-ltb}
use Rattle.std.proofs.lemmas.List.{length-drop, append-nil}
use Rattle.ov_wire.specs.declared.fault.WireFault.{WireFault}
use Rattle.ov_wire.specs.declared.fault.WireFault.TheVariants.{Short, BadField, Trailing}
use Rattle.ov_wire.specs.Fields.{Field, Number, Ids, Payload, Value, One, Many, spelled, AllFit, spelled_all, Spells}
use Rattle.ov_wire.specs.Limits.{most_ids, most_payload}
use Rattle.ov_wire.specs.Faults.{leading_number, IsAtFault, FirstOf}
use Rattle.ov_wire.specs.Code.Reading.{◌>>=◌, number_at, bytes_at, ids_in, field_at, values_at}
use Rattle.ov_wire.proofs.Steps.{bind_ok, bind_err, guard_err, ok_is, apart}
use Rattle.ov_wire.proofs.Numbers.{IsBytes, number_read, number_whole, number_fails, number_at_fault}
use Rattle.ov_wire.proofs.Fields.{IsSound, field_read, field_again}

bytes_fail : (count : ℕ) (bytes : List ℕ) (e : WireFault)
    → bytes_at count bytes ≡ Err e → (length bytes < count) × (e ≡ Short)
bytes_fail count bytes e h =
    elim (guard_err (ltb (length bytes) count) Short e (Ok (take count bytes, drop count bytes)) h) [
      | inl g ↦ (ltb-true _ _ g.0, g.1)
      | inr g ↦ absurd (apart g.1)
    ]

ids_fail : (bytes : List ℕ) (e : WireFault) → field_at Ids bytes ≡ Err e → IsAtFault Ids bytes e
ids_fail bytes e h =
    elim (bind_err (number_at w8 0 most_ids BadField bytes)
    (λ count. bytes_at (4 * count.0) count.1 >>= λ ids. Ok (Many (ids_in ids.0), ids.1)) e h) [
      | inl a ↦ inl (number_fails w8 0 most_ids BadField bytes e a)
      | inr a ↦ elim (bind_err (bytes_at (4 * a.0.0) a.0.1) (λ ids. Ok (Many (ids_in ids.0), ids.1)) e a.2) [
        | inl b ↦
            let is = number_read w8 0 most_ids BadField bytes a.0.0 a.0.1 a.1 in
            let short = bytes_fail (4 * a.0.0) a.0.1 e b in
            let len = length-drop 1 bytes ∙ refl in
            let rest = ap length is.rest_is in
            inr (
              is.whole,
              omega (arith, is.number, is.high),
              omega (arith, is.number, short.0, len, rest, is.whole),
              short.1,
            )
        | inr b ↦ absurd (apart b.2)
      ]
    ]

payload_fails : (bytes : List ℕ) (e : WireFault) → field_at Payload bytes ≡ Err e → IsAtFault Payload bytes e
payload_fails bytes e h =
    elim (bind_err (number_at w16 0 most_payload BadField bytes)
    (λ len. bytes_at len.0 len.1 >>= λ payload. Ok (Many payload.0, payload.1)) e h) [
      | inl a ↦ inl (number_fails w16 0 most_payload BadField bytes e a)
      | inr a ↦ elim (bind_err (bytes_at a.0.0 a.0.1) (λ payload. Ok (Many payload.0, payload.1)) e a.2) [
        | inl b ↦
            let is = number_read w16 0 most_payload BadField bytes a.0.0 a.0.1 a.1 in
            let short = bytes_fail a.0.0 a.0.1 e b in
            let len = length-drop 2 bytes ∙ refl in
            let rest = ap length is.rest_is in
            inr (
              is.whole,
              omega (arith, is.number, is.high),
              omega (arith, is.number, short.0, len, rest, is.whole),
              short.1,
            )
        | inr b ↦ absurd (apart b.2)
      ]
    ]

pub field_fails : (f : Field) (bytes : List ℕ) (e : WireFault) → field_at f bytes ≡ Err e → IsAtFault f bytes e
field_fails (Number w least most otherwise) bytes e h =
    elim (bind_err (number_at w least most otherwise bytes) (λ n. Ok (One n.0, n.1)) e h) [
      | inl a ↦ number_fails w least most otherwise bytes e a
      | inr a ↦ absurd (apart a.2)
    ]
field_fails Ids bytes e h = ids_fail bytes e h
field_fails Payload bytes e h = payload_fails bytes e h

pub field_at_fault : (f : Field) (bytes : List ℕ) (e : WireFault) → IsAtFault f bytes e → field_at f bytes ≡ Err e
field_at_fault (Number w least most otherwise) bytes e h = rw (number_at_fault w least most otherwise bytes e h) refl
field_at_fault Ids bytes e (inl h) = rw (number_at_fault w8 0 most_ids BadField bytes e h) refl
field_at_fault Ids bytes e (inr h) =
    let short : length (drop 1 bytes) < 4 * leading_number w8 bytes = omega (arith, length-drop 1 bytes, h.0, h.2) in
    rw (
      number_whole w8 0 most_ids BadField bytes h.0 (omega arith) h.1,
      lt-ltb (length (drop 1 bytes)) (4 * leading_number w8 bytes) short,
      h.3,
    ) refl
field_at_fault Payload bytes e (inl h) = rw (number_at_fault w16 0 most_payload BadField bytes e h) refl
field_at_fault Payload bytes e (inr h) =
    let short : length (drop 2 bytes) < leading_number w16 bytes = omega (arith, length-drop 2 bytes, h.0, h.2) in
    rw (
      number_whole w16 0 most_payload BadField bytes h.0 (omega arith) h.1,
      lt-ltb (length (drop 2 bytes)) (leading_number w16 bytes) short,
      h.3,
    ) refl

-- ---- all fields

abbrev pub AllSound : List Field → Type 0
AllSound [] = Unit {0}
AllSound (f ∷ fs) = IsSound f × AllSound fs

pub values_read : (fs : List Field) → AllSound fs → (bytes : List ℕ) (vs : List Value) → IsBytes bytes
    → values_at fs bytes ≡ Ok vs → Spells fs vs bytes
values_read [] sound [] vs fits e =
    subst (λ (x : List Value). Spells [] x []) (ok_is [] vs e) (record { fit = tt; bytes_are = refl })
values_read [] sound (b ∷ bytes) vs fits e = absurd (apart (sym e))
values_read (f ∷ fs) sound bytes vs fits e =
    let a = bind_ok (field_at f bytes) (λ first. values_at fs first.1 >>= λ others. Ok (first.0 ∷ others)) vs e in
    let b = bind_ok (values_at fs a.0.1) (λ others. Ok (a.0.0 ∷ others)) vs a.2 in
    let first = field_read f sound.0 bytes a.0 fits a.1 in
    let others = values_read fs sound.1 a.0.1 b.0 first.takes.rest_fits b.1 in
    subst (λ (x : List Value). Spells (f ∷ fs) x bytes) (ok_is (a.0.0 ∷ b.0) vs b.2)
    (record {
      fit = (first.fits, others.fit);
      bytes_are = first.takes.parts
          ∙ ap (λ (x : List ℕ). spelled f a.0.0 ++ x) others.bytes_are;
    })

regroup : (v : Value) (vs : List Value) (r : Result (List Value) WireFault)
    → ((r >>= λ _. Ok vs) >>= λ others. Ok (v ∷ others)) ≡ (r >>= λ _. Ok (v ∷ vs))
regroup v vs (Ok x) = refl
regroup v vs (Err e) = refl

-- the fields are read, whatever follows them
values_on : (fs : List Field) → AllSound fs → (vs : List Value) (more : List ℕ) → AllFit fs vs
    → values_at fs (spelled_all fs vs ++ more) ≡ (values_at [] more >>= λ _. Ok vs)
values_on [] sound [] [] fit = refl
values_on [] sound [] (b ∷ more) fit = refl
values_on [] sound (v ∷ vs) more fit = absurd fit
values_on (f ∷ fs) sound [] more fit = absurd fit
values_on (f ∷ fs) sound (v ∷ vs) more fit =
    let rest = spelled_all fs vs ++ more in
    ap (values_at (f ∷ fs)) (append_assoc (spelled f v) (spelled_all fs vs) more)
    ∙ rw (field_again f sound.0 v rest fit.0, values_on fs sound.1 vs more fit.1) (regroup v vs (values_at [] more))

pub values_fail : (fs : List Field) → AllSound fs → (bytes : List ℕ) (e : WireFault) → IsBytes bytes
    → values_at fs bytes ≡ Err e → FirstOf fs bytes e
values_fail [] sound [] e fits h = absurd (apart h)
values_fail [] sound (b ∷ bytes) e fits h = (λ n. cc, cc)
values_fail (f ∷ fs) sound bytes e fits h =
    elim (bind_err (field_at f bytes) (λ first. values_at fs first.1 >>= λ others. Ok (first.0 ∷ others)) e h) [
      | inl a ↦ inl (field_fails f bytes e a)
      | inr a ↦ elim (bind_err (values_at fs a.0.1) (λ others. Ok (a.0.0 ∷ others)) e a.2) [
        | inl b ↦
            let first = field_read f sound.0 bytes a.0 fits a.1 in
            inr (a.0.0, a.0.1, first.fits, first.takes.parts, values_fail fs sound.1 a.0.1 e first.takes.rest_fits b)
        | inr b ↦ absurd (apart b.2)
      ]
    ]

pub first_fails : (fs : List Field) → AllSound fs → (bytes : List ℕ) (e : WireFault) → FirstOf fs bytes e
    → values_at fs bytes ≡ Err e
first_fails [] sound [] e h = absurd (h.0 refl)
first_fails [] sound (b ∷ bytes) e h = rw h.1 refl
first_fails (f ∷ fs) sound bytes e (inl h) = rw (field_at_fault f bytes e h) refl
first_fails (f ∷ fs) sound bytes e (inr h) =
    ap (values_at (f ∷ fs)) h.3 ∙ rw (field_again f sound.0 h.0 h.1 h.2, first_fails fs sound.1 h.1 e h.4) refl

-- what is spelled is read
pub values_again : (fs : List Field) → AllSound fs → (bytes : List ℕ) (vs : List Value) → Spells fs vs bytes
    → values_at fs bytes ≡ Ok vs
values_again fs sound bytes vs s =
    ap (values_at fs) (s.bytes_are ∙ sym (append-nil (spelled_all fs vs))) ∙ values_on fs sound vs [] s.fit

-- a spelling with more bytes behind it is not read
pub values_longer : (fs : List Field) → AllSound fs → (bytes : List ℕ) (vs : List Value) (b : ℕ) (more : List ℕ)
    → Spells fs vs bytes → values_at fs (bytes ++ b ∷ more) ≡ Err Trailing
values_longer fs sound bytes vs b more s =
    ap (λ (x : List ℕ). values_at fs (x ++ b ∷ more)) s.bytes_are ∙ values_on fs sound vs (b ∷ more) s.fit
