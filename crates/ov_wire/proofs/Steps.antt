-- Steps of reading, one after the other.
use Rattle.std.proofs.Common.{◌≡◌, ℕ, ◌-◌, ◌^◌, ◌<◌, ◌≤◌, Bool, true, false, cond, List, [], ◌∷◌, length, take, drop}
use Rattle.std.proofs.Common.{Result, Ok, Err, refl, arith, ◌⊎◌, inl, inr}
use Rattle.std.specs.Prelude.{slice_index_or}
use Rattle.std.specs.Int.{w8, w32}
use Rattle.std.proofs.lemmas.Bool.{cases_lt, lt-ltb, le-ltb}
use Rattle.std.proofs.lemmas.List.{length-drop}
use Rattle.ov_wire.specs.declared.fault.WireFault.{WireFault}
use Rattle.ov_wire.specs.declared.fault.WireFault.TheVariants.{Short, BadVersion, BadKind, BadField, Trailing}
use Rattle.ov_wire.specs.declared.fault.WireFault.TheVariants.{OutOfMemory}
use Rattle.ov_wire.specs.Fields.{Value, One}
use Rattle.ov_wire.specs.Messages.{kinds, fields_of, most_kind}
use Rattle.ov_wire.specs.Code.Reading.{◌>>=◌, number_at, bytes_at, values_at, FailsReading}

-- a step that did not fail has a value
pub bind_ok : {A B : Type 0} (r : Result A WireFault) (f : A → Result B WireFault) (y : B)
    → (r >>= f) ≡ Ok y → (x : A) × (r ≡ Ok x) × (f x ≡ Ok y)
bind_ok (Ok x) f y e = (x, refl, e)
bind_ok (Err d) f y e = absurd cc

-- where a guarded step failed, the test failed or what follows it
pub guard_err : {A : Type 0} (b : Bool) (d e : WireFault) (r : Result A WireFault)
    → cond b (Err d) r ≡ Err e → ((b ≡ true) × (e ≡ d)) ⊎ ((b ≡ false) × (r ≡ Err e))
guard_err true d e r h = inl (refl, cc)
guard_err false d e r h = inr (refl, h)

abbrev done : {A : Type 0} → A → Result A WireFault
done x = Ok x

pub ok_is : {A : Type 0} (x y : A) → done x ≡ done y → x ≡ y
ok_is x y e = cc

pub apart : {A : Type 0} {x : A} {e : WireFault} → done x ≡ Err e → ⊥
apart h = cc

-- where two steps failed, the first failed or the second
pub bind_err : {A B : Type 0} (r : Result A WireFault) (f : A → Result B WireFault) (e : WireFault)
    → (r >>= f) ≡ Err e → (r ≡ Err e) ⊎ ((x : A) × (r ≡ Ok x) × (f x ≡ Err e))
bind_err (Ok x) f e h = inr (x, refl, h)
bind_err (Err d) f e h = inl cc

-- where a guarded step did not fail, neither did its test
pub guard_ok : {A : Type 0} (b : Bool) (d : WireFault) (r : Result A WireFault) (y : A)
    → cond b (Err d) r ≡ Ok y → (b ≡ false) × (r ≡ Ok y)
guard_ok true d r y e = absurd cc
guard_ok false d r y e = (refl, e)

-- what fails, fails with the same fault where its value would be used further
pub Fails-then : {A B : Type 0} (e : WireFault) (r : Result A WireFault) (f : A → B)
    → FailsReading e r → FailsReading e (r >>= λ x. Ok (f x))
Fails-then OutOfMemory (Ok x) f h = h
Fails-then OutOfMemory (Err d) f h = h
Fails-then Short r f h = rw h refl
Fails-then BadVersion r f h = rw h refl
Fails-then BadKind r f h = rw h refl
Fails-then BadField r f h = rw h refl
Fails-then Trailing r f h = rw h refl

after_end : (rest : List ℕ) (v : Value) → 0 < length rest
    → (values_at [] rest >>= λ others. Ok (v ∷ others)) ≡ Err Trailing
after_end [] v h = absurd (omega arith)
after_end (b ∷ rest) v h = refl

-- the last field: its bytes as a value, and no bytes after them
abbrev pub last_at : (List ℕ → Value) → ℕ → List ℕ → Result (List Value) WireFault
last_at view count bytes =
    let one : List ℕ × List ℕ → Result (Value × List ℕ) WireFault = λ x. Ok (view x.0, x.1) in
    (bytes_at count bytes >>= one) >>= λ first. (values_at [] first.1 >>= λ others. Ok (first.0 ∷ others))

-- a last field with too few or too many bytes behind its count fails, with this fault
pub fails_whole : (view : List ℕ → Value) (count : ℕ) (bytes : List ℕ) (e : WireFault)
    → (length bytes < count → e ≡ Short) → (count ≤ length bytes → (count < length bytes) × (e ≡ Trailing))
    → FailsReading e (last_at view count bytes)
fails_whole view count bytes e short trailing =
    elim (cases_lt (length bytes) count) [
      | inl lt ↦ rw (short lt, lt-ltb (length bytes) count lt) refl
      | inr le ↦ rw (
        (trailing le).1,
        le-ltb (length bytes) count le,
        after_end (drop count bytes) (view (take count bytes))
            (omega (arith, trailing le, length-drop count bytes)),
      ) refl
    ]

regroup : (a b c : Value) (r : Result (List Value) WireFault)
    → (((r >>= λ vs. Ok (c ∷ vs)) >>= λ vs. Ok (b ∷ vs)) >>= λ vs. Ok (a ∷ vs)) ≡ (r >>= λ vs. Ok (a ∷ b ∷ c ∷ vs))
regroup a b c (Ok vs) = refl
regroup a b c (Err e) = refl

-- after version, kind and sender the fields of the kind are read
pub read_on : (bytes r1 r2 r3 : List ℕ) (v kind from : ℕ)
    → number_at w8 1 1 BadVersion bytes ≡ Ok (v, r1) → number_at w8 1 most_kind BadKind r1 ≡ Ok (kind, r2)
    → number_at w32 0 (256 ^ 4 - 1) BadField r2 ≡ Ok (from, r3)
    → values_at (fields_of kind) bytes
    ≡ (values_at (slice_index_or kinds (kind - 1) []) r3 >>= λ vs. Ok (One v ∷ One kind ∷ One from ∷ vs))
read_on bytes r1 r2 r3 v kind from h1 h2 h3 =
    rw (h1, h2, h3) (regroup (One v) (One kind) (One from) (values_at (slice_index_or kinds (kind - 1) []) r3))
