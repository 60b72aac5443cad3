-- Fields in bytes: what is read was spelled, and what is spelled is read again.
use Rattle.std.proofs.Common.{◌≡◌, ℕ, suc, ◌-◌, ◌*◌, ◌^◌, ◌<◌, ◌≤◌, false, ltb, List, [], ◌∷◌, ◌++◌, length, take, drop}
use Rattle.std.proofs.Common.{Ok, refl, sym, ap, subst, ◌∙◌, arith, append_assoc}
use Rattle.std.specs.Int.{w8, w16, w32, from_be_bytes, to_be_bytes}
use Rattle.std.specs.List.{flat_map, AllByRecursion}
use Rattle.std.proofs.lemmas.Bool.{ltb-false, le-ltb}
use Rattle.std.proofs.lemmas.List.{take_at, drop_at, take-append-drop, length-append, length-take}
use Rattle.std.proofs.lemmas.List.Concat.{flat_map-cons}
use Rattle.ov_wire.specs.declared.fault.WireFault.TheVariants.{Short, BadField}
use Rattle.ov_wire.specs.Fields.{Field, Number, Ids, Payload, Value, One, Many, Fits, spelled}
use Rattle.ov_wire.specs.Limits.{most_ids, most_payload}
use Rattle.ov_wire.specs.Code.Reading.{◌>>=◌, number_at, bytes_at, ids_in, field_at}
use Rattle.ov_wire.proofs.Steps.{guard_ok, bind_ok, ok_is}
use Rattle.ov_wire.proofs.Numbers.{IsBytes, IsBytes-drop, IsBytes-take, Takes, IsWide, wide8, wide16, wide32, IsNumber}
use Rattle.ov_wire.proofs.Numbers.{number_takes, number_again}

-- ---- ids, four bytes each

ids_len : (n : ℕ) (bytes : List ℕ) → length bytes ≡ 4 * n → length (ids_in bytes) ≡ n
ids_len n (a ∷ b ∷ c ∷ d ∷ rest) len = let more = ids_len (n - 1) rest (omega arith) in omega arith
ids_len n (a ∷ b ∷ c ∷ []) len = absurd (omega arith)
ids_len n (a ∷ b ∷ []) len = absurd (omega arith)
ids_len n (a ∷ []) len = absurd (omega arith)
ids_len n [] len = omega arith

ids_back : (n : ℕ) (bytes : List ℕ) → length bytes ≡ 4 * n → IsBytes bytes
    → flat_map (to_be_bytes w32) (ids_in bytes) ≡ bytes
ids_back n (a ∷ b ∷ c ∷ d ∷ rest) len fits =
    let first = wide32.back (a ∷ b ∷ c ∷ d ∷ []) refl (IsBytes-take 4 (a ∷ b ∷ c ∷ d ∷ rest) fits) in
    let others = ids_back (n - 1) rest (omega arith) (IsBytes-drop 4 (a ∷ b ∷ c ∷ d ∷ rest) fits) in
    flat_map-cons (to_be_bytes w32) (from_be_bytes w32 (a ∷ b ∷ c ∷ d ∷ [])) (ids_in rest)
    ∙ ap (λ (x : List ℕ). x ++ flat_map (to_be_bytes w32) (ids_in rest)) first
    ∙ ap (λ (x : List ℕ). a ∷ b ∷ c ∷ d ∷ x) others
ids_back n (a ∷ b ∷ c ∷ []) len fits = absurd (omega arith)
ids_back n (a ∷ b ∷ []) len fits = absurd (omega arith)
ids_back n (a ∷ []) len fits = absurd (omega arith)
ids_back n [] len fits = refl

ids_fit : (bytes : List ℕ) → IsBytes bytes → AllByRecursion (λ id. id < 2 ^ 32) (ids_in bytes)
ids_fit (a ∷ b ∷ c ∷ d ∷ rest) fits = (
  wide32.below (a ∷ b ∷ c ∷ d ∷ []) (IsBytes-take 4 (a ∷ b ∷ c ∷ d ∷ rest) fits),
  ids_fit rest (IsBytes-drop 4 (a ∷ b ∷ c ∷ d ∷ rest) fits),
)
ids_fit (a ∷ b ∷ c ∷ []) fits = tt
ids_fit (a ∷ b ∷ []) fits = tt
ids_fit (a ∷ []) fits = tt
ids_fit [] fits = tt

ids_again : (ids : List ℕ) → AllByRecursion (λ id. id < 2 ^ 32) ids → ids_in (flat_map (to_be_bytes w32) ids) ≡ ids
ids_again [] fits = refl
ids_again (id ∷ ids) fits =
    ap ids_in (flat_map-cons (to_be_bytes w32) id ids)
    ∙ ap (λ (n : ℕ). n ∷ ids_in (flat_map (to_be_bytes w32) ids)) (wide32.again id fits.0)
    ∙ ap (λ (x : List ℕ). id ∷ x) (ids_again ids fits.1)

pub ids_bytes : (ids : List ℕ) → length (flat_map (to_be_bytes w32) ids) ≡ 4 * length ids
ids_bytes [] = refl
ids_bytes (id ∷ ids) = ap length (flat_map-cons (to_be_bytes w32) id ids) ∙ omega (arith, ids_bytes ids)

-- ---- a number of bytes

bytes_fit : (bytes : List ℕ) → IsBytes bytes → AllByRecursion (λ b. b < 256) bytes
bytes_fit [] fits = tt
bytes_fit (b ∷ bytes) fits = (fits 0, bytes_fit bytes (λ i. fits (suc i)))

bytes_take : (count : ℕ) (bytes text rest : List ℕ) → IsBytes bytes → bytes_at count bytes ≡ Ok (text, rest)
    → Takes bytes text rest × (length text ≡ count) × IsBytes text
bytes_take count bytes text rest fits e =
    let g = guard_ok (ltb (length bytes) count) Short (Ok (take count bytes, drop count bytes)) (text, rest) e in
    let is = ok_is (take count bytes, drop count bytes) (text, rest) g.1 in
    let long : count ≤ length bytes = ltb-false _ _ g.0 in
    subst (λ (x : List ℕ × List ℕ). Takes bytes x.0 x.1 × (length x.0 ≡ count) × IsBytes x.0) is (
      record { parts = sym (take-append-drop count bytes); rest_fits = IsBytes-drop count bytes fits },
      omega (arith, length-take count bytes),
      IsBytes-take count bytes fits,
    )

bytes_again : (text rest : List ℕ) (count : ℕ) → length text ≡ count → bytes_at count (text ++ rest) ≡ Ok (text, rest)
bytes_again text rest count len =
    let long : ltb (length (text ++ rest)) count ≡ false = le-ltb _ _ (omega (arith, length-append text rest)) in
    rw (long, take_at text rest count len, drop_at text rest count len) refl

-- ---- fields

-- the field is a list, or a number of 1, 2 or 4 bytes
abbrev pub IsSound : Field → Type 0
IsSound (Number w least most otherwise) = IsWide w
IsSound Ids = Unit {0}
IsSound Payload = Unit {0}

Takes-then : (a x b y c : List ℕ) → Takes a x b → Takes b y c → Takes a (x ++ y) c
Takes-then a x b y c p q =
    record { parts = p.parts ∙ ap (λ (t : List ℕ). x ++ t) q.parts ∙ sym (append_assoc x y c); rest_fits = q.rest_fits }

-- what is known of a value that was read, and of the rest
pub record IsRead (f : Field) (bytes : List ℕ) (x : Value × List ℕ) : Type 0 where
  pub takes : Takes bytes (spelled f x.0) x.1
  pub fits : Fits f x.0

ids_read : (bytes : List ℕ) (x : Value × List ℕ) → IsBytes bytes → field_at Ids bytes ≡ Ok x → IsRead Ids bytes x
ids_read bytes x fits e =
    let a = bind_ok (number_at w8 0 most_ids BadField bytes)
    (λ count. bytes_at (4 * count.0) count.1 >>= λ ids. Ok (Many (ids_in ids.0), ids.1)) x e in
    let n = a.0.0 in
    let r = a.0.1 in
    let b = bind_ok (bytes_at (4 * n) r) (λ ids. Ok (Many (ids_in ids.0), ids.1)) x a.2 in
    let t = b.0.0 in
    let number = number_takes w8 wide8 0 most_ids BadField bytes n r fits a.1 in
    let text = bytes_take (4 * n) r t b.0.1 number.0.rest_fits b.1 in
    let len = ids_len n t text.1 in
    let back = ids_back n t text.1 text.2 in
    let both = Takes-then bytes (to_be_bytes w8 n) r t b.0.1 number.0 text.0 in
    let spelling : to_be_bytes w8 n ++ t ≡ spelled Ids (Many (ids_in t)) = sym (rw (len, back) refl) in
    let made : Value × List ℕ = (Many (ids_in t), b.0.1) in
    subst (λ (y : Value × List ℕ). IsRead Ids bytes y) (ok_is made x b.2)
    (record {
      takes = subst (λ (s : List ℕ). Takes bytes s b.0.1) spelling both;
      fits = (omega (arith, number.1.high), ids_fit t text.2);
    })

payload_read : (bytes : List ℕ) (x : Value × List ℕ)
    → IsBytes bytes → field_at Payload bytes ≡ Ok x → IsRead Payload bytes x
payload_read bytes x fits e =
    let a = bind_ok (number_at w16 0 most_payload BadField bytes)
    (λ len. bytes_at len.0 len.1 >>= λ payload. Ok (Many payload.0, payload.1)) x e in
    let n = a.0.0 in
    let r = a.0.1 in
    let b = bind_ok (bytes_at n r) (λ payload. Ok (Many payload.0, payload.1)) x a.2 in
    let t = b.0.0 in
    let number = number_takes w16 wide16 0 most_payload BadField bytes n r fits a.1 in
    let text = bytes_take n r t b.0.1 number.0.rest_fits b.1 in
    let both = Takes-then bytes (to_be_bytes w16 n) r t b.0.1 number.0 text.0 in
    let made : Value × List ℕ = (Many t, b.0.1) in
    subst (λ (y : Value × List ℕ). IsRead Payload bytes y) (ok_is made x b.2)
    (record {
      takes = subst (λ (k : ℕ). Takes bytes (to_be_bytes w16 k ++ t) b.0.1) (sym text.1) both;
      fits = (omega (arith, number.1.high, text.1), bytes_fit t text.2);
    })

pub field_read : (f : Field) → IsSound f → (bytes : List ℕ) (x : Value × List ℕ) → IsBytes bytes
    → field_at f bytes ≡ Ok x → IsRead f bytes x
field_read (Number w least most otherwise) wide bytes x fits e =
    let a = bind_ok (number_at w least most otherwise bytes) (λ n. Ok (One n.0, n.1)) x e in
    let number = number_takes w wide least most otherwise bytes a.0.0 a.0.1 fits a.1 in
    let made : Value × List ℕ = (One a.0.0, a.0.1) in
    subst (λ (y : Value × List ℕ). IsRead (Number w least most otherwise) bytes y) (ok_is made x a.2)
    (record { takes = number.0; fits = (number.1.fits, number.1.low, number.1.high) })
field_read Ids wide bytes x fits e = ids_read bytes x fits e
field_read Payload wide bytes x fits e = payload_read bytes x fits e

ids_field_again : (ids rest : List ℕ) → Fits Ids (Many ids)
    → field_at Ids (spelled Ids (Many ids) ++ rest) ≡ Ok (Many ids, rest)
ids_field_again ids rest fits =
    let text = flat_map (to_be_bytes w32) ids in
    let regrouped = append_assoc (to_be_bytes w8 (length ids)) text rest in
    let number : IsNumber w8 0 most_ids (length ids) =
    record { fits = omega (arith, fits.0); low = omega arith; high = fits.0 } in
    ap (field_at Ids) regrouped
    ∙ rw (
      number_again w8 wide8 0 most_ids BadField (length ids) (text ++ rest) number,
      bytes_again text rest (4 * length ids) (ids_bytes ids),
      ids_again ids fits.1,
    ) refl

payload_field_again : (bytes rest : List ℕ)
    → Fits Payload (Many bytes) → field_at Payload (spelled Payload (Many bytes) ++ rest) ≡ Ok (Many bytes, rest)
payload_field_again bytes rest fits =
    let regrouped = append_assoc (to_be_bytes w16 (length bytes)) bytes rest in
    let number : IsNumber w16 0 most_payload (length bytes) =
    record { fits = omega (arith, fits.0); low = omega arith; high = fits.0 } in
    ap (field_at Payload) regrouped
    ∙ rw (
      number_again w16 wide16 0 most_payload BadField (length bytes) (bytes ++ rest) number,
      bytes_again bytes rest (length bytes) refl,
    ) refl

pub field_again : (f : Field) → IsSound f → (v : Value) (rest : List ℕ) → Fits f v
    → field_at f (spelled f v ++ rest) ≡ Ok (v, rest)
field_again (Number w least most otherwise) wide (One n) rest fits =
    rw (number_again w wide least most otherwise n rest (record { fits = fits.0; low = fits.1; high = fits.2 })) refl
field_again (Number w least most otherwise) wide (Many ns) rest fits = absurd fits
field_again Ids wide (Many ids) rest fits = ids_field_again ids rest fits
field_again Ids wide (One n) rest fits = absurd fits
field_again Payload wide (Many bytes) rest fits = payload_field_again bytes rest fits
field_again Payload wide (One n) rest fits = absurd fits
