-- Reading fields from left to right, as a function of the bytes. The private readers are proved against it. Lemmas in
-- proofs/ say that it reads the values that are spelled, and otherwise gives the first fault.
use Rattle.std.specs.Prelude.{◌≡◌, ℕ, ◌*◌, List, [], ◌∷◌, length, take, drop, Result, Ok, Err, IsOk, nat_lt}
use Rattle.std.specs.Prelude.{if◌then◌else◌}
use Rattle.std.specs.Int.{Width, w8, w16, w32, byte_len, from_be_bytes}
use Rattle.ov_wire.specs.declared.fault.WireFault.{WireFault}
use Rattle.ov_wire.specs.declared.fault.WireFault.TheVariants.{Short, BadVersion, BadKind, BadField, Trailing}
use Rattle.ov_wire.specs.declared.fault.WireFault.TheVariants.{OutOfMemory}
use Rattle.ov_wire.specs.Limits.{most_ids, most_payload}
use Rattle.ov_wire.specs.Fields.{Field, Number, Ids, Payload, Value, One, Many}
use Rattle.ov_wire.specs.Faults.{leading_number}

infixl 10 ◌>>=◌
-- f of the value, or the fault if there is none
abbrev pub ◌>>=◌ : {A B : Type 0} → Result A WireFault → (A → Result B WireFault) → Result B WireFault
(Ok x) >>= f = f x
(Err e) >>= f = Err e

-- the number that begins the bytes, and the bytes after it
abbrev pub number_at : Width → ℕ → ℕ → WireFault → List ℕ → Result (ℕ × List ℕ) WireFault
number_at width least most otherwise bytes =
    if nat_lt (length bytes) (byte_len width) then Err Short else
    if nat_lt (leading_number width bytes) least then Err otherwise else
    if nat_lt most (leading_number width bytes) then Err otherwise else
    Ok (leading_number width bytes, drop (byte_len width) bytes)

-- the first `count` bytes and those after them
abbrev pub bytes_at : ℕ → List ℕ → Result (List ℕ × List ℕ) WireFault
bytes_at count bytes = if nat_lt (length bytes) count then Err Short else Ok (take count bytes, drop count bytes)

-- the numbers of four bytes each
abbrev pub ids_in : List ℕ → List ℕ
ids_in (a ∷ b ∷ c ∷ d ∷ rest) = from_be_bytes w32 (a ∷ b ∷ c ∷ d ∷ []) ∷ ids_in rest
ids_in (a ∷ b ∷ c ∷ []) = []
ids_in (a ∷ b ∷ []) = []
ids_in (a ∷ []) = []
ids_in [] = []

-- the value of the field that begins the bytes, and the bytes after it
abbrev pub field_at : Field → List ℕ → Result (Value × List ℕ) WireFault
field_at (Number width least most otherwise) bytes = do
  n ← number_at width least most otherwise bytes
  Ok (One n.0, n.1)
field_at Ids bytes = do
  count ← number_at w8 0 most_ids BadField bytes
  ids ← bytes_at (4 * count.0) count.1
  Ok (Many (ids_in ids.0), ids.1)
field_at Payload bytes = do
  len ← number_at w16 0 most_payload BadField bytes
  payload ← bytes_at len.0 len.1
  Ok (Many payload.0, payload.1)

-- the values of the fields; the bytes end after the last field
abbrev pub values_at : List Field → List ℕ → Result (List Value) WireFault
values_at [] [] = Ok []
values_at [] (b ∷ bytes) = Err Trailing
values_at (field ∷ fields) bytes = do
  first ← field_at field bytes
  others ← values_at fields first.1
  Ok (first.0 ∷ others)

-- The result of a function that allocates nothing is what is read; `view` gives the values of what it returned.
abbrev pub ReadsAs : {X Y : Type 0} → (X → Y) → Result X WireFault → Result Y WireFault → Type 0
ReadsAs view (Ok x) read = read ≡ Ok (view x)
ReadsAs view (Err fault) read = read ≡ Err fault

-- The fault is the one that is read; or it is out of memory, and something is read.
abbrev pub FailsReading : {Y : Type 0} → WireFault → Result Y WireFault → Type 0
FailsReading OutOfMemory read = IsOk read
FailsReading Short read = read ≡ Err Short
FailsReading BadVersion read = read ≡ Err BadVersion
FailsReading BadKind read = read ≡ Err BadKind
FailsReading BadField read = read ≡ Err BadField
FailsReading Trailing read = read ≡ Err Trailing

-- The same as `ReadsAs`, for a function that may be out of memory, but only if something is read.
abbrev pub MapsResult : {X Y : Type 0} → (X → Y) → Result X WireFault → Result Y WireFault → Type 0
MapsResult view (Ok x) read = read ≡ Ok (view x)
MapsResult view (Err fault) read = FailsReading fault read
