-- The faults of bytes that are no message. The first wrong field from the left decides which fault it is.
use Rattle.std.specs.Prelude.{◌≡◌, ◌≢◌, ℕ, ◌+◌, ◌*◌, ◌<◌, ◌≤◌, ◌⊎◌, List, [], ◌∷◌, ◌++◌, length, take, slice_index}
use Rattle.std.specs.Int.{Width, w8, w16, byte_len, from_be_bytes}
use Rattle.ov_wire.specs.declared.fault.WireFault.{WireFault}
use Rattle.ov_wire.specs.declared.fault.WireFault.TheVariants.{Short, BadVersion, BadKind, BadField, Trailing}
use Rattle.ov_wire.specs.declared.fault.WireFault.TheVariants.{OutOfMemory}
use Rattle.ov_wire.specs.Limits.{most_ids, most_payload}
use Rattle.ov_wire.specs.Fields.{Field, Number, Ids, Payload, Value, Fits, spelled}
use Rattle.ov_wire.specs.Messages.{fields_of}

-- the fault's number
abbrev pub number_of : WireFault → ℕ
number_of Short = 1
number_of BadVersion = 2
number_of BadKind = 3
number_of BadField = 4
number_of Trailing = 5
number_of OutOfMemory = 99

-- the number that the bytes begin with
abbrev pub leading_number : Width → List ℕ → ℕ
leading_number width bytes = from_be_bytes width (take (byte_len width) bytes)

-- the number that begins the bytes is cut off by their end (Short), or it is not from `least` to `most`
abbrev pub IsNumberAtFault : Width → ℕ → ℕ → WireFault → List ℕ → WireFault → Type 0
IsNumberAtFault width least most otherwise bytes fault =
    ((length bytes < byte_len width) × (fault ≡ Short))
    ⊎ ((byte_len width ≤ length bytes) × ((leading_number width bytes < least) ⊎ (most < leading_number width bytes))
    × (fault ≡ otherwise))

-- The field that begins the bytes has this fault. A count or a length is judged before the ids or bytes after it.
abbrev pub IsAtFault : Field → List ℕ → WireFault → Type 0
IsAtFault (Number width least most otherwise) bytes fault = IsNumberAtFault width least most otherwise bytes fault
IsAtFault Ids bytes fault =
    IsNumberAtFault w8 0 most_ids BadField bytes fault
    ⊎ ((1 ≤ length bytes) × (leading_number w8 bytes ≤ most_ids) × (length bytes < 1 + 4 * leading_number w8 bytes)
    × (fault ≡ Short))
IsAtFault Payload bytes fault =
    IsNumberAtFault w16 0 most_payload BadField bytes fault
    ⊎ ((2 ≤ length bytes) × (leading_number w16 bytes ≤ most_payload) × (length bytes < 2 + leading_number w16 bytes)
    × (fault ≡ Short))

-- The first fault of bytes that should spell these fields. The first field has this fault, or it is spelled and what
-- follows has it. Bytes after the last field are the fault Trailing.
abbrev pub FirstOf : List Field → List ℕ → WireFault → Type 0
FirstOf [] bytes fault = (bytes ≢ []) × (fault ≡ Trailing)
FirstOf (field ∷ fields) bytes fault =
    IsAtFault field bytes fault
    ⊎ ((value : Value) × (rest : List ℕ) × Fits field value × (bytes ≡ spelled field value ++ rest)
    × FirstOf fields rest fault)

-- The first fault of bytes that should be a message, by the fields of the kind that their second byte says. If there is
-- no second byte, or it is no kind, the first fault comes before these fields.
abbrev pub FirstFault : List ℕ → WireFault → Type 0
FirstFault bytes fault = FirstOf (fields_of (slice_index bytes 1)) bytes fault
