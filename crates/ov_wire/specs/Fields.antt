-- The fields of messages, and how bytes spell them. Their form is chosen here.
use Rattle.std.specs.Prelude.{◌≡◌, ℕ, ◌-◌, ◌^◌, ◌<◌, ◌≤◌, List, [], ◌∷◌, ◌++◌, length}
use Rattle.std.specs.Int.{Width, w8, w16, w32, byte_len, to_be_bytes}
use Rattle.std.specs.List.{flat_map, AllByRecursion}
use Rattle.ov_ids.specs.Limits.{number_limit}
use Rattle.ov_wire.specs.declared.fault.WireFault.{WireFault}
use Rattle.ov_wire.specs.declared.fault.WireFault.TheVariants.{BadField}
use Rattle.ov_wire.specs.Limits.{most_ids, most_payload}

-- how many values a byte has
abbrev pub byte_values : ℕ
byte_values = 256

-- A field of a message.
pub data Field : Type 0 where
  -- a number from `least` to `most`, in the bytes of its width, the highest byte first; any other number is this fault
  Number : (width : Width) (least most : ℕ) (otherwise : WireFault) → Field
  -- a count of 1 byte, at most `most_ids`, and then this many ids of 4 bytes
  Ids : Field
  -- a length of 2 bytes, at most `most_payload`, and then this many bytes
  Payload : Field

-- a number of this width, from 0 to `most`
abbrev pub up_to : Width → ℕ → Field
up_to width most = Number width 0 most BadField

-- any number of this width
abbrev pub any : Width → Field
any width = up_to width (byte_values ^ byte_len width - 1)

-- What is in a field: a number, or the ids or bytes of a list.
pub data Value : Type 0 where
  One : ℕ → Value
  Many : List ℕ → Value

-- the value can be in the field
abbrev pub Fits : Field → Value → Type 0
Fits (Number width least most otherwise) (One n) = (n < byte_values ^ byte_len width) × (least ≤ n) × (n ≤ most)
Fits Ids (Many ids) = (length ids ≤ most_ids) × AllByRecursion (λ id. id < number_limit) ids
Fits Payload (Many bytes) = (length bytes ≤ most_payload) × AllByRecursion (λ b. b < byte_values) bytes
Fits (Number width least most otherwise) (Many ns) = ⊥
Fits Ids (One n) = ⊥
Fits Payload (One n) = ⊥

-- the bytes of the field with this value
abbrev pub spelled : Field → Value → List ℕ
spelled (Number width least most otherwise) (One n) = to_be_bytes width n
spelled Ids (Many ids) = to_be_bytes w8 (length ids) ++ flat_map (to_be_bytes w32) ids
spelled Payload (Many bytes) = to_be_bytes w16 (length bytes) ++ bytes
spelled (Number width least most otherwise) (Many ns) = []
spelled Ids (One n) = []
spelled Payload (One n) = []

-- there are as many values as fields, and each can be in its field
abbrev pub AllFit : List Field → List Value → Type 0
AllFit [] [] = Unit {0}
AllFit (field ∷ fields) (value ∷ values) = Fits field value × AllFit fields values
AllFit [] (value ∷ values) = ⊥
AllFit (field ∷ fields) [] = ⊥

-- the bytes of the fields with these values, one field after another
abbrev pub spelled_all : List Field → List Value → List ℕ
spelled_all (field ∷ fields) (value ∷ values) = spelled field value ++ spelled_all fields values
spelled_all [] values = []
spelled_all (field ∷ fields) [] = []

-- The bytes spell the fields with these values: one field after another, and nothing else.
pub record Spells (fields : List Field) (values : List Value) (bytes : List ℕ) : Type 0 where
  pub fit : AllFit fields values
  pub bytes_are : bytes ≡ spelled_all fields values
