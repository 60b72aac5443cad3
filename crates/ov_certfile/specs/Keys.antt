-- The keys of a JSON object, and the values at them.
use Rattle.std.specs.Prelude.{ℕ, ◌&&◌, Bool, List, [], ◌∷◌, is_some, if◌then◌else◌, Option, Some, None, option_map}
use Rattle.std.specs.Prelude.{unwrap_or}
use Rattle.std.specs.List.{list_all, list_any}
use Rattle.serde_json.specs.Data.{Data, Members, no_members, member}
use Rattle.serde_json.specs.Find.{get, as_object}
use Rattle.ov_ids.specs.Options.{◌>>=◌}
use Rattle.ov_certfile.specs.Common.{are_same}

-- the text is one of these texts
abbrev pub is_among : List (List ℕ) → List ℕ → Bool
is_among texts s = list_any (λ t. are_same s t) texts

-- the keys of these members, in order
abbrev pub member_keys : Members → List (List ℕ)
member_keys no_members = []
member_keys (member key d ms) = key ∷ member_keys ms

-- the keys of an object; another value has none
abbrev pub keys_in : Data → List (List ℕ)
keys_in d = unwrap_or (option_map member_keys (as_object d)) []

-- the value has this key
abbrev pub has_key : List ℕ → Data → Bool
has_key key d = is_some (get key d)

-- the value has all of these keys
abbrev pub has_all : List (List ℕ) → Data → Bool
has_all keys d = list_all (λ key. has_key key d) keys

-- the value has no key but these
abbrev pub has_no_other : List (List ℕ) → Data → Bool
has_no_other keys d = list_all (λ key. is_among keys key) (keys_in d)

-- the value has exactly these keys
abbrev pub has_just : List (List ℕ) → Data → Bool
has_just keys d = has_all keys d && has_no_other keys d

-- the value at a key, read in this form; None if the key is missing or its value does not have the form
abbrev pub said : {X : Type 0} → (Data → Option X) → List ℕ → Data → Option X
said form key d = get key d >>= form

-- the first of these items that fails a test
abbrev pub first_failing : {X : Type 0} → (X → Bool) → List X → Option X
first_failing passes [] = None
first_failing passes (x ∷ xs) = if passes x then first_failing passes xs else Some x
