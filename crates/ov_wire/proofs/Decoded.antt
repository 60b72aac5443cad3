-- What a decoder returns that reads all fields.
use Rattle.std.proofs.Common.{◌≡◌, ℕ, ◌⊎◌, inl, inr, List, Result, Ok, Err, refl, sym, ap, ◌∙◌}
use Rattle.std.specs.Prelude.{◌≢◌, IfOk, IfErr, IsErrOf, IsOk, slice_index}
use Rattle.ov_wire.specs.declared.fault.WireFault.{WireFault}
use Rattle.ov_wire.specs.declared.fault.WireFault.TheVariants.{Short, BadVersion, BadKind, BadField, Trailing}
use Rattle.ov_wire.specs.declared.fault.WireFault.TheVariants.{OutOfMemory}
use Rattle.ov_wire.specs.declared.message.Message.{Message}
use Rattle.ov_wire.specs.Fields.{Value}
use Rattle.ov_wire.specs.Messages.{fields_of, kind_of, Spelling, AreInRange}
use Rattle.ov_wire.specs.Faults.{FirstFault}
use Rattle.ov_wire.specs.Code.Reading.{values_at, MapsResult}
use Rattle.ov_wire.proofs.Steps.{apart}
use Rattle.ov_wire.proofs.Numbers.{IsBytes}
use Rattle.ov_wire.proofs.Messages.{values_of, read_again, is_spelled, in_range, read_once, is_first}
use Rattle.ov_wire.proofs.Made.{some_message}

-- the values of all fields of these bytes, or their first fault
abbrev pub read : List ℕ → Result (List Value) WireFault
read bytes = values_at (fields_of (slice_index bytes 1)) bytes

abbrev pub HasKind : List ℕ → Result Message WireFault → Type 0
HasKind bytes r = IfOk r (λ m. kind_of m.body ≡ slice_index bytes 1)

pub answers_spelled : (bytes : List ℕ) (r : Result Message WireFault)
    → IsBytes bytes → MapsResult values_of r (read bytes) → HasKind bytes r
    → IfOk r (λ m. Spelling m bytes × AreInRange m)
answers_spelled bytes (Ok m) fits given kind = let s = is_spelled m bytes fits kind given in (s, in_range m bytes s)
answers_spelled bytes (Err f) fits given kind = tt

not_spelled : (bytes : List ℕ) (f : WireFault) (m : Message) → read bytes ≡ Err f → Spelling m bytes → ⊥
not_spelled bytes f m e s = apart (sym (read_again m bytes s) ∙ e)

pub answers_only : (bytes : List ℕ) (r : Result Message WireFault)
    → IsBytes bytes → MapsResult values_of r (read bytes) → HasKind bytes r
    → (m : Message) → Spelling m bytes → (r ≡ Ok m) ⊎ (r ≡ Err OutOfMemory)
answers_only bytes (Ok n) fits given kind m s =
    inl (ap (λ (x : Message). Ok x) (read_once n m bytes (is_spelled n bytes fits kind given) s))
answers_only bytes (Err OutOfMemory) fits given kind m s = inr refl
answers_only bytes (Err Short) fits given kind m s = absurd (not_spelled bytes Short m given s)
answers_only bytes (Err BadVersion) fits given kind m s = absurd (not_spelled bytes BadVersion m given s)
answers_only bytes (Err BadKind) fits given kind m s = absurd (not_spelled bytes BadKind m given s)
answers_only bytes (Err BadField) fits given kind m s = absurd (not_spelled bytes BadField m given s)
answers_only bytes (Err Trailing) fits given kind m s = absurd (not_spelled bytes Trailing m given s)

abbrev IsAnswered : List ℕ → WireFault → Type 0
IsAnswered bytes f = FirstFault bytes f × ((m : Message) → ¬ Spelling m bytes)

at_first : (bytes : List ℕ) (f : WireFault) → IsBytes bytes → read bytes ≡ Err f → IsAnswered bytes f
at_first bytes f fits e = (is_first bytes f fits e, λ m s. not_spelled bytes f m e s)

pub answers_first :
    (bytes : List ℕ) (r : Result Message WireFault) → IsBytes bytes → MapsResult values_of r (read bytes)
    → IfErr r (λ f. f ≢ OutOfMemory → FirstFault bytes f × ((m : Message) → ¬ Spelling m bytes))
answers_first bytes (Ok n) fits given = tt
answers_first bytes (Err OutOfMemory) fits given = λ n. absurd (n refl)
answers_first bytes (Err Short) fits given = λ _. at_first bytes Short fits given
answers_first bytes (Err BadVersion) fits given = λ _. at_first bytes BadVersion fits given
answers_first bytes (Err BadKind) fits given = λ _. at_first bytes BadKind fits given
answers_first bytes (Err BadField) fits given = λ _. at_first bytes BadField fits given
answers_first bytes (Err Trailing) fits given = λ _. at_first bytes Trailing fits given

by_read : (bytes : List ℕ) (r : Result (List Value) WireFault)
    → IsBytes bytes → read bytes ≡ r → IsOk r → (m : Message) × Spelling m bytes
by_read bytes (Ok vs) fits e ok = some_message bytes vs fits e
by_read bytes (Err f) fits e ok = absurd cc

pub memory_spelled : (bytes : List ℕ) (r : Result Message WireFault)
    → IsBytes bytes → MapsResult values_of r (read bytes) → IsErrOf r OutOfMemory → (m : Message) × Spelling m bytes
memory_spelled bytes (Err OutOfMemory) fits given h = by_read bytes (read bytes) fits refl given
memory_spelled bytes (Ok n) fits given h = absurd cc
memory_spelled bytes (Err Short) fits given h = absurd cc
memory_spelled bytes (Err BadVersion) fits given h = absurd cc
memory_spelled bytes (Err BadKind) fits given h = absurd cc
memory_spelled bytes (Err BadField) fits given h = absurd cc
memory_spelled bytes (Err Trailing) fits given h = absurd cc
