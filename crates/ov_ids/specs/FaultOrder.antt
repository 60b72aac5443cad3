-- The order of faults. A judgement is a chain of conditions, each with a fault. The fault of the first condition that
-- fails is returned, or none.
use Rattle.std.specs.Prelude.{◌≡◌, ◌⊎◌, Option, Some, None}

-- one condition of the chain: it holds and the rest decides, or it fails and its fault is returned
abbrev pub HoldsThen : {E : Type 0} → Type 0 → E → (Option E → Type 0) → Option E → Type 0
HoldsThen Passes fault After result = (Passes × After result) ⊎ ((¬ Passes) × (result ≡ Some fault))

-- the end of a chain: there is no fault
abbrev pub Passed : {E : Type 0} → Option E → Type 0
Passed result = result ≡ None

-- The judgement returns the fault; or it is out of memory, and the judgement has no fault. So out of memory is last in
-- the order.
abbrev pub IsRefusedBy : {E : Type 0} → E → (Option E → Type 0) → E → Type 0
IsRefusedBy memory Judged fault = Judged (Some fault) ⊎ ((fault ≡ memory) × Judged None)
