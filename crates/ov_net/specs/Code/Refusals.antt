-- What the functions that judge an event return.
use Rattle.std.specs.Prelude.{◌≡◌, ◌⊎◌, ℕ, Option, Some, None, Result, Ok, Err}
use Rattle.std.specs.FinMap as map
use Rattle.ov_net.specs.Net.{Net, IsGone}
use Rattle.ov_net.specs.declared.fault.NetFault.{NetFault}
use Rattle.ov_net.specs.declared.fault.NetFault.TheVariants.{UnknownNode, CrashedNode}

-- the fault of a result, if it is one
abbrev pub fault_in : {X : Type 0} → Result X NetFault → Option NetFault
fault_in (Ok x) = None
fault_in (Err f) = Some f

-- the fault says why node a is not alive: it was never born, or it crashed
abbrev pub IsAbsent : Net → ℕ → NetFault → Type 0
IsAbsent w a fault = ((map.get w.nodes a ≡ None) × (fault ≡ UnknownNode)) ⊎ (IsGone w a × (fault ≡ CrashedNode))
