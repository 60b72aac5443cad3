-- The faults of growing, and their numbers. Out of memory is one fault, whoever ran out of it.
use Rattle.std.specs.Prelude.{◌≡◌, ◌⊎◌, ℕ}
use Rattle.ov_net.specs.Refusals as net
use Rattle.ov_net.specs.declared.fault.NetFault.{NetFault}
use Rattle.ov_net.specs.declared.fault.NetFault.TheVariants as net_fault
use Rattle.ov_snap.specs.Refusals as core
use Rattle.ov_snap.specs.declared.refused_core_call.CoreFault.{CoreFault}
use Rattle.ov_snap.specs.declared.refused_core_call.CoreFault.TheVariants as core_fault
use Rattle.ov_grow.specs.declared.fault.GrowFault.{GrowFault}
use Rattle.ov_grow.specs.declared.fault.GrowFault.TheVariants.{Event, Analysis, OutOfMemory}

-- the number of each fault; a fault of the world and one of the core keep their own
abbrev pub number_of : GrowFault → ℕ
number_of (Event fault) = net.number_of fault
number_of (Analysis fault) = core.number_of fault
number_of OutOfMemory = 99

-- the fault of growing if the world refuses an event for this fault
abbrev pub of_event : NetFault → GrowFault
of_event net_fault.OutOfMemory = OutOfMemory
of_event fault = Event fault

-- the fault of growing if the core refuses an analysis for this fault
abbrev pub of_analysis : CoreFault → GrowFault
of_analysis core_fault.OutOfMemory = OutOfMemory
of_analysis fault = Analysis fault

-- the journal is full, or too few places for packets are free, or memory ran out
abbrev pub IsFull : GrowFault → Type 0
IsFull fault =
    (fault ≡ Event net_fault.TooManyEntries) ⊎ ((fault ≡ Event net_fault.TooManyPackets) ⊎ (fault ≡ OutOfMemory))
