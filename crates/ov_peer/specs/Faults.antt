-- Why a node takes no step.
use Rattle.std.specs.Prelude.{◌≡◌, ℕ, nat_lt, length, Option, Some, None, if◌then◌else◌}
use Rattle.std.specs.FinSet as set
use Rattle.ov_wire.specs.Messages.{AreInRange, most_payload}
use Rattle.ov_plum.specs.PlumState.{most_broadcasts}
use Rattle.ov_plum.specs.declared.timer_fault.TimerFault.{TimerFault}
use Rattle.ov_plum.specs.declared.timer_fault.TimerFault.TheVariants as timer
use Rattle.ov_peer.specs.PeerState.{PeerState}
use Rattle.ov_peer.specs.declared.fault.PeerFault.{PeerFault}
use Rattle.ov_peer.specs.declared.fault.PeerFault.TheVariants.{NoTimer, PayloadTooLong, TooManyMessages, OutOfMemory}
use Rattle.ov_peer.specs.declared.input_and_output.Input.{Input}
use Rattle.ov_peer.specs.declared.input_and_output.Input.TheVariants.{Boot, Receive, CrashReport, Broadcast, Timer}
use Rattle.ov_peer.specs.declared.input_and_output.Input.TheVariants as input

-- The fault of an input, if it has one. Of a broadcast: the payload has more than 1,024 bytes; otherwise the node has
-- made 4,096 broadcasts. Of a timer: it does not run. Out of memory is no fault of an input.
abbrev pub fault_of : PeerState → Input → Option PeerFault
fault_of p (Boot contact) = None
fault_of p (Receive message) = None
fault_of p (CrashReport crashed) = None
fault_of p input.Shuffle = None
fault_of p (Broadcast payload) =
    if nat_lt most_payload (length payload) then Some PayloadTooLong
    else (if nat_lt p.tree.made most_broadcasts then None else Some TooManyMessages)
fault_of p (Timer id) = if set.contains p.tree.running id then None else Some NoTimer

-- This is the fault of the input, or None if it has none.
abbrev pub IsFaultOf : PeerState → Input → Option PeerFault → Type 0
IsFaultOf p i answer = answer ≡ fault_of p i

-- The number of each fault, as the engine prints it (chosen here).
abbrev pub number_of : PeerFault → ℕ
number_of NoTimer = 18
number_of PayloadTooLong = 19
number_of TooManyMessages = 20
number_of OutOfMemory = 99

-- If the input is a message, its fields are within their ranges.
abbrev pub IsInputInRange : Input → Type 0
IsInputInRange (Boot contact) = Unit {0}
IsInputInRange (Receive message) = AreInRange message
IsInputInRange (CrashReport crashed) = Unit {0}
IsInputInRange input.Shuffle = Unit {0}
IsInputInRange (Broadcast payload) = Unit {0}
IsInputInRange (Timer id) = Unit {0}

-- The fault of a timer of the tree, as a fault of the node.
abbrev pub of_timer : TimerFault → PeerFault
of_timer timer.NoTimer = NoTimer
of_timer timer.OutOfMemory = OutOfMemory
