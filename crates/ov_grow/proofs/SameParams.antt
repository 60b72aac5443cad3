-- No event changes the parameters of a world.
use Rattle.std.proofs.Common.{◌≡◌, ℕ, List, Option, Some, None, ap}
use Rattle.std.specs.Prelude.{remove}
use Rattle.std.specs.FinMap as map
use Rattle.ov_ids.specs.ParamsState.{ParamsState}
use Rattle.ov_wire.specs.declared.message.Message.{Message}
use Rattle.ov_peer.specs.PeerState.{PeerState, newborn}
use Rattle.ov_peer.specs.declared.input_and_output.Delivery.{Delivery}
use Rattle.ov_peer.specs.declared.input_and_output.Input.{Input}
use Rattle.ov_peer.specs.declared.input_and_output.Input.TheVariants as input
use Rattle.ov_net.specs.Net.{Net}
use Rattle.ov_net.specs.NetStep.{Happens, LiveTakesInput, Received, TakesInput}
use Rattle.ov_net.specs.declared.event.Event.{Event}
use Rattle.ov_net.specs.declared.event.Event.TheVariants as event
use Rattle.ov_net.specs.declared.journal_entry_and_changes.Change.{Change}
use Rattle.ov_net.specs.declared.member.Member.{Member}
use Rattle.ov_net.specs.declared.member.Member.TheVariants.{Live, Gone}
use Rattle.ov_script.specs.Acts.{event_of}
use Rattle.ov_script.specs.declared.recordable_event.Act.{Act}
use Rattle.ov_grow.specs.Growth.{Growth, Does}

abbrev params_of : Net → ParamsState
params_of w = w.params

takes_params : (w : Net) (a : ℕ) (p : PeerState) (i : Input) (words : List ℕ) (u : Net) (changes : List Change)
    (delivery : Option Delivery) → TakesInput w a p i words u changes delivery → u.params ≡ w.params
takes_params w a p i words u changes delivery (q, sends, views, drawn, same, are) = ap params_of same

live_params : (w : Net) (a : ℕ) (i : Input) (words : List ℕ) (u : Net) (changes : List Change)
    (delivery : Option Delivery) → LiveTakesInput w a i words u changes delivery → u.params ≡ w.params
live_params w a i words u changes delivery (p, lives, takes) = takes_params w a p i words u changes delivery takes

received_params : (w : Net) (a : ℕ) (m : Message) (o : Option Member) (words : List ℕ) (u : Net) (changes : List Change)
    (delivery : Option Delivery) → Received w a m o words u changes delivery → u.params ≡ w.params
received_params w a m (Some (Live p)) words u changes delivery takes =
    takes_params w a p (input.Receive m) words u changes delivery takes
received_params w a m (Some Gone) words u changes delivery only = ap params_of only.0
received_params w a m None words u changes delivery only = ap params_of only.0

happens_params : (w : Net) (e : Event) (words : List ℕ) (u : Net) (changes : List Change) (delivery : Option Delivery)
    → Happens w e words u changes delivery → u.params ≡ w.params
happens_params w (event.Boot a contact) words u changes delivery h =
    takes_params w a (newborn a w.params) (input.Boot contact) words u h.1 delivery h.2
happens_params w (event.Deliver i) words u changes delivery h =
    received_params (record w { packets = remove w.packets i }) h.0.0 h.0.1 (map.get w.nodes h.0.0) words u changes
    delivery h.2
happens_params w (event.Lose i) words u changes delivery h = ap params_of h.2.0
happens_params w (event.Repeat i) words u changes delivery h = ap params_of h.2.0
happens_params w (event.Crash a) words u changes delivery h = ap params_of h.2
happens_params w (event.CrashReport a crashed) words u changes delivery h =
    live_params w a (input.CrashReport crashed) words u changes delivery h.1
happens_params w (event.Shuffle a) words u changes delivery h =
    live_params w a input.Shuffle words u changes delivery h
happens_params w (event.Broadcast a payload) words u changes delivery h =
    live_params w a (input.Broadcast payload) words u changes delivery h
happens_params w (event.Timer a id) words u changes delivery h =
    live_params w a (input.Timer id) words u changes delivery h
happens_params w event.Snapshot words u changes delivery h = ap params_of h.0

pub does_params : (s u : Growth) (what : Act) → Does s what u → u.world.net.params ≡ s.world.net.params
does_params s u what did =
    happens_params s.world.net (event_of what) did.words u.world.net did.entry.changes did.entry.delivery did.step.step.2
