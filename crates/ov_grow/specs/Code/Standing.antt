-- Where growing stands, of the parts that the code keeps.
use Rattle.std.specs.Prelude.{◌≡◌, ◌≢◌, ◌⊎◌, ◌+◌, ℕ, ◌≤◌, ⊤, List, length, Option, Some, None, slice_get}
use Rattle.ov_wire.specs.declared.message.Message.{Message}
use Rattle.std.specs.Ordering.{nat_cmp}
use Rattle.std.specs.FinMap as map
use Rattle.ov_ids.specs.Members.{Has, IsDistinct}
use Rattle.ov_peer.specs.PeerState.{PeerState}
use Rattle.ov_even.specs.Answer.{IsAnswer}
use Rattle.ov_plum.specs.PlumState.{most_broadcasts}
use Rattle.ov_net.specs.Journal as journal
use Rattle.ov_net.specs.Limits.{most_world_nodes}
use Rattle.ov_net.specs.Net.{Net, IsGone, LivesAs}
use Rattle.ov_net.specs.Refusals.{IsRefusal}
use Rattle.ov_net.specs.declared.fault.NetFault.{NetFault}
use Rattle.ov_net.specs.declared.journal_entry_and_changes.Change.{Change}
use Rattle.ov_net.specs.declared.journal_entry_and_changes.Change.TheVariants.{Up}
use Rattle.ov_net.specs.declared.member.Member.{Member}
use Rattle.ov_net.specs.declared.member.Member.TheVariants.{Live}
use Rattle.ov_snap.specs.CoreState.{CoreState, HasReportOfAll, KeepsReports}
use Rattle.ov_snap.specs.ReportState.{ReportState}
use Rattle.ov_snap.specs.Snapshots.{IsMoment}
use Rattle.ov_run_meaning.specs.Subjects.{IsReported}
use Rattle.ov_grow.specs.Recordings.{all_of}
use Rattle.ov_script.specs.Acts.{event_of}
use Rattle.ov_grow.specs.Code.Logging.{log_of}
use Rattle.ov_script.specs.declared.recordable_event.Act.{Act}
use Rattle.ov_script.specs.declared.recordable_event.Act.TheVariants as act
use Rattle.ov_grow.specs.Faults.{of_event}
use Rattle.ov_grow.specs.Growth.{Growth, Does, IsLive}
use Rattle.ov_grow.specs.Phases.{IsCrashedNeighbour}
use Rattle.ov_grow.specs.Turns.{HasFailed}
use Rattle.ov_grow.specs.declared.fault.GrowFault.{GrowFault}
use Rattle.ov_grow.specs.declared.fault.GrowFault.TheVariants.{OutOfMemory}
use Rattle.ov_grow.specs.declared.growth_in_progress.Growing.{Growing}

-- where growing stands
abbrev pub growth_of : Growing → Growth
growth_of g =
    record {
      text = g.recording.script.text;
      world = g.recording.core.world;
      choices = g.choices;
      log = log_of g.log;
    }

-- growing goes on in this way, and keeps the reports that are filed
pub record Goes (Way : Growth → Growth → Type 0) (b u : Growing) : Type 0 where
  pub way : Way (growth_of b) (growth_of u)
  pub kept : KeepsReports b.recording.core u.recording.core

-- growing can't go on in this way: memory ran out, or this way leads nowhere from here
abbrev pub IsNoWay : (Growth → Growth → Type 0) → Growing → GrowFault → Type 0
IsNoWay Way b fault = (fault ≡ OutOfMemory) ⊎ ((u : Growth) → ¬ Way (growth_of b) u)

-- the last entry is of a snapshot, and no report of all nodes of that moment is filed
abbrev pub IsFresh : CoreState → Type 0
IsFresh b = IsMoment b.world.journal (length b.world.journal) × ¬ IsReported b (all_of (length b.world.journal))

-- the world refuses an act, and growing ends in this fault
abbrev pub IsRefusedAct : Act → Growing → GrowFault → Type 0
IsRefusedAct what b fault =
    (refusal : NetFault) × (fault ≡ of_event refusal)
    × IsRefusal b.recording.core.world.net (length b.recording.core.world.journal) (event_of what) refusal

-- a sender and a receiver of which the sender is told that the receiver crashed, or none
abbrev pub IsTold : Option (ℕ × ℕ) → Growth → Growth → Type 0
IsTold (Some (sender, receiver)) s u = Does s (act.CrashReport sender receiver) u
IsTold None s u = u ≡ s

-- the sender lives, and the receiver crashed
abbrev pub MayBeTold : Option (ℕ × ℕ) → Growth → Type 0
MayBeTold (Some (sender, receiver)) s = IsLive s sender × IsGone s.world.net receiver
MayBeTold None s = ⊤

-- the sender and the receiver of the packet at this place, if its connection fails
abbrev pub Fails : Growth → ℕ → Option (ℕ × ℕ) → Type 0
Fails s place (Some (sender, receiver)) =
    (packet : ℕ × Message) × (slice_get s.world.net.packets place ≡ Some packet)
    × HasFailed s packet × (sender ≡ packet.1.from) × (receiver ≡ packet.0)
Fails s place None =
    (packet : ℕ × Message) × (slice_get s.world.net.packets place ≡ Some packet) × (¬ HasFailed s packet)

-- all these nodes live
abbrev pub AllLive : List ℕ → Growth → Type 0
AllLive nodes s = (a : ℕ) → Has nodes a → IsLive s a

-- so many nodes were born, with the ids 1, 2, 3 and so on, and all of them live
pub record BornIn (n : ℕ) (nodes : map.FinMap nat_cmp Member) : Type 0 where
  pub live : (a : ℕ) → 1 ≤ a → a ≤ n → (p : PeerState) × (map.get nodes a ≡ Some (Live p))
  pub born : (a : ℕ) → map.get nodes a ≢ None → a ≤ n
  pub count : map.len nodes ≡ n

-- the same of where growing stands
abbrev pub AreBorn : ℕ → Growth → Type 0
AreBorn n s = BornIn n s.world.net.nodes

-- so many nodes may be born in all
abbrev pub MayBear : ℕ → Growth → Type 0
MayBear n s = n ≤ most_world_nodes s.world.net.params

-- no node has made more broadcasts than so many
abbrev pub HaveMade : ℕ → Growth → Type 0
HaveMade k s = (a : ℕ) (p : PeerState) → LivesAs s.world.net a p → p.tree.made ≤ k

-- each node may make so many broadcasts more
abbrev pub MayMake : ℕ → Growth → Type 0
MayMake n s = (k : ℕ) × HaveMade k s × (k + n ≤ most_broadcasts)

-- who lived at this moment lives
abbrev pub StillLive : ℕ → Growth → Type 0
StillLive m s = (a : ℕ) → journal.Live s.world.journal m a → IsLive s a

-- these nodes live, none of them stands twice, and some other node lives
pub record MayCrash (nodes : List ℕ) (s : Growth) : Type 0 where
  pub live : AllLive nodes s
  pub once : IsDistinct nodes
  pub spared : ℕ
  pub spared_lives : IsLive s spared
  pub not_among : ¬ Has nodes spared

-- a report of all nodes of this moment is filed, and it has the answer of an analysis
abbrev pub IsAnswered : CoreState → ℕ → Type 0
IsAnswered b m = (r : ReportState) × HasReportOfAll b m r × IsAnswer r.graph r.members r.cert

-- a live node has a crashed node in its active view
abbrev pub HasCrashed : Growth → ℕ → Type 0
HasCrashed s a = (b : ℕ) × IsCrashedNeighbour s a b

-- a change is not that a node took a crashed one into its active view
abbrev pub TakesNoCrashed : Net → Change → Type 0
TakesNoCrashed w (Up a b) = ¬ IsGone w b
TakesNoCrashed w other = ⊤

-- none of these changes is
abbrev pub TakeNoCrashed : Net → List Change → Type 0
TakeNoCrashed w changes = (c : Change) → Has changes c → TakesNoCrashed w c

-- none of these ids has a property
abbrev pub HaveNone : (ℕ → Type 0) → List ℕ → Type 0
HaveNone P ids = (a : ℕ) → Has ids a → ¬ P a
