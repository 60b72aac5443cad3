-- The phases of growing. s is before, and u after. Chosen here.
use Rattle.std.specs.Prelude.{◌≡◌, ℕ, zero, suc, ◌+◌, ◌-◌, ◌*◌, ◌/◌, ◌≤◌, List, [], length, take, drop}
use Rattle.std.specs.Prelude.{Option, Some, None, codes, count_by, is_some, Bool, true, false, MatchBool}
use Rattle.ov_ids.specs.Members.{Has}
use Rattle.ov_ids.specs.declared.id.MsgId.{MsgId}
use Rattle.ov_graph.specs.Links.{LinkGraph}
use Rattle.ov_peer.specs.PeerState.{PeerState}
use Rattle.ov_cert.specs.declared.cert.Cert.{Cert}
use Rattle.ov_cert.specs.declared.cert.Cert.TheVariants.{Linked, Split}
use Rattle.ov_even.specs.Answer.{IsAnswer}
use Rattle.ov_net.specs.Journal.{AreLinks}
use Rattle.ov_net.specs.Net.{LivesAs, IsGone}
use Rattle.ov_net.specs.declared.journal_entry_and_changes.Entry.{Entry}
use Rattle.ov_grow_options.specs.declared.options.Crash.{Crash}
use Rattle.ov_grow_options.specs.declared.options.Crash.TheVariants.{Share, Cut}
use Rattle.ov_grow_options.specs.declared.options.GrowOptions.{GrowOptions}
use Rattle.ov_script.specs.WrittenLines.{analysis_line, comment_line}
use Rattle.ov_script.specs.declared.recordable_event.Act.TheVariants as act
use Rattle.ov_grow.specs.Growth.{Growth, Does, Writes, Chooses, SomebodyLives}
use Rattle.ov_grow.specs.Turns.{TurnsUpTo, RunOut}
use Rattle.ov_grow.specs.Rounds.{AreLiveInOrder, DoesEach, Rounds}
use Rattle.ov_grow.specs.Broadcasts.{Broadcasts}
use Rattle.ov_grow.specs.declared.phase_moment_and_deliveries.PhaseEnd.{PhaseEnd}
use Rattle.ov_grow.specs.declared.phase_rules.PhaseRules.{PhaseRules}

-- how many of these entries tell that a node delivered a message
abbrev pub deliveries_in : List Entry → ℕ
deliveries_in entries = count_by (λ e. is_some e.delivery) entries

-- a snapshot is taken, some node lives, and the snapshot is analysed. Its moment is the number of its entry
abbrev pub IsAnalysedAt : ℕ → Growth → Growth → Type 0
IsAnalysedAt moment s u =
    (t : Growth)
    × Does s act.Snapshot t
    × SomebodyLives t
    × (moment ≡ length t.world.journal)
    × Writes t (analysis_line moment) u

-- a phase ends: a snapshot is taken and analysed, and there are so many broadcasts. The deliveries of the phase are
-- those after the snapshot
abbrev pub EndsPhase : PhaseRules → ℕ → Growth → PhaseEnd → Growth → Type 0
EndsPhase rules broadcasts s phase u =
    (t : Growth)
    × IsAnalysedAt phase.moment s t
    × ((ids : List MsgId) × Broadcasts rules broadcasts t ids u)
    × (phase.deliveries ≡ deliveries_in (drop phase.moment u.world.journal))

-- the rules of a phase with this chance of loss, in which senders are told if a connection fails, or are not
abbrev pub rules_of : GrowOptions → ℕ → Bool → PhaseRules
rules_of o loss tells_crashes = record {
  loss = loss;
  repeat = o.repeat;
  order = o.order;
  tells_crashes = tells_crashes;
  sequential = o.sequential;
  sender = o.sender;
}

-- the rules while nodes join
abbrev pub joining : GrowOptions → PhaseRules
joining o = rules_of o o.loss_join false

-- the rules while the overlay settles
abbrev pub settling : GrowOptions → PhaseRules
settling o = rules_of o o.loss false

-- the rules from the crashes on: senders are told if nodes learn of crashes by sending
abbrev pub crashing : GrowOptions → PhaseRules
crashing o = rules_of o o.loss o.detect

-- the rules while the overlay heals: senders are told
abbrev pub healing : GrowOptions → PhaseRules
healing o = rules_of o o.loss true

-- how many turns there are between two births, at most
abbrev pub turns_between : Option ℕ → ℕ
turns_between None = 1000
turns_between (Some pace) = pace

-- so many nodes are born, the first of them with this id. There are turns before each birth, and its contact is one of
-- the nodes before it
abbrev pub Births : PhaseRules → ℕ → ℕ → ℕ → Growth → Growth → Type 0
Births rules pace id zero s u = u ≡ s
Births rules pace id (suc n) s u =
    (place : ℕ) × (t : Growth) × (v : Growth) × (w : Growth)
    × TurnsUpTo rules pace s t
    × Chooses (id - 1) t place v
    × Does v (act.Boot id (Some (1 + place))) w
    × Births rules pace (id + 1) n w u

-- nodes join
abbrev pub Join : GrowOptions → Growth → Growth → Type 0
Join o s u =
    (t : Growth) × (v : Growth) × (w : Growth)
    × Writes s (comment_line (codes "join")) t
    × Does t (act.Boot 1 None) v
    × Births (joining o) (turns_between o.pace) 2 (o.nodes - 1) v w
    × RunOut (joining o) w u

-- the overlay settles
abbrev pub Settle : GrowOptions → Growth → PhaseEnd → Growth → Type 0
Settle o s phase u =
    (t : Growth) × (v : Growth)
    × Writes s (comment_line (codes "settle")) t
    × Rounds (settling o) o.rounds t v
    × EndsPhase (settling o) o.broadcasts v phase u

-- the nodes of the cut that a certificate names
abbrev pub cut_of : Cert → List ℕ
cut_of (Linked k) = []
cut_of (Split split) = split.cut

-- the report of this moment names these nodes as the cut, or no cut and these are none
abbrev pub IsCutAt : List Entry → ℕ → List ℕ → Type 0
IsCutAt journal m cut =
    (g : LinkGraph) × (c : Cert) × AreLinks journal m g × IsAnswer g g.nodes c × (cut ≡ cut_of c)

-- of n live nodes in a random order the first n times P over 100, rounded down
abbrev pub AreShareOfLive : ℕ → Growth → List ℕ → Growth → Type 0
AreShareOfLive share s nodes u =
    (order : List ℕ) × AreLiveInOrder s order u × (nodes ≡ take (length order * share / 100) order)

-- these nodes are to crash, in this order: a share of the live ones, or those of the cut at the moment `settled`
abbrev pub AreToCrash : Crash → ℕ → Growth → List ℕ → Growth → Type 0
AreToCrash (Share share) settled s nodes u = AreShareOfLive share s nodes u
AreToCrash Cut settled s nodes u = IsCutAt s.world.journal settled nodes × (u ≡ s)

-- nodes crash
abbrev pub CrashNodes : GrowOptions → ℕ → Growth → PhaseEnd → Growth → Type 0
CrashNodes o settled s phase u =
    (nodes : List ℕ) × (t : Growth) × (v : Growth) × (w : Growth)
    × Writes s (comment_line (codes "crash")) t
    × AreToCrash o.crash settled t nodes v
    × DoesEach act.Crash nodes v w
    × EndsPhase (crashing o) o.broadcasts w phase u

-- the node a crashed, and is in the active view of this live node
abbrev pub IsCrashedNeighbour : Growth → ℕ → ℕ → Type 0
IsCrashedNeighbour s node a =
    (p : PeerState) × LivesAs s.world.net node p × Has p.hyparview.views.active a × IsGone s.world.net a

-- the first live node, by ascending ids, that has a crashed node in its active view, and the first such
pub record AreFirst (s : Growth) (node crashed : ℕ) : Type 0 where
  pub has : IsCrashedNeighbour s node crashed
  pub first_node : (a b : ℕ) → IsCrashedNeighbour s a b → node ≤ a
  pub first_crashed : (b : ℕ) → IsCrashedNeighbour s node b → crashed ≤ b

-- no live node has a crashed node in its active view
abbrev pub HasNone : Growth → Type 0
HasNone s = (a b : ℕ) → ¬ IsCrashedNeighbour s a b

-- so many crash reports, one after the other, and then no live node has a crashed node in its active view: the first
-- live node that has one gets the report of the first such, and then packets run out
abbrev pub ReportTimes : PhaseRules → ℕ → Growth → Growth → Type 0
ReportTimes rules zero s u = HasNone s × (u ≡ s)
ReportTimes rules (suc n) s u =
    (node : ℕ) × (crashed : ℕ) × (t : Growth) × (v : Growth)
    × AreFirst s node crashed
    × Does s (act.CrashReport node crashed) t
    × RunOut rules t v
    × ReportTimes rules n v u

-- crash reports, again and again, until no live node has a crashed node in its active view
abbrev pub ReportCrashes : PhaseRules → Growth → Growth → Type 0
ReportCrashes rules s u = (n : ℕ) × ReportTimes rules n s u

-- nodes are told of crashes before the overlay heals, unless they learn of them only by sending
abbrev pub AreTold : Bool → PhaseRules → Growth → Growth → Type 0
AreTold detect rules s u = MatchBool detect (u ≡ s) (ReportCrashes rules s u)

-- the overlay heals
abbrev pub Heal : GrowOptions → Growth → PhaseEnd → Growth → Type 0
Heal o s phase u =
    (t : Growth) × (v : Growth) × (w : Growth)
    × Writes s (comment_line (codes "heal")) t
    × AreTold o.detect (healing o) t v
    × Rounds (healing o) o.heal v w
    × EndsPhase (healing o) o.broadcasts w phase u
