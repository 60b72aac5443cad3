-- Where growing stands, and the single steps of it: s is before, and u after. Chosen here.
use Rattle.std.specs.Prelude.{◌≡◌, ◌≤◌, ℕ, Bool, List, [], ◌∷◌, ◌++◌, length, Option, option_map}
use Rattle.rand_pcg.specs.Lcg.{Lcg}
use Rattle.ov_ids.specs.Members.{Has, Ascends}
use Rattle.ov_peer.specs.PeerState.{PeerState}
use Rattle.ov_net.specs.Net.{LivesAs}
use Rattle.ov_net.specs.Refusals.{MayHappen}
use Rattle.ov_net.specs.Theorems.{WorldStep}
use Rattle.ov_net.specs.World.{WorldState}
use Rattle.ov_net.specs.declared.journal_entry_and_changes.Entry.{Entry}
use Rattle.ov_scenario.specs.Scenarios.{IsScenario}
use Rattle.ov_scenario.specs.declared.scenario.Line.{Line}
use Rattle.ov_scenario.specs.declared.scenario.Line.TheVariants as line
use Rattle.ov_scenario.specs.declared.scenario.Scenario.{Scenario}
use Rattle.ov_script.specs.Acts.{act_line, event_of}
use Rattle.ov_grow.specs.BroadcastLog.{marks_after}
use Rattle.ov_script.specs.WrittenLines.{ended}
use Rattle.ov_grow.specs.declared.broadcast_log.BroadcastMark.{BroadcastMark}
use Rattle.ov_script.specs.declared.recordable_event.Act.{Act}
use Rattle.ov_grow.specs.Choices.{one_of, comes_true, after_chance, later}

-- the scenario that was written so far, the world that it makes, the choices that are left, and what the log of
-- broadcasts tells, if one is kept
pub record Growth : Type 0 where
  pub text : List ℕ
  pub world : WorldState
  pub choices : Lcg
  pub log : Option (List BroadcastMark)

-- the last line that the scenario of this text asks to run is this one
abbrev pub AsksLast : List ℕ → Line → Type 0
AsksLast text asked =
    (scenario : Scenario) × (earlier : List Line)
    × IsScenario text scenario × (scenario.lines.items ≡ earlier ++ asked ∷ [])

-- an act is done: its line is written, its event may happen, and the world takes it with the random words that the
-- scenario gives to this line. A log that is kept tells of it
pub record Does (s : Growth) (what : Act) (u : Growth) : Type 0 where
  pub words : List ℕ
  pub entry : Entry
  pub text : u.text ≡ s.text ++ ended (act_line what)
  pub asked : AsksLast u.text (line.Event (event_of what) words)
  pub judged : MayHappen s.world.net (length s.world.journal) (event_of what)
  pub step : WorldStep s.world (event_of what) words u.world entry
  pub choices : u.choices ≡ s.choices
  pub log : u.log ≡ option_map (marks_after (event_of what) s.world.net u.world.net) s.log

-- a line is written that asks for no event
abbrev pub Writes : Growth → List ℕ → Growth → Type 0
Writes s written u = u ≡ record s { text = s.text ++ ended written }

-- one of n is chosen, counted from 0
abbrev pub Chooses : ℕ → Growth → ℕ → Growth → Type 0
Chooses n s place u = (place ≡ one_of n s.choices) × (u ≡ record s { choices = later s.choices })

-- a chance of p in 100 comes true, or does not
abbrev pub Tries : ℕ → Growth → Bool → Growth → Type 0
Tries p s comes u = (comes ≡ comes_true p s.choices) × (u ≡ record s { choices = after_chance p s.choices })

-- a node lives
abbrev pub IsLive : Growth → ℕ → Type 0
IsLive s a = (p : PeerState) × LivesAs s.world.net a p

-- some node lives
abbrev pub SomebodyLives : Growth → Type 0
SomebodyLives s = (a : ℕ) × IsLive s a

-- these are the nodes that live, by ascending ids
pub record AreLive (s : Growth) (ids : List ℕ) : Type 0 where
  pub ascend : Ascends ids
  pub live : (a : ℕ) → Has ids a → IsLive s a
  pub each : (a : ℕ) → IsLive s a → Has ids a

-- of these ids this is the smallest that has a property
pub record IsFirstOf (P : ℕ → Type 0) (ids : List ℕ) (first : ℕ) : Type 0 where
  pub has : Has ids first
  pub holds : P first
  pub least : (a : ℕ) → Has ids a → P a → first ≤ a
