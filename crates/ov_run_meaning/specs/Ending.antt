-- What a run has printed if it ended early. Each line is then printed whole or not at all, but `packets`, whose
-- packets are printed one by one. Chosen here.
use Rattle.std.specs.Prelude.{◌≡◌, ◌⊎◌, ◌<◌, ℕ, List, [], ◌∷◌, ◌++◌, length, Option, IfSome, take}
use Rattle.std.specs.Io.KnownBytes.{append_known, Appends}
use Rattle.ov_io.specs.Device.{AppendsPrefixOf, HoldsPrefixOf}
use Rattle.ov_net.specs.Net.{LivesAs}
use Rattle.ov_net.specs.declared.journal_entry_and_changes.Entry.{Entry}
use Rattle.ov_peer.specs.PeerState.{PeerState}
use Rattle.ov_wire.specs.declared.message.Message.{Message}
use Rattle.ov_snap.specs.CoreState.{CoreState, opening_core}
use Rattle.ov_snap.specs.Run.{Happened}
use Rattle.ov_run_meaning.specs.Running.{PrintsPackets}
use Rattle.ov_run_meaning.specs.Strict.{GoesOn}
use Rattle.ov_run_meaning.specs.declared.strictness.Strictness.{Strictness}
use Rattle.ov_scenario.specs.RunLines.{LineNeedsMemory}
use Rattle.ov_scenario.specs.Scenarios.{IsScenario}
use Rattle.ov_scenario.specs.declared.scenario.Line.{Line}
use Rattle.ov_scenario.specs.declared.scenario.Line.TheVariants as line
use Rattle.ov_scenario.specs.declared.scenario.Look.{Look}
use Rattle.ov_scenario.specs.declared.scenario.Look.TheVariants.{Show, Packets, Certificate}
use Rattle.ov_scenario.specs.declared.scenario.Scenario.{Scenario}

-- ---- however it ended

-- the lines of the first of these packets
abbrev pub BeginsPackets : List (ℕ × Message) → List ℕ → Type 0
BeginsPackets packets text = (count : ℕ) × PrintsPackets 0 (take count packets) text

-- what is printed of a look that is not printed whole: of `packets` the lines of the first packets, otherwise nothing
abbrev pub BeginsLook : CoreState → Look → List ℕ → Type 0
BeginsLook b (Show id) text = text ≡ []
BeginsLook b Packets text = BeginsPackets b.world.net.packets text
BeginsLook b (Certificate subject) text = text ≡ []

-- what is printed of a line that is not printed whole: of an event, of an analysis and of a block of sections nothing
abbrev pub BeginsLine : CoreState → Line → List ℕ → Type 0
BeginsLine b (line.Event event words) text = text ≡ []
BeginsLine b (line.Look look) text = BeginsLook b look text
BeginsLine b (line.Analyse subject workers) text = text ≡ []
BeginsLine b (line.Together sections) text = text ≡ []

-- the lines in order, up to some point: the first is not printed whole, or it is, the run goes on and the others begin
abbrev pub BeginsLines : Strictness → CoreState → List Line → List ℕ → Type 0
BeginsLines strictness b [] text = text ≡ []
BeginsLines strictness b (line ∷ lines) text =
    BeginsLine b line text
    ⊎ ((next : CoreState) × (own : List ℕ) × (others : List ℕ) × GoesOn strictness b line next own
    × BeginsLines strictness next lines others
    × (text ≡ own ++ others))

-- as `IsOutput`, but the lines are printed up to some point, and of a strict run all lines before it are accepted
pub record IsBegun (strictness : Strictness) (bytes text : List ℕ) : Type 0 where
  pub scenario : Scenario
  pub says : IsScenario bytes scenario
  pub lines : BeginsLines strictness (opening_core scenario.params) scenario.lines.items text

-- all that the reader had was read, and what the writer took is a prefix of what the scenario prints up to some point
abbrev pub Begins : Strictness → Option (List ℕ) → Option (List ℕ) → Option (List ℕ) → Type 0
Begins strictness reader before after =
    (bytes : List ℕ) × (text : List ℕ) × IfSome reader (λ xs. bytes ≡ xs) × IsBegun strictness bytes text
    × AppendsPrefixOf text before after

-- all that the reader had was read, and what the writer holds is a prefix of what it held before with, behind it, what
-- the scenario prints up to some point
abbrev pub HoldsBegun : Strictness → Option (List ℕ) → Option (List ℕ) → Option (List ℕ) → Type 0
HoldsBegun strictness reader before after =
    (bytes : List ℕ) × (text : List ℕ) × IfSome reader (λ xs. bytes ≡ xs) × IsBegun strictness bytes text
    × HoldsPrefixOf (append_known before text) after

-- ---- if it ended out of memory

-- the lines of the first of these packets, but not of all
abbrev pub EndsPackets : List (ℕ × Message) → List ℕ → Type 0
EndsPackets packets text =
    (count : ℕ) × (count < length packets) × PrintsPackets 0 (take count packets) text

-- a look that ends a run out of memory, and what it printed: a node that lives, of which nothing was printed, or
-- packets, of which the first were and one more was to come. A certificate ends no run: it prints `refused 99`
abbrev pub EndsLook : CoreState → Look → List ℕ → Type 0
EndsLook b (Show id) text = ((peer : PeerState) × LivesAs b.world.net id peer) × (text ≡ [])
EndsLook b Packets text = EndsPackets b.world.net.packets text
EndsLook b (Certificate subject) text = ⊥

-- a line that runs and ends a run out of memory, and what it printed: an event that happened, of which nothing was
-- printed, a look, or a block of sections, of which nothing was printed. An event that does not happen ends no run, and
-- no analysis does: out of memory they print `refused 99`
abbrev pub EndsLine : CoreState → Line → List ℕ → Type 0
EndsLine b (line.Event event words) text = ((e : Entry) × (u : CoreState) × Happened b event words e u) × (text ≡ [])
EndsLine b (line.Look look) text = EndsLook b look text
EndsLine b (line.Analyse subject workers) text = ⊥
EndsLine b (line.Together sections) text = text ≡ []

-- the lines in order, up to the one at which the run ends out of memory: memory is needed to read it, and nothing was
-- printed of it, or it runs and ends the run. The run goes on after each line before it. After the last line no run
-- ends out of memory
abbrev pub EndsLines : Strictness → CoreState → List Line → List ℕ → Type 0
EndsLines strictness b [] text = ⊥
EndsLines strictness b (line ∷ lines) text =
    (LineNeedsMemory line × (text ≡ []))
    ⊎ EndsLine b line text
    ⊎ ((next : CoreState) × (own : List ℕ) × (others : List ℕ) × GoesOn strictness b line next own
    × EndsLines strictness next lines others
    × (text ≡ own ++ others))

-- as `IsOutput`, but the lines end out of memory, and of a strict run all lines before that are accepted
pub record IsEnded (strictness : Strictness) (bytes text : List ℕ) : Type 0 where
  pub scenario : Scenario
  pub says : IsScenario bytes scenario
  pub lines : EndsLines strictness (opening_core scenario.params) scenario.lines.items text

-- all that the reader had was read, and the writer took all that the scenario prints before it ends out of memory
abbrev pub Ends : Strictness → Option (List ℕ) → Option (List ℕ) → Option (List ℕ) → Type 0
Ends strictness reader before after =
    (bytes : List ℕ) × (text : List ℕ) × IfSome reader (λ xs. bytes ≡ xs) × IsEnded strictness bytes text
    × Appends before after text
