-- How an overlay is grown, that its options alone decide what is written, and that a log changes nothing else. Chosen
-- here.
use Rattle.std.specs.Prelude.{◌≡◌, ◌⊎◌, ℕ, nat_lt, Bool, if◌then◌else◌, List, [], Some, None}
use Rattle.ov_ids.specs.ParamsState.{ParamsState}
use Rattle.ov_ids.specs.Scales.{most_born_at}
use Rattle.ov_ids.specs.declared.world_scale.Scale.{Scale}
use Rattle.ov_ids.specs.declared.world_scale.Scale.TheVariants.{Profile, Large}
use Rattle.ov_net.specs.World.{WorldState, opening_world}
use Rattle.ov_script.specs.Scripts.{opening}
use Rattle.ov_grow_options.specs.CommandLine.{command_line}
use Rattle.ov_grow_options.specs.declared.options.GrowOptions.{GrowOptions}
use Rattle.ov_grow.specs.Choices.{choices_of}
use Rattle.ov_grow.specs.Faults.{IsFull}
use Rattle.ov_grow.specs.Growth.{Growth}
use Rattle.ov_grow.specs.Phases.{Join, Settle, CrashNodes, Heal}
use Rattle.ov_grow.specs.declared.fault.GrowFault.{GrowFault}
use Rattle.ov_grow.specs.declared.fault.GrowFault.TheVariants.{OutOfMemory}
use Rattle.ov_grow.specs.declared.phase_moment_and_deliveries.PhaseEnd.{PhaseEnd}

-- the scale of a world in which so many nodes are born: the profile's, if as many may be born there
abbrev pub scale_for : ℕ → Scale
scale_for nodes = if nat_lt (most_born_at Profile) nodes then Large else Profile

-- the parameters of the nodes of an overlay, and the scale that as many nodes need
abbrev pub params_for : GrowOptions → ParamsState
params_for o = record o.params { scale = scale_for o.nodes }

-- where growing begins: with the command as a comment, the parameters and the seed, and a world in which nothing
-- happened. No log of broadcasts is kept
abbrev pub beginning : GrowOptions → Growth
beginning o = record {
  text = opening (command_line o) (params_for o) o.seed;
  world = opening_world (params_for o);
  choices = choices_of o.seed;
  log = None;
}

-- the same, and a log of broadcasts is kept, which tells nothing yet, or none is
abbrev pub begins : Bool → GrowOptions → Growth
begins logged o = record (beginning o) { log = if logged then Some [] else None }

-- from where b stands an overlay is grown with these options by the scenario of this text, which makes this world:
-- nodes join, the overlay settles, nodes crash, and the overlay heals. There growing stands at s, t, v and u
pub record GrowsFrom (b : Growth) (o : GrowOptions) (text : List ℕ) (world : WorldState)
    (settled crashed healed : PhaseEnd) : Type 0
  where
    pub s : Growth
    pub t : Growth
    pub v : Growth
    pub u : Growth
    pub join : Join o b s
    pub settle : Settle o s settled t
    pub crash : CrashNodes o settled.moment t crashed v
    pub heal : Heal o v healed u
    pub text_is : text ≡ u.text
    pub world_is : world ≡ u.world

-- with these options an overlay is grown by the scenario of this text, which makes this world
abbrev pub Grows : GrowOptions → List ℕ → WorldState → PhaseEnd → PhaseEnd → PhaseEnd → Type 0
Grows o text world settled crashed healed = GrowsFrom (beginning o) o text world settled crashed healed

-- no scenario grows an overlay with these options from where b stands
abbrev pub CantBeGrownFrom : Growth → GrowOptions → Type 0
CantBeGrownFrom b o =
    (text : List ℕ) (world : WorldState) (settled crashed healed : PhaseEnd)
    → ¬ GrowsFrom b o text world settled crashed healed

-- no scenario grows an overlay with these options
abbrev pub CantBeGrown : GrowOptions → Type 0
CantBeGrown o = CantBeGrownFrom (beginning o) o

-- growing with these options ends in this fault: memory ran out, or no overlay can be grown with them
abbrev pub EndsGrowingFrom : Growth → GrowOptions → GrowFault → Type 0
EndsGrowingFrom b o fault = (fault ≡ OutOfMemory) ⊎ CantBeGrownFrom b o

-- growing with these options is refused: the journal is full, too few places for packets are free, or memory ran out;
-- and unless memory ran out, no overlay can be grown with these options
pub record IsGrowRefusalFrom (b : Growth) (o : GrowOptions) (fault : GrowFault) : Type 0 where
  pub full : IsFull fault
  pub reason : EndsGrowingFrom b o fault

-- the same of growing that keeps no log of broadcasts
abbrev pub IsGrowRefusal : GrowOptions → GrowFault → Type 0
IsGrowRefusal o fault = IsGrowRefusalFrom (beginning o) o fault

-- the options decide the text, the world and the phases: whatever two overlays are grown with them are the same
abbrev pub OneGrowth : Type 0
OneGrowth =
    (o : GrowOptions) (text other : List ℕ) (world beside : WorldState)
    (settled crashed healed settles crashes heals : PhaseEnd)
    → Grows o text world settled crashed healed → Grows o other beside settles crashes heals
    → (text ≡ other) × (world ≡ beside) × (settled ≡ settles) × (crashed ≡ crashes) × (healed ≡ heals)

-- a log of broadcasts that is kept changes nothing else: an overlay is grown by a scenario, with its world and phases,
-- exactly if it is grown so when no log is kept
abbrev pub LogChangesNothing : Type 0
LogChangesNothing =
    (logged : Bool) (o : GrowOptions) (text : List ℕ) (world : WorldState) (settled crashed healed : PhaseEnd)
    → (GrowsFrom (begins logged o) o text world settled crashed healed → Grows o text world settled crashed healed)
    × (Grows o text world settled crashed healed → GrowsFrom (begins logged o) o text world settled crashed healed)
