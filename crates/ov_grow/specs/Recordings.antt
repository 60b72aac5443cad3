-- A recording: a script together with the core that its lines made. b is the recording, or its script, before a call,
-- and u the one after it. Chosen here.
use Rattle.std.specs.Prelude.{◌≡◌, ℕ, List, [], ◌∷◌, ◌++◌, None}
use Rattle.ov_snap.specs.CoreState.{CoreState}
use Rattle.ov_scenario.specs.declared.scenario.Line.{Line}
use Rattle.ov_scenario.specs.declared.scenario.Subject.{Subject}
use Rattle.ov_script.specs.Scripts.{ScriptState}
use Rattle.ov_script.specs.WrittenLines.{ended}

-- the script, in which no room is counted, and the core
pub record RecordingState : Type 0 where
  pub script : ScriptState
  pub core : CoreState

-- the same script, in which no room is counted: a call that is refused may have made some
abbrev pub without_room : ScriptState → ScriptState
without_room s = record s { room = 0 }

-- the subject of an analysis of all nodes of a moment
abbrev pub all_of : ℕ → Subject
all_of moment = record { moment = moment; group = None }

-- one line more was written, and this is the line to run that it asks for. The parameters and the seed are the same
pub record HasOneLineMore (b : ScriptState) (written : List ℕ) (line : Line) (u : ScriptState) : Type 0 where
  pub text : u.text ≡ b.text ++ ended written
  pub lines : u.lines ≡ b.lines ++ line ∷ []
  pub params : u.params ≡ b.params
  pub seed : u.seed ≡ b.seed
