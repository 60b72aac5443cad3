-- How contracts see a recording, and what a recording keeps.
use Rattle.std.specs.Prelude.{refl}
use Rattle.std.specs.Coded.{Coded, code_by, coded×}
use Rattle.ov_snap.specs.CoreState.{CoreState, opening_core}
use Rattle.ov_snap.specs.Code.Codes.{core_code}
use Rattle.ov_script.specs.Scripts.{ScriptState}
use Rattle.ov_script.specs.contracts.scenario_written_line_by_line.Script as script
use Rattle.ov_grow.specs.Recordings.{RecordingState, without_room}
use Rattle.ov_grow.specs.Replay.{AcceptsAll}

-- a code of a recording is that of its parts
abbrev pub recording_code : Coded RecordingState
recording_code =
    code_by (ScriptState × CoreState) (coded× script.the_row.coded core_code) (λ r. (r.script, r.core))
    (λ p. record { script = p.0; core = p.1 })
    (λ _. refl)

-- the recording of this script and this core
abbrev pub recording_of : ScriptState → CoreState → RecordingState
recording_of s c = record { script = without_room s; core = c }

-- the core is what the lines of the script make, each accepted, of one in which nothing happened
pub record MadeBy (s : ScriptState) (c : CoreState) : Type 0 where
  pub accepted : AcceptsAll (opening_core s.params) s.lines c
