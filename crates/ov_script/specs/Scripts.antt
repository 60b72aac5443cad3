-- A script: a scenario that is made line by line. It begins with a comment and with settings, and each line that is
-- added is an act, an analysis or a comment.
use Rattle.std.specs.Prelude.{ℕ, List, ◌++◌}
use Rattle.ov_ids.specs.ParamsState.{ParamsState}
use Rattle.ov_scenario.specs.RunLines.{lines_that_run}
use Rattle.ov_scenario.specs.declared.scenario.Line.{Line}
use Rattle.ov_scenario.specs.declared.scenario.Scenario.{Scenario}
use Rattle.ov_script.specs.WrittenLines.{comment_line, ended, params_line, rule_text, scale_text, seed_line}

-- a script: the parameters of all nodes, the seed, the text so far, the lines to run that it asks for, the random words
-- that the scenario gives to its next event, and for how many lines more there is memory
pub record ScriptState : Type 0 where
  pub params : ParamsState
  pub seed : ℕ
  pub text : List ℕ
  pub lines : List Line
  pub next : List ℕ
  pub room : ℕ

-- the text with which a script begins: a comment, the parameters and the seed, and the rule at DISCONNECT and the scale
-- unless they are the profile's
unfoldable pub opening : List ℕ → ParamsState → ℕ → List ℕ
opening heading params seed =
    ended (comment_line heading)
    ++ (ended (params_line params)
    ++ (ended (seed_line seed) ++ (rule_text params.refill ++ scale_text params.scale)))

-- the scenario that the text of a script says; it has no blocks, so one driver is enough
abbrev pub scenario_of : ScriptState → Scenario
scenario_of s = record {
  params = s.params;
  seed = s.seed;
  drivers = 1;
  lines = record { items = s.lines; file_lines = lines_that_run s.text };
}
