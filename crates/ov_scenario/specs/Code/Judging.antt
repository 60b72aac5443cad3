-- How a line is judged, and what lines without a fault give for the whole run.
use Rattle.std.specs.Prelude.{◌≡◌, ℕ, max, Bool, List, [], ◌∷◌, Option, Some, None, option_map, if◌then◌else◌}
use Rattle.std.specs.Option.{option_or}
use Rattle.ov_ids.specs.declared.refill_rule.Refill.{Refill}
use Rattle.ov_ids.specs.declared.world_scale.Scale.{Scale}
use Rattle.ov_scenario.specs.Scenarios.{is_event, is_params, is_refill, is_scale, is_seed, IsWrong}
use Rattle.ov_scenario.specs.Sections.{open_next}
use Rattle.ov_scenario.specs.Statements.{Stated}
use Rattle.ov_scenario.specs.declared.line_judging.Before.{Before}
use Rattle.ov_scenario.specs.declared.judged_line_iterator.Judged.{Judged}
use Rattle.ov_scenario.specs.declared.judged_line_iterator.Judging.{Judging}
use Rattle.ov_scenario.specs.declared.open_block.OpenBlock.{OpenBlock}
use Rattle.ov_scenario.specs.declared.scenario_fault.FaultyLine.{FaultyLine}
use Rattle.ov_scenario.specs.declared.scenario_fault.LineFault.{LineFault}
use Rattle.ov_scenario.specs.declared.statement.Statement.{Statement}
use Rattle.ov_scenario.specs.declared.statement.Statement.TheVariants as says

-- the fault that is returned is one of these, or None is returned and there is no such fault
abbrev pub Tells : Option LineFault → (LineFault → Type 0) → Type 0
Tells None Is = (f : LineFault) → ¬ Is f
Tells (Some f) Is = Is f

-- the number of the first line of a kind, by that of the lines before and the next line
abbrev pub or_next : (Option Statement → Bool) → Option ℕ → Stated → Option ℕ
or_next is_kind first line = if is_kind line.says then option_or first (Some line.number) else first

-- what matters of lines for those after them, with the next line
abbrev pub with_next : Before → Stated → Before
with_next before line = record {
  event = or_next is_event before.event line;
  params = or_next is_params before.params line;
  seed = or_next is_seed before.seed line;
  refill = or_next is_refill before.refill line;
  scale = or_next is_scale before.scale line;
  block = open_next before.block line.number line.says;
}

-- no line was left, or this one was judged: by what is known of the lines before it, and by those after it
abbrev pub Judges : Judging → Option Judged → Judging → Type 0
Judges old None new = old.ahead ≡ []
Judges old (Some judged) new =
    (old.ahead ≡ judged.line ∷ new.ahead) × (new.before ≡ with_next old.before judged.line)
    × Tells judged.fault (λ f. IsWrong old.before judged.line.says new.ahead f)

-- the line that was judged, if it is at fault
abbrev pub faulty_of : Judged → Option FaultyLine
faulty_of judged = option_map (λ f. record { line = judged.line.number; fault = f }) judged.fault

-- the numbers of the parameters that a line gives, if it says this
abbrev pub params_in : Option Statement → Option (List ℕ)
params_in (Some (says.Params numbers)) = Some numbers
params_in other = None

-- the seed that a line gives, if it says this
abbrev pub seed_in : Option Statement → Option ℕ
seed_in (Some (says.Seed seed)) = Some seed
seed_in other = None

-- the rule at DISCONNECT that a line gives, if it says this
abbrev pub refill_in : Option Statement → Option Refill
refill_in (Some (says.Refill rule)) = Some rule
refill_in other = None

-- the scale that a line gives, if it says this
abbrev pub scale_in : Option Statement → Option Scale
scale_in (Some (says.Scale scale)) = Some scale
scale_in other = None

-- the first of what these lines give
abbrev pub first_in : {A : Type 0} → (Option Statement → Option A) → List Stated → Option A
first_in given [] = None
first_in given (line ∷ more) = option_or (given line.says) (first_in given more)

-- how many sections this block has, or one if there is none
abbrev pub sections_of : Option OpenBlock → ℕ
sections_of None = 1
sections_of (Some block) = block.sections

-- how many sections the block that is open after one of these lines has, at most. This one was open before them, if one
-- was
unfoldable pub drivers_from : Option OpenBlock → List Stated → ℕ
drivers_from open_before [] = 0
drivers_from open_before (line ∷ more) =
    max (sections_of (open_next open_before line.number line.says))
    (drivers_from (open_next open_before line.number line.says) more)
