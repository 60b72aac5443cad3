-- What a script keeps, and what is kept of its text.
use Rattle.std.specs.Prelude.{◌≡◌, ◌⊎◌, ℕ, List, [], ◌∷◌, ◌++◌, map, Option, Some}
use Rattle.rand_core.specs.Stream.{Stream}
use Rattle.ov_ids.specs.ParamsState.{ParamsState}
use Rattle.ov_lines.specs.Lines.{kept_lines}
use Rattle.ov_words.specs.Stream.{words_per_event}
use Rattle.ov_scenario.specs.Draws.{seeded}
use Rattle.ov_scenario.specs.RunLines.{drivers_for}
use Rattle.ov_scenario.specs.Scenarios.{AreFaultless, AreParamsOf, IsRefillOf, IsScaleOf, IsSeedOf, stated_at}
use Rattle.ov_scenario.specs.Statements.{Stated, ToldLine, told}
use Rattle.ov_scenario.specs.Code.RunnableLines.{later_words, outputs, to_run}
use Rattle.ov_scenario.specs.declared.scenario.Line.{Line}
use Rattle.ov_scenario.specs.declared.statement.Statement.{Statement}
use Rattle.ov_scenario.specs.declared.statement.Statement.TheVariants as says
use Rattle.ov_script.specs.Acts.{act_line}
use Rattle.ov_script.specs.Scripts.{opening}
use Rattle.ov_script.specs.WrittenLines.{analysis_line, comment_line, ended}
use Rattle.ov_script.specs.declared.line_to_write.KeptLine.{KeptLine}
use Rattle.ov_script.specs.declared.line_to_write.KeptLine.TheVariants as keeps

-- the line that is kept
abbrev pub line_kept : KeptLine → List ℕ
line_kept (keeps.Act act) = act_line act
line_kept (keeps.Analysis moment) = analysis_line moment
line_kept (keeps.Comment said) = comment_line said

-- these lines, each with its line feed
unfoldable pub written : List KeptLine → List ℕ
written [] = []
written (line ∷ more) = ended (line_kept line) ++ written more

-- the text of a script with this heading, these parameters and this seed, which keeps these lines
unfoldable pub text_of : List ℕ → ParamsState → ℕ → List KeptLine → List ℕ
text_of heading params seed lines = opening heading params seed ++ written lines

-- the lines to run that a text with this seed asks for
unfoldable pub lines_of : ℕ → List ℕ → List Line
lines_of seed text = to_run (seeded seed) (told (kept_lines text))

-- a line of a script says this: parameters, a seed, a rule at DISCONNECT, a scale, an event or an analysis
abbrev pub IsPlain : Option Statement → Type 0
IsPlain (Some (says.Params numbers)) = Unit {0}
IsPlain (Some (says.Seed seed)) = Unit {0}
IsPlain (Some (says.Refill rule)) = Unit {0}
IsPlain (Some (says.Scale scale)) = Unit {0}
IsPlain (Some (says.Event event)) = Unit {0}
IsPlain (Some (says.Analyse subject workers)) = Unit {0}
IsPlain other = ⊥

-- each of these lines is one of a script
unfoldable pub ArePlain : {A : Type 0} → (A → Option Statement) → List A → Type 0
ArePlain said [] = Unit {0}
ArePlain said (line ∷ more) = IsPlain (said line) × ArePlain said more

-- what the generator returns after it gave random words to each event of these lines
unfoldable pub left_after : Stream → List ToldLine → Stream
left_after stream [] = stream
left_after stream ((own, Some (says.Event event)) ∷ more) = left_after (later_words stream) more
left_after stream (other ∷ more) = left_after stream more

-- a text has no line, or its last line has a line feed
abbrev pub EndsLine : List ℕ → Type 0
EndsLine text = (text ≡ []) ⊎ ((before : List ℕ) × (text ≡ before ++ 10 ∷ []))

-- lines set these parameters, with their rule at DISCONNECT and their scale, and this seed
pub record AreSettings (lines : List Stated) (p : ParamsState) (seed : ℕ) : Type 0 where
  pub params : AreParamsOf lines p
  pub refill_said : IsRefillOf lines p.refill
  pub scale_said : IsScaleOf lines p.scale
  pub seed_said : IsSeedOf lines seed

-- the lines of a text that are not skipped say these parameters and this seed. They give events random words of the
-- seed's generator: the next event has these, and `behind` is what the generator returns after them
pub record IsTold (kept : List (ℕ × List ℕ)) (p : ParamsState) (seed : ℕ) (next : List ℕ) (behind : Stream) : Type 0
  where
    pub plain_stated : ArePlain (λ line. line.says) (map stated_at kept)
    pub plain_told : ArePlain (λ line. line.1) (told kept)
    pub faultless : AreFaultless (map stated_at kept)
    pub settings : AreSettings (map stated_at kept) p seed
    pub no_block : drivers_for (to_run (seeded seed) (told kept)) ≡ 1
    pub drawn : outputs words_per_event (left_after (seeded seed) (told kept)) ≡ (next, behind)

-- what a script keeps of its text
pub record IsScript (text : List ℕ) (p : ParamsState) (seed : ℕ) (next : List ℕ) (behind : Stream) : Type 0 where
  pub ends : EndsLine text
  pub said : IsTold (kept_lines text) p seed next behind
