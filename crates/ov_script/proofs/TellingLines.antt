-- What lines of a script tell together, with one line more.
use Rattle.std.proofs.Common.{◌≡◌, ◌⊎◌, inl, inr, ℕ, max, List, [], ◌∷◌, ◌++◌, length, Option, Some, None, refl, ap}
use Rattle.std.proofs.Common.{sym, subst, append_assoc}
use Rattle.std.proofs.lemmas.List.{append-nil}
use Rattle.rand_core.specs.Stream.{Stream}
use Rattle.ov_ids.specs.Members.{Has}
use Rattle.ov_ids.specs.ParamsState.{ParamsState}
use Rattle.ov_ids.specs.declared.refill_rule.Refill.{Refill}
use Rattle.ov_ids.specs.declared.refill_rule.Refill.TheVariants.{Never}
use Rattle.ov_ids.specs.declared.world_scale.Scale.{Scale}
use Rattle.ov_ids.specs.declared.world_scale.Scale.TheVariants.{Profile}
use Rattle.ov_ids.proofs.Members.{has_append_cases, has_append_left, has_append_right}
use Rattle.ov_net.specs.declared.event.Event.{Event}
use Rattle.ov_scenario.specs.RunLines.{drivers_for}
use Rattle.ov_scenario.specs.Scenarios.{AreFaulty, AreParamsOf, HasKind, IsSetBy, IsWrong, before_of}
use Rattle.ov_scenario.specs.Statements.{Stated, ToldLine}
use Rattle.ov_scenario.specs.Code.RunnableLines.{later_words, next_words, to_run}
use Rattle.ov_scenario.specs.declared.line_judging.Before.{Before}
use Rattle.ov_scenario.specs.declared.open_block.OpenBlock.{OpenBlock}
use Rattle.ov_scenario.specs.declared.scenario.Line.{Line}
use Rattle.ov_scenario.specs.declared.scenario.Line.TheVariants as line
use Rattle.ov_scenario.specs.declared.scenario_fault.LineFault.{LineFault}
use Rattle.ov_scenario.specs.declared.statement.Statement.{Statement}
use Rattle.ov_scenario.specs.declared.statement.Statement.TheVariants as says
use Rattle.ov_scenario.proofs.Scenarios.Settled.{with_settings}
use Rattle.ov_script.specs.Code.Kept.{ArePlain, AreSettings, IsPlain, left_after}

-- ---- plain lines

pub plain_more :
    {A : Type 0} (said : A → Option Statement) (lines : List A) (next : A) → ArePlain said lines → IsPlain (said next)
    → ArePlain said (lines ++ next ∷ [])
unfolding ArePlain
plain_more said [] next plain one = (one, tt)
plain_more said (line ∷ lines) next plain one = (plain.0, plain_more said lines next plain.1 one)

-- ---- faults

-- whether a plain line is at fault does not depend on the lines after it
same_fault :
    (before : Before) (said : Option Statement) (after other : List Stated) (f : LineFault) → IsPlain said
    → IsWrong before said after f
    → IsWrong before said other f
same_fault before said after other f plain wrong = by said before.block plain wrong where
  by : (own : Option Statement) (block : Option OpenBlock) → IsPlain own
      → IsWrong (record before { block = block }) own after f
      → IsWrong (record before { block = block }) own other f
  by None block plain wrong = absurd plain
  by (Some (says.Words words)) block plain wrong = absurd plain
  by (Some (says.Look look)) block plain wrong = absurd plain
  by (Some says.Together) block plain wrong = absurd plain
  by (Some says.Also) block plain wrong = absurd plain
  by (Some says.End) block plain wrong = absurd plain
  by (Some (says.Params numbers)) None plain wrong = wrong
  by (Some (says.Params numbers)) (Some block) plain wrong = wrong
  by (Some (says.Seed seed)) None plain wrong = wrong
  by (Some (says.Seed seed)) (Some block) plain wrong = wrong
  by (Some (says.Refill rule)) None plain wrong = wrong
  by (Some (says.Refill rule)) (Some block) plain wrong = wrong
  by (Some (says.Scale scale)) None plain wrong = wrong
  by (Some (says.Scale scale)) (Some block) plain wrong = wrong
  by (Some (says.Event event)) None plain wrong = wrong
  by (Some (says.Event event)) (Some block) plain wrong = wrong
  by (Some (says.Analyse subject workers)) None plain wrong = wrong
  by (Some (says.Analyse subject workers)) (Some block) plain wrong = wrong

-- plain lines without a fault, with one more that has none
pub faultless_more :
    (before lines : List Stated) (next : Stated) → ArePlain (λ line. line.says) lines → AreFaulty before lines []
    → ((f : LineFault) → ¬ IsWrong (before_of (before ++ lines)) next.says [] f)
    → AreFaulty before (lines ++ next ∷ []) []
unfolding AreFaulty ArePlain
faultless_more before [] next plain none right =
    let same : before ++ [] ≡ before = append-nil before in
    inl ((λ f wrong. right f (subst (λ b. IsWrong (before_of b) next.says [] f) (sym same) wrong)), refl)
faultless_more before (line ∷ lines) next plain (inl (none, later)) right = inl (
  (λ f wrong. none f (same_fault (before_of before) line.says (lines ++ next ∷ []) lines f plain.0 wrong)),
  faultless_more (before ++ line ∷ []) lines next plain.1 later
      (λ f wrong. right f (subst (λ b. IsWrong (before_of b) next.says [] f) (append_assoc before (line ∷ []) lines)
      wrong)),
)
faultless_more before (line ∷ lines) next plain (inr (f, rest, wrong, is, later)) right = absurd cc

-- an event is never at fault
pub event_right :
    (before : Before) (event : Event) (after : List Stated) (f : LineFault)
    → ¬ IsWrong before (Some (says.Event event)) after f
event_right before event after f = by before.block where
  by : (block : Option OpenBlock) → ¬ IsWrong (record before { block = block }) (Some (says.Event event)) after f
  by None wrong = wrong
  by (Some block) wrong = wrong

-- nor is an analysis of all nodes without a number of workers
pub analysis_right :
    (before : Before) (moment : ℕ) (after : List Stated) (f : LineFault)
    → ¬ IsWrong before (Some (says.Analyse (record { moment = moment; group = None }) None)) after f
analysis_right before moment after f = by before.block where
  by : (block : Option OpenBlock)
      → ¬ IsWrong (record before { block = block })
      (Some (says.Analyse (record { moment = moment; group = None }) None)) after f
  by None wrong = wrong
  by (Some block) wrong = wrong.0 (refl, refl)

-- ---- settings

pub kind_more :
    {A : Type 0} (kind : A → Statement) (lines : List Stated) (next : Stated) → ¬ HasKind kind lines
    → ((x : A) → ¬ (next.says ≡ Some (kind x)))
    → ¬ HasKind kind (lines ++ next ∷ [])
kind_more kind lines next none other (line, x, has, is) = by (has_append_cases lines (next ∷ []) line has) where
  by : Has lines line ⊎ Has (next ∷ []) line → ⊥
  by (inl before) = none (line, x, before, is)
  by (inr (inl same)) = other x (subst (λ l. l.says ≡ Some (kind x)) (sym same) is)
  by (inr (inr nothing)) = absurd nothing

params_more :
    (lines : List Stated) (next : Stated) (p : ParamsState) → AreParamsOf lines p
    → ((numbers : List ℕ) → ¬ (next.says ≡ Some (says.Params numbers)))
    → AreParamsOf (lines ++ next ∷ []) p
unfolding AreParamsOf
params_more lines next p (inl (line, numbers, has, is, are)) other =
    inl (line, numbers, has_append_left lines (next ∷ []) line has, is, are)
params_more lines next p (inr (none, default)) other = inr (kind_more says.Params lines next none other, default)

-- a line of another kind leaves what was set
set_more :
    {A : Type 0} (kind : A → Statement) (usual : A) (lines : List Stated) (next : Stated) (x : A)
    → IsSetBy kind usual lines x → ((y : A) → ¬ (next.says ≡ Some (kind y)))
    → IsSetBy kind usual (lines ++ next ∷ []) x
unfolding IsSetBy
set_more kind usual lines next x (inl (line, has, is)) other =
    inl (line, has_append_left lines (next ∷ []) line has, is)
set_more kind usual lines next x (inr (none, same)) other = inr (kind_more kind lines next none other, same)

-- and a line of the kind sets it
set_now :
    {A : Type 0} (kind : A → Statement) (usual : A) (lines : List Stated) (next : Stated) (x : A)
    → next.says ≡ Some (kind x)
    → IsSetBy kind usual (lines ++ next ∷ []) x
unfolding IsSetBy
set_now kind usual lines next x is = inl (next, has_append_right lines (next ∷ []) next (inl refl), is)

-- a line sets nothing for the whole run
abbrev pub SetsNothing : Option Statement → Type 0
SetsNothing None = Unit {0}
SetsNothing (Some (says.Params numbers)) = ⊥
SetsNothing (Some (says.Seed seed)) = ⊥
SetsNothing (Some (says.Refill rule)) = ⊥
SetsNothing (Some (says.Scale scale)) = ⊥
SetsNothing other = Unit {0}

-- so it leaves all settings
pub settings_more :
    (lines : List Stated) (next : Stated) (p : ParamsState) (seed : ℕ) → AreSettings lines p seed
    → SetsNothing next.says
    → AreSettings (lines ++ next ∷ []) p seed
settings_more lines next p seed before nothing = record {
  params = params_more lines next p before.params (λ numbers is. subst SetsNothing is nothing);
  refill_said =
      set_more says.Refill Never lines next p.refill before.refill_said (λ rule is. subst SetsNothing is nothing);
  scale_said =
      set_more says.Scale Profile lines next p.scale before.scale_said (λ scale is. subst SetsNothing is nothing);
  seed_said = set_more says.Seed 0 lines next seed before.seed_said (λ other is. subst SetsNothing is nothing);
}

-- a rule at DISCONNECT changes that setting alone
pub settings_rule :
    (lines : List Stated) (n : ℕ) (p : ParamsState) (seed : ℕ) (rule : Refill) → AreSettings lines p seed
    → AreSettings (lines ++ record { number = n; says = Some (says.Refill rule) } ∷ []) (record p { refill = rule })
    seed
settings_rule lines n p seed rule before =
    let next : Stated = record { number = n; says = Some (says.Refill rule) } in
    record {
      params =
          with_settings (lines ++ next ∷ []) p rule p.scale
          (params_more lines next p before.params (λ numbers is. absurd cc));
      refill_said = set_now says.Refill Never lines next rule refl;
      scale_said = set_more says.Scale Profile lines next p.scale before.scale_said (λ scale is. absurd cc);
      seed_said = set_more says.Seed 0 lines next seed before.seed_said (λ other is. absurd cc);
    }

-- and so does a scale
pub settings_scale :
    (lines : List Stated) (n : ℕ) (p : ParamsState) (seed : ℕ) (scale : Scale) → AreSettings lines p seed
    → AreSettings (lines ++ record { number = n; says = Some (says.Scale scale) } ∷ []) (record p { scale = scale })
    seed
settings_scale lines n p seed scale before =
    let next : Stated = record { number = n; says = Some (says.Scale scale) } in
    record {
      params =
          with_settings (lines ++ next ∷ []) p p.refill scale
          (params_more lines next p before.params (λ numbers is. absurd cc));
      refill_said = set_more says.Refill Never lines next p.refill before.refill_said (λ rule is. absurd cc);
      scale_said = set_now says.Scale Profile lines next scale refl;
      seed_said = set_more says.Seed 0 lines next seed before.seed_said (λ other is. absurd cc);
    }

-- ---- lines to run

-- what plain lines ask for, and then what those after them ask for
pub run_more :
    (stream : Stream) (lines behind : List ToldLine) → ArePlain (λ line. line.1) lines
    → to_run stream (lines ++ behind) ≡ to_run stream lines ++ to_run (left_after stream lines) behind
unfolding to_run ArePlain left_after
run_more stream [] behind plain = refl
run_more stream ((own, None) ∷ lines) behind plain = absurd plain.0
run_more stream ((own, Some (says.Words words)) ∷ lines) behind plain = absurd plain.0
run_more stream ((own, Some (says.Look look)) ∷ lines) behind plain = absurd plain.0
run_more stream ((own, Some says.Together) ∷ lines) behind plain = absurd plain.0
run_more stream ((own, Some says.Also) ∷ lines) behind plain = absurd plain.0
run_more stream ((own, Some says.End) ∷ lines) behind plain = absurd plain.0
run_more stream ((own, Some (says.Params numbers)) ∷ lines) behind plain = run_more stream lines behind plain.1
run_more stream ((own, Some (says.Seed seed)) ∷ lines) behind plain = run_more stream lines behind plain.1
run_more stream ((own, Some (says.Refill rule)) ∷ lines) behind plain = run_more stream lines behind plain.1
run_more stream ((own, Some (says.Scale scale)) ∷ lines) behind plain = run_more stream lines behind plain.1
run_more stream ((own, Some (says.Event event)) ∷ lines) behind plain =
    ap (λ ls. line.Event event (next_words stream) ∷ ls) (run_more (later_words stream) lines behind plain.1)
run_more stream ((own, Some (says.Analyse subject workers)) ∷ lines) behind plain =
    ap (λ ls. to_run stream ((own, Some (says.Analyse subject workers)) ∷ []) ++ ls)
    (run_more stream lines behind plain.1)

-- what the generator returns after plain lines and those after them
pub left_more :
    (stream : Stream) (lines behind : List ToldLine) → ArePlain (λ line. line.1) lines
    → left_after stream (lines ++ behind) ≡ left_after (left_after stream lines) behind
unfolding ArePlain left_after
left_more stream [] behind plain = refl
left_more stream ((own, None) ∷ lines) behind plain = absurd plain.0
left_more stream ((own, Some (says.Words words)) ∷ lines) behind plain = absurd plain.0
left_more stream ((own, Some (says.Look look)) ∷ lines) behind plain = absurd plain.0
left_more stream ((own, Some says.Together) ∷ lines) behind plain = absurd plain.0
left_more stream ((own, Some says.Also) ∷ lines) behind plain = absurd plain.0
left_more stream ((own, Some says.End) ∷ lines) behind plain = absurd plain.0
left_more stream ((own, Some (says.Params numbers)) ∷ lines) behind plain = left_more stream lines behind plain.1
left_more stream ((own, Some (says.Seed seed)) ∷ lines) behind plain = left_more stream lines behind plain.1
left_more stream ((own, Some (says.Refill rule)) ∷ lines) behind plain = left_more stream lines behind plain.1
left_more stream ((own, Some (says.Scale scale)) ∷ lines) behind plain = left_more stream lines behind plain.1
left_more stream ((own, Some (says.Event event)) ∷ lines) behind plain =
    left_more (later_words stream) lines behind plain.1
left_more stream ((own, Some (says.Analyse subject workers)) ∷ lines) behind plain =
    left_more stream lines behind plain.1

-- lines that need one driver do not add to those that others need
pub drivers_more :
    (lines behind : List Line) → drivers_for behind ≡ 1
    → drivers_for (lines ++ behind) ≡ drivers_for lines
unfolding drivers_for
drivers_more [] behind one = one
drivers_more (line.Event event words ∷ lines) behind one = drivers_more lines behind one
drivers_more (line.Look look ∷ lines) behind one = drivers_more lines behind one
drivers_more (line.Analyse subject workers ∷ lines) behind one = drivers_more lines behind one
drivers_more (line.Together sections ∷ lines) behind one =
    ap (λ n. max (length sections) n) (drivers_more lines behind one)
