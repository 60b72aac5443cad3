-- What a script keeps of the text with which it begins.
use Rattle.std.proofs.Common.{◌≡◌, ◌∙◌, ◌<◌, ◌^◌, ◌+◌, inl, inr, ℕ, List, [], ◌∷◌, ◌++◌, length, map, Some, None}
use Rattle.std.proofs.Common.{Option, refl, ap, sym, subst, append_assoc}
use Rattle.std.specs.Str.Lines.{lines}
use Rattle.std.proofs.lemmas.List.{append-nil}
use Rattle.rand_core.specs.Stream.{Stream}
use Rattle.ov_ids.specs.ParamsState.{AreWithinLimits, ParamsState}
use Rattle.ov_ids.specs.declared.refill_rule.Refill.{Refill}
use Rattle.ov_ids.specs.declared.refill_rule.Refill.TheVariants.{Never, Alone, Always}
use Rattle.ov_ids.specs.declared.world_scale.Scale.{Scale}
use Rattle.ov_ids.specs.declared.world_scale.Scale.TheVariants.{Large, Profile}
use Rattle.ov_words.specs.Stream.{AreOutputs, words_per_event}
use Rattle.ov_lines.specs.Lines.{kept_from, kept_lines}
use Rattle.ov_scenario.specs.Draws.{seeded}
use Rattle.ov_scenario.specs.RunLines.{drivers_for}
use Rattle.ov_scenario.specs.Scenarios.{AreFaulty, AreFaultless, AreParamsOf, HasKind, IsSetBy, IsWrong, before_of}
use Rattle.ov_scenario.specs.Scenarios.{first_of, is_event, is_scale, stated_at}
use Rattle.ov_scenario.specs.Sections.{open_after, open_from, open_next}
use Rattle.ov_scenario.specs.Statements.{Stated, ToldLine, statement_of, told}
use Rattle.ov_scenario.specs.Code.RunnableLines.{outputs, to_run}
use Rattle.ov_scenario.specs.declared.open_block.OpenBlock.{OpenBlock}
use Rattle.ov_scenario.specs.declared.scenario_fault.LineFault.{LineFault}
use Rattle.ov_scenario.specs.declared.statement.Statement.{Statement}
use Rattle.ov_scenario.specs.declared.statement.Statement.TheVariants as says
use Rattle.ov_scenario.proofs.Scenarios.Judged.{first_next, open_more}
use Rattle.ov_scenario.proofs.Scenarios.Outputs.{are_outputs, count_outputs, outputs_drawn}
use Rattle.ov_scenario.proofs.Scenarios.Settled.{any_settings}
use Rattle.ov_script.specs.Scripts.{opening}
use Rattle.ov_script.specs.WrittenLines.{comment_line, ended, params_line, refill_line, rule_text, scale_line}
use Rattle.ov_script.specs.WrittenLines.{scale_text, seed_line}
use Rattle.ov_script.specs.Code.Kept.{ArePlain, AreSettings, EndsLine, IsPlain, IsScript, IsTold, left_after, lines_of}
use Rattle.ov_script.proofs.KeepingText.{stated_more, told_more}
use Rattle.ov_script.proofs.OneLine.{comment_clean, comment_skipped, ends_line, kept_last, kept_skipped}
use Rattle.ov_script.proofs.Statements.{Says, numbers_of, params_said, refill_said, scale_said, seed_said}
use Rattle.ov_script.proofs.TellingLines.{faultless_more, kind_more, left_more, plain_more, run_more, settings_rule}
use Rattle.ov_script.proofs.TellingLines.{settings_scale}

-- ---- the text

-- a comment, and the parameters behind it
up_to_params : List ℕ → ParamsState → List ℕ
up_to_params heading p = ended (comment_line heading) ++ ended (params_line p)

-- the same, and the seed behind it
up_to_seed : List ℕ → ParamsState → ℕ → List ℕ
up_to_seed heading p seed = up_to_params heading p ++ ended (seed_line seed)

-- the same, and the rule at DISCONNECT behind it
up_to_rule : List ℕ → ParamsState → ℕ → List ℕ
up_to_rule heading p seed = up_to_seed heading p seed ++ rule_text p.refill

opening_joined :
    (heading : List ℕ) (p : ParamsState) (seed : ℕ)
    → opening heading p seed ≡ up_to_rule heading p seed ++ scale_text p.scale
unfolding opening up_to_params up_to_seed up_to_rule
opening_joined heading p seed =
    let first = ended (comment_line heading) in
    let second = ended (params_line p) in
    let third = ended (seed_line seed) in
    let rule = rule_text p.refill in
    let scale = scale_text p.scale in
    sym (append_assoc first second (third ++ (rule ++ scale)))
    ∙ sym (append_assoc (first ++ second) third (rule ++ scale))
    ∙ sym (append_assoc ((first ++ second) ++ third) rule scale)

comment_kept : (heading : List ℕ) → kept_lines (ended (comment_line heading)) ≡ []
unfolding kept_lines kept_from
comment_kept heading =
    kept_skipped [] (comment_line heading) (inl refl) (comment_clean heading) (comment_skipped heading)

params_kept :
    (heading : List ℕ) (p : ParamsState) → AreWithinLimits p
    → kept_lines (up_to_params heading p) ≡ (1 + length (lines (ended (comment_line heading))), params_line p) ∷ []
unfolding up_to_params
params_kept heading p within =
    let is = params_said p within in
    kept_last (ended (comment_line heading)) (params_line p) (ends_line [] (comment_line heading)) is.clean is.kept
    ∙ ap (λ ls. ls ++ (1 + length (lines (ended (comment_line heading))), params_line p) ∷ []) (comment_kept heading)

-- the first two lines that are not skipped
two_lines : ℕ → ℕ → ParamsState → ℕ → List (ℕ × List ℕ)
two_lines n m p seed = (n, params_line p) ∷ (m, seed_line seed) ∷ []

ends_params : (heading : List ℕ) (p : ParamsState) → EndsLine (up_to_params heading p)
unfolding up_to_params
ends_params heading p = ends_line (ended (comment_line heading)) (params_line p)

ends_seed : (heading : List ℕ) (p : ParamsState) (seed : ℕ) → EndsLine (up_to_seed heading p seed)
unfolding up_to_seed
ends_seed heading p seed = ends_line (up_to_params heading p) (seed_line seed)

seed_kept :
    (heading : List ℕ) (p : ParamsState) (seed : ℕ) → AreWithinLimits p → seed < 2 ^ 64
    → kept_lines (up_to_seed heading p seed)
    ≡ two_lines (1 + length (lines (ended (comment_line heading)))) (1 + length (lines (up_to_params heading p))) p seed
unfolding two_lines up_to_seed
seed_kept heading p seed within fits =
    let is = seed_said seed fits in
    kept_last (up_to_params heading p) (seed_line seed) (ends_params heading p) is.clean is.kept
    ∙ ap (λ ls. ls ++ (1 + length (lines (up_to_params heading p)), seed_line seed) ∷ []) (params_kept heading p within)

-- ---- what the first two lines tell

-- as they are stated
stated_first : ℕ → ParamsState → Stated
stated_first n p = record { number = n; says = Some (says.Params (numbers_of p)) }

stated_second : ℕ → ℕ → Stated
stated_second m seed = record { number = m; says = Some (says.Seed seed) }

stated_two : ℕ → ℕ → ParamsState → ℕ → List Stated
stated_two n m p seed = stated_first n p ∷ stated_second m seed ∷ []

-- and as they are told
told_two : ℕ → ℕ → ParamsState → ℕ → List ToldLine
told_two n m p seed =
    ((n, params_line p), Some (says.Params (numbers_of p))) ∷ ((m, seed_line seed), Some (says.Seed seed)) ∷ []

are_stated :
    (n m : ℕ) (p : ParamsState) (seed : ℕ) → AreWithinLimits p → seed < 2 ^ 64
    → map stated_at (two_lines n m p seed) ≡ stated_two n m p seed
unfolding two_lines stated_two stated_first stated_second
are_stated n m p seed within fits =
    ap (λ o. record { number = n; says = o } ∷ stated_at (m, seed_line seed) ∷ []) (params_said p within).says
    ∙ ap (λ o. stated_first n p ∷ record { number = m; says = o } ∷ []) (seed_said seed fits).says

are_told :
    (n m : ℕ) (p : ParamsState) (seed : ℕ) → AreWithinLimits p → seed < 2 ^ 64
    → told (two_lines n m p seed) ≡ told_two n m p seed
unfolding two_lines told_two
are_told n m p seed within fits =
    ap (λ o. ((n, params_line p), o) ∷ ((m, seed_line seed), statement_of (seed_line seed)) ∷ [])
    (params_said p within).says
    ∙ ap (λ o. ((n, params_line p), Some (says.Params (numbers_of p))) ∷ ((m, seed_line seed), o) ∷ [])
    (seed_said seed fits).says

params_right :
    (p : ParamsState) (after : List Stated) (f : LineFault) → AreWithinLimits p
    → ¬ IsWrong (before_of []) (Some (says.Params (numbers_of p))) after f
unfolding open_from
params_right p after f within (inl nothing) = nothing
params_right p after f within (inr (none, first, out, is)) = out (p, (refl, within))

seed_right :
    (n : ℕ) (p : ParamsState) (seed : ℕ) (after : List Stated) (f : LineFault)
    → ¬ IsWrong (before_of (stated_first n p ∷ [])) (Some (says.Seed seed)) after f
unfolding open_from stated_first
seed_right n p seed after f nothing = nothing

right_two : (n m : ℕ) (p : ParamsState) (seed : ℕ) → AreWithinLimits p → AreFaultless (stated_two n m p seed)
unfolding AreFaulty stated_two stated_first stated_second
right_two n m p seed within = inl (
  (λ f. params_right p (stated_second m seed ∷ []) f within),
  inl ((λ f. seed_right n p seed [] f), refl),
)

none_of_two :
    {A : Type 0} (kind : A → Statement) (n m : ℕ) (p : ParamsState) (seed : ℕ)
    → ((x : A) → ¬ (Some (says.Params (numbers_of p)) ≡ Some (kind x)))
    → ((x : A) → ¬ (Some (says.Seed seed) ≡ Some (kind x)))
    → ¬ HasKind kind (stated_two n m p seed)
unfolding stated_two stated_first stated_second
none_of_two kind n m p seed first second =
    kind_more kind (stated_first n p ∷ []) (stated_second m seed)
    (kind_more kind [] (stated_first n p) (λ (line, x, has, is). absurd has) first) second

-- these parameters, with the profile's rule and scale
usual : ParamsState → ParamsState
usual p = record p { refill = Never; scale = Profile }

set_two : (n m : ℕ) (p : ParamsState) (seed : ℕ) → AreWithinLimits p → AreSettings (stated_two n m p seed) (usual p)
    seed
unfolding AreParamsOf IsSetBy stated_two stated_first stated_second usual
set_two n m p seed within = record {
  params = inl (stated_first n p, numbers_of p, inl refl, refl, (refl, any_settings p Never Profile within));
  refill_said = inr (none_of_two says.Refill n m p seed (λ x is. absurd cc) (λ x is. absurd cc), refl);
  scale_said = inr (none_of_two says.Scale n m p seed (λ x is. absurd cc) (λ x is. absurd cc), refl);
  seed_said = inl (stated_second m seed, inr (inl refl), refl);
}

plain_stated_two : (n m : ℕ) (p : ParamsState) (seed : ℕ) → ArePlain (λ line. line.says) (stated_two n m p seed)
unfolding ArePlain stated_two stated_first stated_second
plain_stated_two n m p seed = (tt, (tt, tt))

plain_told_two : (n m : ℕ) (p : ParamsState) (seed : ℕ) → ArePlain (λ line. line.1) (told_two n m p seed)
unfolding ArePlain told_two
plain_told_two n m p seed = (tt, (tt, tt))

-- they ask for no line to run
none_run : (stream : Stream) (n m : ℕ) (p : ParamsState) (seed : ℕ) → to_run stream (told_two n m p seed) ≡ []
unfolding to_run told_two
none_run stream n m p seed = refl

none_drawn :
    (stream : Stream) (n m : ℕ) (p : ParamsState) (seed : ℕ) → left_after stream (told_two n m p seed) ≡ stream
unfolding left_after told_two
none_drawn stream n m p seed = refl

one_driver : drivers_for [] ≡ 1
unfolding drivers_for
one_driver = refl

two_told :
    (n m : ℕ) (p : ParamsState) (seed : ℕ) (next : List ℕ) (left : Stream) → AreWithinLimits p → seed < 2 ^ 64
    → AreOutputs (seeded seed) next left → length next ≡ words_per_event
    → IsTold (two_lines n m p seed) (usual p) seed next left
two_told n m p seed next left within fits drawn_then count =
    let stated = are_stated n m p seed within fits in
    let told_as = are_told n m p seed within fits in
    record {
      plain_stated = subst (ArePlain (λ line. line.says)) (sym stated) (plain_stated_two n m p seed);
      plain_told = subst (ArePlain (λ line. line.1)) (sym told_as) (plain_told_two n m p seed);
      faultless = subst AreFaultless (sym stated) (right_two n m p seed within);
      settings = subst (λ ls. AreSettings ls (usual p) seed) (sym stated) (set_two n m p seed within);
      no_block =
          ap (λ ls. drivers_for (to_run (seeded seed) ls)) told_as
          ∙ ap drivers_for (none_run (seeded seed) n m p seed)
          ∙ one_driver;
      drawn =
          ap (λ ls. outputs words_per_event (left_after (seeded seed) ls)) told_as
          ∙ ap (outputs words_per_event) (none_drawn (seeded seed) n m p seed)
          ∙ outputs_drawn (seeded seed) left next count drawn_then;
    }

-- ---- one setting more

-- of lines none is an event and none gives a scale, and no block is open
record AreEarly (lines : List Stated) : Type 0 where
  no_event : first_of is_event lines ≡ None
  no_scale : first_of is_scale lines ≡ None
  no_block : open_after lines ≡ None

early_two : (n m : ℕ) (p : ParamsState) (seed : ℕ) → AreEarly (stated_two n m p seed)
unfolding open_from stated_two stated_first stated_second
early_two n m p seed = record { no_event = refl; no_scale = refl; no_block = refl }

-- so a scale is not at fault behind them
scale_right :
    (lines : List Stated) (scale : Scale) (f : LineFault) → AreEarly lines
    → ¬ IsWrong (before_of lines) (Some (says.Scale scale)) [] f
scale_right lines scale f early =
    by (open_after lines) (first_of is_event lines) (first_of is_scale lines) early.no_block early.no_event
    early.no_scale where
      by :
          (block : Option OpenBlock) (event same : Option ℕ) → block ≡ None → event ≡ None → same ≡ None
          → ¬ IsWrong (record (before_of lines) { block = block; event = event; scale = same })
          (Some (says.Scale scale)) [] f
      by None None None outside free new wrong = wrong
      by (Some block) event same outside free new wrong = absurd cc
      by None (Some event) same outside free new wrong = absurd cc
      by None None (Some same) outside free new wrong = absurd cc

-- nor is a rule behind the first two
rule_right :
    (n m : ℕ) (p : ParamsState) (seed : ℕ) (rule : Refill) (f : LineFault)
    → ¬ IsWrong (before_of (stated_two n m p seed)) (Some (says.Refill rule)) [] f
unfolding open_from stated_two stated_first stated_second
rule_right n m p seed rule f nothing = nothing

-- with a rule they are still early
early_rule :
    (lines : List Stated) (n : ℕ) (rule : Refill) → AreEarly lines
    → AreEarly (lines ++ record { number = n; says = Some (says.Refill rule) } ∷ [])
early_rule lines n rule early =
    let line : Stated = record { number = n; says = Some (says.Refill rule) } in
    record {
      no_event = sym (first_next is_event lines line) ∙ early.no_event;
      no_scale = sym (first_next is_scale lines line) ∙ early.no_scale;
      no_block =
          sym (open_more None lines line)
          ∙ ap (λ (o : Option OpenBlock). open_next o n (Some (says.Refill rule))) early.no_block;
    }

-- a line that says this asks for no line to run, and no random words
record AsksNothing (x : Statement) : Type 0 where
  plain : IsPlain (Some x)
  run : (stream : Stream) (own : ℕ × List ℕ) → to_run stream ((own, Some x) ∷ []) ≡ []
  drawn : (stream : Stream) (own : ℕ × List ℕ) → left_after stream ((own, Some x) ∷ []) ≡ stream

rule_asks : (rule : Refill) → AsksNothing (says.Refill rule)
unfolding to_run left_after
rule_asks rule = record { plain = tt; run = λ stream own. refl; drawn = λ stream own. refl }

scale_asks : (scale : Scale) → AsksNothing (says.Scale scale)
unfolding to_run left_after
scale_asks scale = record { plain = tt; run = λ stream own. refl; drawn = λ stream own. refl }

-- the lines to run with one setting more
run_setting :
    (kept : List (ℕ × List ℕ)) (p : ParamsState) (seed : ℕ) (next : List ℕ) (behind : Stream) (n : ℕ) (text : List ℕ)
    (x : Statement) → IsTold kept p seed next behind → statement_of text ≡ Some x → AsksNothing x
    → to_run (seeded seed) (told (kept ++ (n, text) ∷ [])) ≡ to_run (seeded seed) (told kept)
run_setting kept p seed next behind n text x before said asks =
    ap (to_run (seeded seed)) (told_more kept n text x said)
    ∙ run_more (seeded seed) (told kept) (((n, text), Some x) ∷ []) before.plain_told
    ∙ ap (λ ls. to_run (seeded seed) (told kept) ++ ls)
    (asks.run (left_after (seeded seed) (told kept)) (n, text))
    ∙ append-nil (to_run (seeded seed) (told kept))

told_setting :
    (kept : List (ℕ × List ℕ)) (p q : ParamsState) (seed : ℕ) (next : List ℕ) (behind : Stream) (n : ℕ)
    (text : List ℕ) (x : Statement) → IsTold kept p seed next behind → statement_of text ≡ Some x → AsksNothing x
    → ((f : LineFault) → ¬ IsWrong (before_of (map stated_at kept)) (Some x) [] f)
    → AreSettings (map stated_at kept ++ record { number = n; says = Some x } ∷ []) q seed
    → IsTold (kept ++ (n, text) ∷ []) q seed next behind
told_setting kept p q seed next behind n text x before said asks right set =
    let new : Stated = record { number = n; says = Some x } in
    let stated = stated_more kept n text x said in
    let told_as = told_more kept n text x said in
    record {
      plain_stated =
          subst (ArePlain (λ line. line.says)) (sym stated)
          (plain_more (λ line. line.says) (map stated_at kept) new before.plain_stated asks.plain);
      plain_told =
          subst (ArePlain (λ line. line.1)) (sym told_as)
          (plain_more (λ line. line.1) (told kept) ((n, text), Some x) before.plain_told asks.plain);
      faultless =
          subst AreFaultless (sym stated)
          (faultless_more [] (map stated_at kept) new before.plain_stated before.faultless right);
      settings = subst (λ ls. AreSettings ls q seed) (sym stated) set;
      no_block = ap drivers_for (run_setting kept p seed next behind n text x before said asks) ∙ before.no_block;
      drawn =
          ap (λ ls. outputs words_per_event (left_after (seeded seed) ls)) told_as
          ∙ ap (outputs words_per_event)
          (left_more (seeded seed) (told kept) (((n, text), Some x) ∷ []) before.plain_told
          ∙ asks.drawn (left_after (seeded seed) (told kept)) (n, text))
          ∙ before.drawn;
    }

-- ---- the script so far

-- what a script keeps of a text that asks for no line to run
record IsBegun (text : List ℕ) (p : ParamsState) (seed : ℕ) (next : List ℕ) (behind : Stream) : Type 0 where
  script : IsScript text p seed next behind
  no_line : lines_of seed text ≡ []

setting_begun :
    (text line : List ℕ) (p q : ParamsState) (seed : ℕ) (next : List ℕ) (behind : Stream) (x : Statement)
    → IsBegun text p seed next behind → Says line x → AsksNothing x
    → ((f : LineFault) → ¬ IsWrong (before_of (map stated_at (kept_lines text))) (Some x) [] f)
    → AreSettings (map stated_at (kept_lines text) ++ record { number = 1 + length (lines text); says = Some x } ∷ [])
    q seed
    → IsBegun (text ++ ended line) q seed next behind
unfolding lines_of
setting_begun text line p q seed next behind x before it asks right set =
    let n = 1 + length (lines text) in
    let script = before.script in
    let kept = kept_last text line script.ends it.clean it.kept in
    record {
      script = record {
        ends = ends_line text line;
        said =
            subst (λ ls. IsTold ls q seed next behind) (sym kept)
            (told_setting (kept_lines text) p q seed next behind n line x script.said it.says asks right set);
      };
      no_line =
          ap (λ ls. to_run (seeded seed) (told ls)) kept
          ∙ run_setting (kept_lines text) p seed next behind n line x script.said it.says asks
          ∙ before.no_line;
    }

two_begun :
    (heading : List ℕ) (p : ParamsState) (seed : ℕ) (next : List ℕ) (left : Stream) → AreWithinLimits p
    → seed < 2 ^ 64 → AreOutputs (seeded seed) next left → length next ≡ words_per_event
    → IsBegun (up_to_seed heading p seed) (usual p) seed next left
unfolding lines_of
two_begun heading p seed next left within fits drawn_then count =
    let kept = seed_kept heading p seed within fits in
    record {
      script = record {
        ends = ends_seed heading p seed;
        said =
            subst (λ ls. IsTold ls (usual p) seed next left) (sym kept)
            (two_told _ _ p seed next left within fits drawn_then count);
      };
      no_line =
          ap (λ ls. to_run (seeded seed) (told ls)) kept
          ∙ ap (to_run (seeded seed)) (are_told _ _ p seed within fits)
          ∙ none_run (seeded seed) _ _ p seed;
    }

-- and the rule behind it, if it is not the profile's
rule_begun :
    (text : List ℕ) (p : ParamsState) (seed : ℕ) (next : List ℕ) (behind : Stream) (rule : Refill)
    → IsBegun text (usual p) seed next behind
    → ((f : LineFault) → ¬ IsWrong (before_of (map stated_at (kept_lines text))) (Some (says.Refill rule)) [] f)
    → IsBegun (text ++ rule_text rule) (record p { refill = rule; scale = Profile }) seed next behind
unfolding rule_text usual
rule_begun text p seed next behind Never before right =
    subst (λ t. IsBegun t (usual p) seed next behind) (sym (append-nil text)) before
rule_begun text p seed next behind Alone before right =
    setting_begun text (refill_line Alone) (usual p) (record p { refill = Alone; scale = Profile }) seed next behind
    (says.Refill Alone) before (refill_said Alone) (rule_asks Alone) right
    (settings_rule (map stated_at (kept_lines text)) (1 + length (lines text)) (usual p) seed Alone
    before.script.said.settings)
rule_begun text p seed next behind Always before right =
    setting_begun text (refill_line Always) (usual p) (record p { refill = Always; scale = Profile }) seed next behind
    (says.Refill Always) before (refill_said Always) (rule_asks Always) right
    (settings_rule (map stated_at (kept_lines text)) (1 + length (lines text)) (usual p) seed Always
    before.script.said.settings)

early_line :
    (text : List ℕ) (rule : Refill) → EndsLine text → AreEarly (map stated_at (kept_lines text))
    → AreEarly (map stated_at (kept_lines (text ++ ended (refill_line rule))))
early_line text rule ends early =
    let it = refill_said rule in
    let n = 1 + length (lines text) in
    subst AreEarly
    (sym (ap (map stated_at) (kept_last text (refill_line rule) ends it.clean it.kept)
    ∙ stated_more (kept_lines text) n (refill_line rule) (says.Refill rule) it.says))
    (early_rule (map stated_at (kept_lines text)) n rule early)

early_ruled :
    (text : List ℕ) (rule : Refill) → EndsLine text → AreEarly (map stated_at (kept_lines text))
    → AreEarly (map stated_at (kept_lines (text ++ rule_text rule)))
unfolding rule_text
early_ruled text Never ends early =
    subst (λ t. AreEarly (map stated_at (kept_lines t))) (sym (append-nil text)) early
early_ruled text Alone ends early = early_line text Alone ends early
early_ruled text Always ends early = early_line text Always ends early

-- and the scale behind that, if it is not the profile's
scale_begun :
    (text : List ℕ) (p : ParamsState) (seed : ℕ) (next : List ℕ) (behind : Stream) (scale : Scale)
    → IsBegun text (record p { scale = Profile }) seed next behind → AreEarly (map stated_at (kept_lines text))
    → IsBegun (text ++ scale_text scale) (record p { scale = scale }) seed next behind
unfolding scale_text
scale_begun text p seed next behind Profile before early =
    subst (λ t. IsBegun t (record p { scale = Profile }) seed next behind) (sym (append-nil text)) before
scale_begun text p seed next behind Large before early =
    let so_far = map stated_at (kept_lines text) in
    setting_begun text (scale_line Large) (record p { scale = Profile }) (record p { scale = Large }) seed next behind
    (says.Scale Large) before (scale_said Large) (scale_asks Large) (λ f. scale_right so_far Large f early)
    (settings_scale so_far (1 + length (lines text)) (record p { scale = Profile }) seed Large
    before.script.said.settings)

begun :
    (heading : List ℕ) (p : ParamsState) (seed : ℕ) (next : List ℕ) (left : Stream) → AreWithinLimits p
    → seed < 2 ^ 64 → AreOutputs (seeded seed) next left → length next ≡ words_per_event
    → IsBegun (opening heading p seed) p seed next left
unfolding up_to_rule
begun heading p seed next left within fits drawn_then count =
    let first = up_to_seed heading p seed in
    let two = ap (map stated_at) (seed_kept heading p seed within fits) ∙ are_stated _ _ p seed within fits in
    subst (λ t. IsBegun t p seed next left) (sym (opening_joined heading p seed))
    (scale_begun (first ++ rule_text p.refill) p seed next left p.scale
    (rule_begun first p seed next left p.refill (two_begun heading p seed next left within fits drawn_then count)
    (subst (λ ls. (f : LineFault) → ¬ IsWrong (before_of ls) (Some (says.Refill p.refill)) [] f) (sym two)
    (λ f. rule_right _ _ p seed p.refill f)))
    (early_ruled first p.refill (ends_seed heading p seed) (subst AreEarly (sym two) (early_two _ _ p seed))))

-- ---- the script

pub script_opened :
    (heading text : List ℕ) (p : ParamsState) (seed : ℕ) (next : List ℕ) (left : Stream) → AreWithinLimits p
    → seed < 2 ^ 64 → text ≡ opening heading p seed → AreOutputs (seeded seed) next left
    → length next ≡ words_per_event
    → IsScript text p seed next left
script_opened heading text p seed next left within fits is drawn_then count =
    subst (λ t. IsScript t p seed next left) (sym is)
    (begun heading p seed next left within fits drawn_then count).script

pub none_opened :
    (heading text : List ℕ) (p : ParamsState) (seed : ℕ) → AreWithinLimits p → seed < 2 ^ 64
    → text ≡ opening heading p seed
    → lines_of seed text ≡ []
none_opened heading text p seed within fits is =
    let drawn = outputs words_per_event (seeded seed) in
    ap (lines_of seed) is
    ∙ (begun heading p seed drawn.0 drawn.1 within fits (are_outputs words_per_event (seeded seed))
    (count_outputs words_per_event (seeded seed))).no_line
