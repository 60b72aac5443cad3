-- What a script keeps of its text, with one line more.
use Rattle.std.proofs.Common.{◌≡◌, ◌∙◌, ◌<◌, ◌+◌, ℕ, List, [], ◌∷◌, ◌++◌, length, map, Some, None, refl, ap, sym}
use Rattle.std.proofs.Common.{subst}
use Rattle.std.proofs.lemmas.List.{map-append}
use Rattle.rand_core.specs.Stream.{Stream}
use Rattle.ov_ids.specs.Limits.{number_limit}
use Rattle.ov_ids.specs.ParamsState.{ParamsState}
use Rattle.ov_words.specs.Stream.{AreOutputs, words_per_event}
use Rattle.ov_net.specs.declared.event.Event.{Event}
use Rattle.ov_lines.specs.Lines.{kept_lines}
use Rattle.std.specs.Str.Lines.{lines}
use Rattle.ov_scenario.specs.Draws.{seeded}
use Rattle.ov_scenario.specs.RunLines.{drivers_for, lines_that_run}
use Rattle.ov_scenario.specs.Scenarios.{AreFaultless, IsScenario, stated_at, stated_lines}
use Rattle.ov_scenario.specs.Statements.{Stated, statement_of, told}
use Rattle.ov_scenario.specs.Code.RunnableLines.{outputs, to_run}
use Rattle.ov_scenario.specs.declared.scenario.Line.{Line}
use Rattle.ov_scenario.specs.declared.scenario.Line.TheVariants as line
use Rattle.ov_scenario.specs.declared.statement.Statement.{Statement}
use Rattle.ov_scenario.specs.declared.statement.Statement.TheVariants as says
use Rattle.ov_scenario.proofs.Scenarios.Asked.{are_to_run}
use Rattle.ov_scenario.proofs.Scenarios.Outputs.{outputs_drawn}
use Rattle.ov_script.specs.Acts.{act_line, event_of}
use Rattle.ov_script.specs.WrittenLines.{analysis_line, comment_line, ended}
use Rattle.ov_script.specs.Code.Kept.{ArePlain, AreSettings, EndsLine, IsScript, IsTold, left_after, lines_of}
use Rattle.ov_script.specs.Code.Writing.{IsShort}
use Rattle.ov_script.specs.declared.recordable_event.Act.{Act}
use Rattle.ov_script.proofs.OneLine.{comment_clean, comment_skipped, ends_line, kept_last, kept_skipped}
use Rattle.ov_script.proofs.Statements.{act_said, analysis_said}
use Rattle.ov_script.proofs.TellingLines.{analysis_right, drivers_more, event_right, faultless_more, left_more}
use Rattle.ov_script.proofs.TellingLines.{plain_more, run_more, settings_more}

-- ---- the lines that are not skipped

-- a line that says this, as it is stated and told
pub stated_more :
    (kept : List (ℕ × List ℕ)) (n : ℕ) (text : List ℕ) (x : Statement) → statement_of text ≡ Some x
    → map stated_at (kept ++ (n, text) ∷ []) ≡ map stated_at kept ++ record { number = n; says = Some x } ∷ []
stated_more kept n text x said =
    map-append stated_at kept ((n, text) ∷ [])
    ∙ ap (λ o. map stated_at kept ++ record { number = n; says = o } ∷ []) said

pub told_more :
    (kept : List (ℕ × List ℕ)) (n : ℕ) (text : List ℕ) (x : Statement) → statement_of text ≡ Some x
    → told (kept ++ (n, text) ∷ []) ≡ told kept ++ ((n, text), Some x) ∷ []
told_more kept n text x said =
    map-append (λ line. (line, statement_of line.1)) kept ((n, text) ∷ [])
    ∙ ap (λ o. told kept ++ ((n, text), o) ∷ []) said

-- the lines to run with one event more
run_event :
    (kept : List (ℕ × List ℕ)) (p : ParamsState) (seed : ℕ) (next : List ℕ) (behind : Stream) (n : ℕ) (text : List ℕ)
    (event : Event) → IsTold kept p seed next behind → statement_of text ≡ Some (says.Event event)
    → to_run (seeded seed) (told (kept ++ (n, text) ∷ []))
    ≡ to_run (seeded seed) (told kept) ++ line.Event event next ∷ []
unfolding to_run
run_event kept p seed next behind n text event before said =
    ap (to_run (seeded seed)) (told_more kept n text (says.Event event) said)
    ∙ run_more (seeded seed) (told kept) (((n, text), Some (says.Event event)) ∷ []) before.plain_told
    ∙ ap (λ o. to_run (seeded seed) (told kept) ++ line.Event event o.0 ∷ []) before.drawn

-- and with one analysis more
run_analysis :
    (kept : List (ℕ × List ℕ)) (p : ParamsState) (seed : ℕ) (next : List ℕ) (behind : Stream) (n : ℕ) (text : List ℕ)
    (moment : ℕ) → IsTold kept p seed next behind
    → statement_of text ≡ Some (says.Analyse (record { moment = moment; group = None }) None)
    → to_run (seeded seed) (told (kept ++ (n, text) ∷ []))
    ≡ to_run (seeded seed) (told kept) ++ line.Analyse (record { moment = moment; group = None }) 1 ∷ []
unfolding to_run
run_analysis kept p seed next behind n text moment before said =
    let x : Statement = says.Analyse (record { moment = moment; group = None }) None in
    ap (to_run (seeded seed)) (told_more kept n text x said)
    ∙ run_more (seeded seed) (told kept) (((n, text), Some x) ∷ []) before.plain_told

-- one event more
told_event :
    (kept : List (ℕ × List ℕ)) (p : ParamsState) (seed : ℕ) (next later : List ℕ) (behind left : Stream) (n : ℕ)
    (text : List ℕ) (event : Event) → IsTold kept p seed next behind → statement_of text ≡ Some (says.Event event)
    → AreOutputs behind later left → length later ≡ words_per_event
    → IsTold (kept ++ (n, text) ∷ []) p seed later left
unfolding left_after drivers_for
told_event kept p seed next later behind left n text event before said drawn_then count =
    let x : Statement = says.Event event in
    let new : Stated = record { number = n; says = Some x } in
    let stated = stated_more kept n text x said in
    let told_as = told_more kept n text x said in
    record {
      plain_stated =
          subst (ArePlain (λ line. line.says)) (sym stated)
          (plain_more (λ line. line.says) (map stated_at kept) new before.plain_stated tt);
      plain_told =
          subst (ArePlain (λ line. line.1)) (sym told_as)
          (plain_more (λ line. line.1) (told kept) ((n, text), Some x) before.plain_told tt);
      faultless =
          subst AreFaultless (sym stated)
          (faultless_more [] (map stated_at kept) new before.plain_stated before.faultless
          (event_right _ event []));
      settings =
          subst (λ ls. AreSettings ls p seed) (sym stated)
          (settings_more (map stated_at kept) new p seed before.settings tt);
      no_block =
          ap drivers_for (run_event kept p seed next behind n text event before said)
          ∙ drivers_more (to_run (seeded seed) (told kept)) (line.Event event next ∷ []) refl
          ∙ before.no_block;
      drawn =
          ap (λ ls. outputs words_per_event (left_after (seeded seed) ls)) told_as
          ∙ ap (outputs words_per_event)
          (left_more (seeded seed) (told kept) (((n, text), Some x) ∷ []) before.plain_told)
          ∙ ap (λ o. outputs words_per_event o.1) before.drawn
          ∙ outputs_drawn behind left later count drawn_then;
    }

-- one analysis more
told_analysis :
    (kept : List (ℕ × List ℕ)) (p : ParamsState) (seed : ℕ) (next : List ℕ) (behind : Stream) (n : ℕ) (text : List ℕ)
    (moment : ℕ) → IsTold kept p seed next behind
    → statement_of text ≡ Some (says.Analyse (record { moment = moment; group = None }) None)
    → IsTold (kept ++ (n, text) ∷ []) p seed next behind
unfolding left_after drivers_for
told_analysis kept p seed next behind n text moment before said =
    let x : Statement = says.Analyse (record { moment = moment; group = None }) None in
    let new : Stated = record { number = n; says = Some x } in
    let stated = stated_more kept n text x said in
    let told_as = told_more kept n text x said in
    let ask : Line = line.Analyse (record { moment = moment; group = None }) 1 in
    record {
      plain_stated =
          subst (ArePlain (λ line. line.says)) (sym stated)
          (plain_more (λ line. line.says) (map stated_at kept) new before.plain_stated tt);
      plain_told =
          subst (ArePlain (λ line. line.1)) (sym told_as)
          (plain_more (λ line. line.1) (told kept) ((n, text), Some x) before.plain_told tt);
      faultless =
          subst AreFaultless (sym stated)
          (faultless_more [] (map stated_at kept) new before.plain_stated before.faultless
          (analysis_right _ moment []));
      settings =
          subst (λ ls. AreSettings ls p seed) (sym stated)
          (settings_more (map stated_at kept) new p seed before.settings tt);
      no_block =
          ap drivers_for (run_analysis kept p seed next behind n text moment before said)
          ∙ drivers_more (to_run (seeded seed) (told kept)) (ask ∷ []) refl
          ∙ before.no_block;
      drawn =
          ap (λ ls. outputs words_per_event (left_after (seeded seed) ls)) told_as
          ∙ ap (outputs words_per_event)
          (left_more (seeded seed) (told kept) (((n, text), Some x) ∷ []) before.plain_told)
          ∙ before.drawn;
    }

-- ---- the text

-- the text of a script with the line of an act
act_last :
    (text new : List ℕ) (a : Act) → EndsLine text → IsShort a → new ≡ text ++ ended (act_line a)
    → kept_lines new ≡ kept_lines text ++ (1 + length (lines text), act_line a) ∷ []
act_last text new a ends short is =
    let says_it = act_said a short in
    ap kept_lines is ∙ kept_last text (act_line a) ends says_it.clean says_it.kept

pub act_kept :
    (text new : List ℕ) (p : ParamsState) (seed : ℕ) (next later : List ℕ) (behind left : Stream) (a : Act)
    → IsScript text p seed next behind → IsShort a → new ≡ text ++ ended (act_line a)
    → AreOutputs behind later left → length later ≡ words_per_event
    → IsScript new p seed later left
act_kept text new p seed next later behind left a before short is drawn_then count = record {
  ends = subst EndsLine (sym is) (ends_line text (act_line a));
  said =
      subst (λ kept. IsTold kept p seed later left) (sym (act_last text new a before.ends short is))
      (told_event (kept_lines text) p seed next later behind left (1 + length (lines text)) (act_line a) (event_of a)
      before.said (act_said a short).says drawn_then count);
}

pub act_runs :
    (text new : List ℕ) (p : ParamsState) (seed : ℕ) (next : List ℕ) (behind : Stream) (a : Act)
    → IsScript text p seed next behind → IsShort a → new ≡ text ++ ended (act_line a)
    → lines_of seed new ≡ lines_of seed text ++ line.Event (event_of a) next ∷ []
unfolding lines_of
act_runs text new p seed next behind a before short is =
    ap (λ kept. to_run (seeded seed) (told kept)) (act_last text new a before.ends short is)
    ∙ run_event (kept_lines text) p seed next behind (1 + length (lines text)) (act_line a) (event_of a) before.said
    (act_said a short).says

-- with the line of an analysis
analysis_last :
    (text new : List ℕ) (moment : ℕ) → EndsLine text → moment < number_limit
    → new ≡ text ++ ended (analysis_line moment)
    → kept_lines new ≡ kept_lines text ++ (1 + length (lines text), analysis_line moment) ∷ []
analysis_last text new moment ends low is =
    let says_it = analysis_said moment low in
    ap kept_lines is ∙ kept_last text (analysis_line moment) ends says_it.clean says_it.kept

pub analysis_kept :
    (text new : List ℕ) (p : ParamsState) (seed : ℕ) (next : List ℕ) (behind : Stream) (moment : ℕ)
    → IsScript text p seed next behind → moment < number_limit → new ≡ text ++ ended (analysis_line moment)
    → IsScript new p seed next behind
analysis_kept text new p seed next behind moment before low is = record {
  ends = subst EndsLine (sym is) (ends_line text (analysis_line moment));
  said =
      subst (λ kept. IsTold kept p seed next behind) (sym (analysis_last text new moment before.ends low is))
      (told_analysis (kept_lines text) p seed next behind (1 + length (lines text)) (analysis_line moment) moment
      before.said (analysis_said moment low).says);
}

pub analysis_runs :
    (text new : List ℕ) (p : ParamsState) (seed : ℕ) (next : List ℕ) (behind : Stream) (moment : ℕ)
    → IsScript text p seed next behind → moment < number_limit → new ≡ text ++ ended (analysis_line moment)
    → lines_of seed new ≡ lines_of seed text ++ line.Analyse (record { moment = moment; group = None }) 1 ∷ []
unfolding lines_of
analysis_runs text new p seed next behind moment before low is =
    ap (λ kept. to_run (seeded seed) (told kept)) (analysis_last text new moment before.ends low is)
    ∙ run_analysis (kept_lines text) p seed next behind (1 + length (lines text)) (analysis_line moment) moment
    before.said (analysis_said moment low).says

-- with a comment
comment_none :
    (text new said : List ℕ) → EndsLine text → new ≡ text ++ ended (comment_line said)
    → kept_lines new ≡ kept_lines text
comment_none text new said ends is =
    ap kept_lines is ∙ kept_skipped text (comment_line said) ends (comment_clean said) (comment_skipped said)

pub comment_kept :
    (text new : List ℕ) (p : ParamsState) (seed : ℕ) (next : List ℕ) (behind : Stream) (said : List ℕ)
    → IsScript text p seed next behind → new ≡ text ++ ended (comment_line said)
    → IsScript new p seed next behind
comment_kept text new p seed next behind said before is = record {
  ends = subst EndsLine (sym is) (ends_line text (comment_line said));
  said =
      subst (λ kept. IsTold kept p seed next behind) (sym (comment_none text new said before.ends is)) before.said;
}

pub comment_runs :
    (text new : List ℕ) (p : ParamsState) (seed : ℕ) (next : List ℕ) (behind : Stream) (said : List ℕ)
    → IsScript text p seed next behind → new ≡ text ++ ended (comment_line said)
    → lines_of seed new ≡ lines_of seed text
unfolding lines_of
comment_runs text new p seed next behind said before is =
    ap (λ kept. to_run (seeded seed) (told kept)) (comment_none text new said before.ends is)

-- the text says a scenario
pub script_says :
    (text : List ℕ) (p : ParamsState) (seed : ℕ) (next : List ℕ) (behind : Stream) → IsScript text p seed next behind
    → IsScenario text (record {
      params = p;
      seed = seed;
      drivers = 1;
      lines = record { items = lines_of seed text; file_lines = lines_that_run text };
    })
unfolding lines_of stated_lines
script_says text p seed next behind is = record {
  faultless = is.said.faultless;
  params = is.said.settings.params;
  refill = is.said.settings.refill_said;
  scale = is.said.settings.scale_said;
  seed = is.said.settings.seed_said;
  lines = are_to_run (kept_lines text) seed (lines_of seed text) refl;
  drivers = sym is.said.no_block;
}
