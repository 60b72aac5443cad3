-- What each line asks for.
use Rattle.std.proofs.Common.{rules, ◌≡◌, Some, None, sym, subst}
use Rattle.ov_scenario.specs.Statements.{workers_or_one}
use Rattle.ov_scenario.specs.Code.RunnableLines.{stream_now, AreEventWords, TakesLine}
use Rattle.ov_scenario.specs.declared.statement.Statement.TheVariants as says
use Rattle.ov_scenario.specs.declared.scenario.Line.TheVariants as line
use Rattle.ov_scenario.proofs.Scenarios.Asked.{asks_nothing, asks_words, asks_look, asks_analysis, asks_event}
use Rattle.ov_scenario.proofs.lines_to_run.line_of.Goals as goal

pub returns-in-Ok-Event : goal.returns-in-Ok-Event
returns-in-Ok-Event c =
    let event = c.in-Ok-Event.event in
    let given = c.args.given.now in
    let words = c.event_words-words.result in
    let before = stream_now c.args.draws.now in
    let after = stream_now c.event_words-words.new.self in
    let is : c.args.stated.says ≡ Some (says.Event event) = search rules in
    let drawn : AreEventWords before given words after =
    subst (λ g. AreEventWords before g words after) c.take-waiting.ensures.value c.event_words-words.ensures in
    let asks = subst (λ s. TakesLine before given s (Some (line.Event event words)) after None) (sym is)
    (asks_event before after given None words event drawn) in
    rw c.in-Ok-Event.event-is asks

pub returns-in-Ok-Look : goal.returns-in-Ok-Look
returns-in-Ok-Look c =
    let look = c.in-Ok-Look.look in
    let given = c.args.given.now in
    let before = stream_now c.args.draws.now in
    let is : c.args.stated.says ≡ Some (says.Look look) = search rules in
    let asks = subst (λ s. TakesLine before given s (Some (line.Look look)) before None) (sym is)
    (asks_look before given None look) in
    rw c.in-Ok-Look.look-is asks

pub returns-in-Ok-Analyse : goal.returns-in-Ok-Analyse
returns-in-Ok-Analyse c =
    let subject = c.in-Ok-Analyse.subject in
    let workers = c.in-Ok-Analyse.workers in
    let given = c.args.given.now in
    let before = stream_now c.args.draws.now in
    let is : c.args.stated.says ≡ Some (says.Analyse subject workers) = search rules in
    let asks = subst
    (λ s. TakesLine before given s (Some (line.Analyse subject (workers_or_one workers))) before None) (sym is)
    (asks_analysis before given None subject workers) in
    rw (c.workers_or_one-workers.ensures) (rw (c.in-Ok-Analyse.subject-is, c.in-Ok-Analyse.workers-is) asks)

pub returns-in-Ok-Words : goal.returns-in-Ok-Words
returns-in-Ok-Words c =
    let words = c.in-Ok-Words.words in
    let given = c.args.given.now in
    let before = stream_now c.args.draws.now in
    let is : c.args.stated.says ≡ Some (says.Words words) = search rules in
    let asks =
    subst (λ s. TakesLine before given s None before (Some words)) (sym is) (asks_words before given words) in
    rw c.in-Ok-Words.words-is asks

pub returns-in-Ok-Params : goal.returns-in-Ok-Params
returns-in-Ok-Params c =
    let nothing = Some (says.Params c.in-Ok-Params.field-0-0) in
    asks_nothing (stream_now c.args.draws.now) c.args.given.now c.take-waiting.new.self c.args.stated.says nothing
    (search rules) tt c.take-waiting.ensures.after

pub returns-in-Ok-Seed : goal.returns-in-Ok-Seed
returns-in-Ok-Seed c =
    let nothing = Some (says.Seed c.in-Ok-Seed.field-0-0) in
    asks_nothing (stream_now c.args.draws.now) c.args.given.now c.take-waiting.new.self c.args.stated.says nothing
    (search rules) tt c.take-waiting.ensures.after

pub returns-in-Ok-Refill : goal.returns-in-Ok-Refill
returns-in-Ok-Refill c =
    let nothing = Some (says.Refill c.in-Ok-Refill.field-0-0) in
    asks_nothing (stream_now c.args.draws.now) c.args.given.now c.take-waiting.new.self c.args.stated.says nothing
    (search rules) tt c.take-waiting.ensures.after

pub returns-in-Ok-Scale : goal.returns-in-Ok-Scale
returns-in-Ok-Scale c =
    let nothing = Some (says.Scale c.in-Ok-Scale.field-0-0) in
    asks_nothing (stream_now c.args.draws.now) c.args.given.now c.take-waiting.new.self c.args.stated.says nothing
    (search rules) tt c.take-waiting.ensures.after

pub returns-in-Ok-Also : goal.returns-in-Ok-Also
returns-in-Ok-Also c =
    asks_nothing (stream_now c.args.draws.now) c.args.given.now c.take-waiting.new.self c.args.stated.says
    (Some says.Also) (search rules) tt c.take-waiting.ensures.after

pub returns-in-Ok-End : goal.returns-in-Ok-End
returns-in-Ok-End c =
    asks_nothing (stream_now c.args.draws.now) c.args.given.now c.take-waiting.new.self c.args.stated.says
    (Some says.End) (search rules) tt c.take-waiting.ensures.after

pub returns-in-Err : goal.returns-in-Err
returns-in-Err c =
    asks_nothing (stream_now c.args.draws.now) c.args.given.now c.take-waiting.new.self c.args.stated.says None
    (search rules) tt c.take-waiting.ensures.after
