-- What each line of a block is for.
use Rattle.std.proofs.Common.{rules, ◌≡◌, Some, None, sym, subst}
use Rattle.ov_scenario.specs.Code.RunnableLines.{stream_now, AreEventWords, TakesPart}
use Rattle.ov_scenario.specs.declared.block_reading.Part.TheVariants as part
use Rattle.ov_scenario.specs.declared.line_of_section.Deed.TheVariants as deed
use Rattle.ov_scenario.specs.declared.statement.Statement.TheVariants as says
use Rattle.ov_scenario.proofs.Scenarios.InBlock.{does_nothing, gives_words, begins_section, ends_block, analyses}
use Rattle.ov_scenario.proofs.Scenarios.InBlock.{happens}
use Rattle.ov_scenario.proofs.block_reading.part_of.Goals as goal

pub returns-in-Ok-Event : goal.returns-in-Ok-Event
returns-in-Ok-Event c =
    let event = c.in-Ok-Event.event in
    let given = c.args.given.now in
    let words = c.event_words-words.result in
    let before = stream_now c.args.draws.now in
    let after = stream_now c.event_words-words.new.self in
    let is : c.args.stated.says ≡ Some (says.Event event) = search rules in
    let drawn : AreEventWords before given words after =
    subst (λ g. AreEventWords before g words after) c.take-waiting.ensures.value c.event_words-words.ensures in
    let left = c.take-waiting.new.self in
    let takes = subst (λ s. TakesPart before given s (part.Deed (deed.Event event words)) after left) (sym is)
    (subst (λ g. TakesPart before given (Some (says.Event event)) (part.Deed (deed.Event event words)) after g)
    (sym c.take-waiting.ensures.after) (happens before after given words event drawn)) in
    rw c.in-Ok-Event.event-is takes

pub returns-in-Ok-Analyse : goal.returns-in-Ok-Analyse
returns-in-Ok-Analyse c =
    let subject = c.in-Ok-Analyse.subject in
    let workers = c.in-Ok-Analyse.field-0-1 in
    let given = c.args.given.now in
    let before = stream_now c.args.draws.now in
    let is : c.args.stated.says ≡ Some (says.Analyse subject workers) = search rules in
    let left = c.take-waiting.new.self in
    let takes = subst (λ s. TakesPart before given s (part.Deed (deed.Analyse subject.moment)) before left) (sym is)
    (subst (λ g. TakesPart before given (Some (says.Analyse subject workers)) (part.Deed (deed.Analyse subject.moment))
    before g) (sym c.take-waiting.ensures.after) (analyses before given subject workers)) in
    rw c.in-Ok-Analyse.subject-is takes

pub returns-in-Ok-Words : goal.returns-in-Ok-Words
returns-in-Ok-Words c =
    let words = c.in-Ok-Words.words in
    let given = c.args.given.now in
    let before = stream_now c.args.draws.now in
    let is : c.args.stated.says ≡ Some (says.Words words) = search rules in
    let takes =
    subst (λ s. TakesPart before given s part.Nothing before (Some words)) (sym is) (gives_words before given words) in
    rw c.in-Ok-Words.words-is takes

pub returns-in-Ok-Also : goal.returns-in-Ok-Also
returns-in-Ok-Also c =
    let given = c.args.given.now in
    let before = stream_now c.args.draws.now in
    let is : c.args.stated.says ≡ Some says.Also = search rules in
    let takes = subst (λ s. TakesPart before given s part.Section before None) (sym is) (begins_section before given) in
    subst (λ g. TakesPart before given c.args.stated.says part.Section before g) (sym c.take-waiting.ensures.after)
    takes

pub returns-in-Ok-End : goal.returns-in-Ok-End
returns-in-Ok-End c =
    let given = c.args.given.now in
    let before = stream_now c.args.draws.now in
    let after = c.take-waiting.new.self in
    let is : c.args.stated.says ≡ Some says.End = search rules in
    subst (λ s. TakesPart before given s part.End before after) (sym is) (ends_block before given after)

pub returns-in-Ok-Params : goal.returns-in-Ok-Params
returns-in-Ok-Params c =
    let nothing = Some (says.Params c.in-Ok-Params.field-0-0) in
    does_nothing (stream_now c.args.draws.now) c.args.given.now c.take-waiting.new.self c.args.stated.says nothing
    (search rules) tt c.take-waiting.ensures.after

pub returns-in-Ok-Seed : goal.returns-in-Ok-Seed
returns-in-Ok-Seed c =
    let nothing = Some (says.Seed c.in-Ok-Seed.field-0-0) in
    does_nothing (stream_now c.args.draws.now) c.args.given.now c.take-waiting.new.self c.args.stated.says nothing
    (search rules) tt c.take-waiting.ensures.after

pub returns-in-Ok-Refill : goal.returns-in-Ok-Refill
returns-in-Ok-Refill c =
    let nothing = Some (says.Refill c.in-Ok-Refill.field-0-0) in
    does_nothing (stream_now c.args.draws.now) c.args.given.now c.take-waiting.new.self c.args.stated.says nothing
    (search rules) tt c.take-waiting.ensures.after

pub returns-in-Ok-Scale : goal.returns-in-Ok-Scale
returns-in-Ok-Scale c =
    let nothing = Some (says.Scale c.in-Ok-Scale.field-0-0) in
    does_nothing (stream_now c.args.draws.now) c.args.given.now c.take-waiting.new.self c.args.stated.says nothing
    (search rules) tt c.take-waiting.ensures.after

pub returns-in-Ok-Look : goal.returns-in-Ok-Look
returns-in-Ok-Look c =
    let nothing = Some (says.Look c.in-Ok-Look.field-0-0) in
    does_nothing (stream_now c.args.draws.now) c.args.given.now c.take-waiting.new.self c.args.stated.says nothing
    (search rules) tt c.take-waiting.ensures.after

pub returns-in-Ok-Together : goal.returns-in-Ok-Together
returns-in-Ok-Together c =
    does_nothing (stream_now c.args.draws.now) c.args.given.now c.take-waiting.new.self c.args.stated.says
    (Some says.Together) (search rules) tt c.take-waiting.ensures.after

pub returns : goal.returns
returns c =
    does_nothing (stream_now c.args.draws.now) c.args.given.now c.take-waiting.new.self c.args.stated.says None
    (search rules) tt c.take-waiting.ensures.after
