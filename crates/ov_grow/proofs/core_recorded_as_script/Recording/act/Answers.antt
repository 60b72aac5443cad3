-- The core is that of the script with the line of the act.
use Rattle.std.proofs.Common.{List, ℕ, subst}
use Rattle.ov_net.specs.declared.event.Event.{Event}
use Rattle.ov_scenario.specs.declared.scenario.Line.TheVariants as line
use Rattle.ov_snap.specs.Run.{Happened}
use Rattle.ov_script.specs.Acts.{event_of}
use Rattle.ov_grow.proofs.MakingCores.{made_more, made_room}
use Rattle.ov_grow.proofs.core_recorded_as_script.Recording.act.Goals as goal

pub invariant_of-self-2 : goal.invariant_of-self-2
invariant_of-self-2 c =
    let core = c.self.inside.core in
    let script = c.make_room.new.script in
    let event = event_of c.args.act in
    let (entry, happens) = c.in_ok-take_event.ensures.happened in
    let made = made_room c.self.inside.script script core c.make_room.ensures.same c.self.invariant in
    let step = subst (λ (e : Event). Happened core e c.next_words.result.now entry c.take_event.new.self)
    c.event-event.ensures happens in
    let happened = subst (λ (words : List ℕ). Happened core event words entry c.take_event.new.self)
    c.next_words.ensures
    step in
    made_more script c.push.new.self core c.take_event.new.self (line.Event event script.next) made c.push.ensures.lines
    c.push.ensures.params
    (entry, happened)
