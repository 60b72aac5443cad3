-- An act is one event more.
use Rattle.std.proofs.Common.{◌∙◌, ap, ◌++◌, ◌∷◌, []}
use Rattle.ov_scenario.specs.declared.scenario.Line.TheVariants as line
use Rattle.ov_script.specs.Acts.{act_line, event_of}
use Rattle.ov_script.specs.WrittenLines.{ended}
use Rattle.ov_script.specs.declared.line_to_write.KeptLine.TheVariants as keeps
use Rattle.ov_script.proofs.KeepingLines.{text_more}
use Rattle.ov_script.proofs.KeepingText.{act_kept, act_runs}
use Rattle.ov_script.proofs.scenario_written_line_by_line.Script.push.Goals as goal

pub invariant_of-self : goal.invariant_of-self
invariant_of-self c =
    let s = c.self.inside in
    let drawn = c.refill in
    act_kept _ _ s.params s.seed s.next drawn.new.self _ _ c.args.act c.self.invariant c.short_numbers.ensures
    (text_more s.heading s.params s.seed s.lines.items c.push_reserved.new.self.items (keeps.Act c.args.act)
    c.push_reserved.ensures.items)
    drawn.ensures.outputs drawn.ensures.count

pub returns-clause-text : goal.returns-clause-text
returns-clause-text c =
    let s = c.self.inside in
    text_more s.heading s.params s.seed s.lines.items c.push_reserved.new.self.items (keeps.Act c.args.act)
    c.push_reserved.ensures.items
    ∙ ap (λ v. v.text ++ ended (act_line c.args.act)) c.self.view_is

pub returns-clause-lines : goal.returns-clause-lines
returns-clause-lines c =
    let s = c.self.inside in
    act_runs _ _ s.params s.seed s.next _ c.args.act c.self.invariant c.short_numbers.ensures
    (text_more s.heading s.params s.seed s.lines.items c.push_reserved.new.self.items (keeps.Act c.args.act)
    c.push_reserved.ensures.items)
    ∙ ap (λ v. v.lines ++ line.Event (event_of c.args.act) v.next ∷ []) c.self.view_is
