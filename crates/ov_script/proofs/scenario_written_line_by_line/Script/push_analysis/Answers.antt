-- An analysis is one line to run more.
use Rattle.std.proofs.Common.{◌∙◌, ◌<◌, ap, ◌++◌, ◌∷◌, [], None, arith}
use Rattle.ov_ids.specs.Limits.{number_limit}
use Rattle.ov_scenario.specs.declared.scenario.Line.TheVariants as line
use Rattle.ov_script.specs.WrittenLines.{analysis_line, ended}
use Rattle.ov_script.specs.declared.line_to_write.KeptLine.TheVariants as keeps
use Rattle.ov_script.proofs.KeepingLines.{text_more}
use Rattle.ov_script.proofs.KeepingText.{analysis_kept, analysis_runs}
use Rattle.ov_script.proofs.scenario_written_line_by_line.Script.push_analysis.Goals as goal

pub invariant_of-self : goal.invariant_of-self
invariant_of-self c =
    let s = c.self.inside in
    let low : c.args.moment < number_limit = omega (arith, c.ranges.moment.fits) in
    analysis_kept _ _ s.params s.seed s.next _ c.args.moment c.self.invariant low
    (text_more s.heading s.params s.seed s.lines.items c.push_reserved.new.self.items (keeps.Analysis c.args.moment)
    c.push_reserved.ensures.items)

pub returns-clause-text : goal.returns-clause-text
returns-clause-text c =
    let s = c.self.inside in
    text_more s.heading s.params s.seed s.lines.items c.push_reserved.new.self.items (keeps.Analysis c.args.moment)
    c.push_reserved.ensures.items
    ∙ ap (λ v. v.text ++ ended (analysis_line c.args.moment)) c.self.view_is

pub returns-clause-lines : goal.returns-clause-lines
returns-clause-lines c =
    let s = c.self.inside in
    let low : c.args.moment < number_limit = omega (arith, c.ranges.moment.fits) in
    analysis_runs _ _ s.params s.seed s.next _ c.args.moment c.self.invariant low
    (text_more s.heading s.params s.seed s.lines.items c.push_reserved.new.self.items (keeps.Analysis c.args.moment)
    c.push_reserved.ensures.items)
    ∙ ap (λ v. v.lines ++ line.Analyse (record { moment = c.args.moment; group = None }) 1 ∷ []) c.self.view_is
