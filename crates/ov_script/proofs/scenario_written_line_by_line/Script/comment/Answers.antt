-- A comment asks for nothing.
use Rattle.std.proofs.Common.{◌≡◌, ◌∙◌, ap, ◌++◌, ◌∷◌, [], rules}
use Rattle.ov_script.specs.WrittenLines.{comment_line, ended}
use Rattle.ov_script.specs.declared.line_to_write.KeptLine.TheVariants as keeps
use Rattle.ov_script.proofs.KeepingLines.{text_more}
use Rattle.ov_script.proofs.KeepingText.{comment_kept, comment_runs}
use Rattle.ov_script.proofs.scenario_written_line_by_line.Script.comment.Goals as goal

pub invariant_of-self-2 : goal.invariant_of-self-2
invariant_of-self-2 c =
    let s = c.self.inside in
    let said = keeps.Comment c.args.said.now in
    let added : c.push_reserved.new.self.items ≡ s.lines.items ++ said ∷ [] = search rules in
    comment_kept _ _ s.params s.seed s.next _ c.args.said.now c.self.invariant
    (text_more s.heading s.params s.seed s.lines.items c.push_reserved.new.self.items said added)

pub returns-clause-text : goal.returns-clause-text
returns-clause-text c =
    let s = c.self.inside in
    let said = keeps.Comment c.args.said.now in
    let added : c.push_reserved.new.self.items ≡ s.lines.items ++ said ∷ [] = search rules in
    text_more s.heading s.params s.seed s.lines.items c.push_reserved.new.self.items said added
    ∙ ap (λ v. v.text ++ ended (comment_line c.args.said.now)) c.self.view_is

pub returns-clause-lines : goal.returns-clause-lines
returns-clause-lines c =
    let s = c.self.inside in
    let said = keeps.Comment c.args.said.now in
    let added : c.push_reserved.new.self.items ≡ s.lines.items ++ said ∷ [] = search rules in
    comment_runs _ _ s.params s.seed s.next _ c.args.said.now c.self.invariant
    (text_more s.heading s.params s.seed s.lines.items c.push_reserved.new.self.items said added)
    ∙ ap (λ v. v.lines) c.self.view_is
