-- All tokens of the text were taken.
use Rattle.std.proofs.Common.{◌≡◌, ◌∙◌, [], sym, subst, arith}
use Rattle.ov_certfile.specs.Code.Content.{TakesContent}
use Rattle.ov_certfile.proofs.Said.{says_content}
use Rattle.ov_certfile.proofs.token_reading.take_file.Goals as goal

pub returns : goal.returns
returns c =
    let content = c.in_ok-content.content in
    let none : c.take_content.new.cursor ≡ [] = grind arith in
    says_content c.args.newest c.args.text.now content c.in_ok-filed.filed c.begin_object.new.self
    (sym c.new-cursor.ensures ∙ c.in_ok-begin_object.ensures)
    (subst (TakesContent c.args.newest content c.begin_object.new.self) none c.in_ok-content.ensures)
    c.in_ok-filed.ensures.graph
    c.in_ok-filed.ensures.filed
