-- The line of each rule that has one.
use Rattle.std.proofs.Common.{◌∙◌, ◌++◌, ap, sym}
use Rattle.ov_script.specs.WrittenLines.{refill_line, rule_text, spaced}
use Rattle.ov_script.proofs.line_writing.write_refill.Goals as goal

pub returns-in-Alone-clause-items : goal.returns-in-Alone-clause-items
unfolding refill_line rule_text spaced
returns-in-Alone-clause-items c =
    c.append.ensures.items ∙ ap (λ rule. c.args.text.now.items ++ rule_text rule) (sym c.in-Alone.is)

pub returns-in-Always-clause-items : goal.returns-in-Always-clause-items
unfolding refill_line rule_text spaced
returns-in-Always-clause-items c =
    c.append-in-Always.ensures.items
    ∙ ap (λ rule. c.args.text.now.items ++ rule_text rule) (sym c.in-Always.is)
