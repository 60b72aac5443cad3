-- The line of the scale that has one.
use Rattle.std.proofs.Common.{◌∙◌, ◌++◌, ap, sym}
use Rattle.ov_script.specs.WrittenLines.{scale_line, scale_text, spaced}
use Rattle.ov_script.proofs.line_writing.write_scale.Goals as goal

pub returns-in-Large : goal.returns-in-Large
unfolding scale_line scale_text spaced
returns-in-Large c = record {
  items = c.append.ensures.items ∙ ap (λ scale. c.args.text.now.items ++ scale_text scale) (sym c.in-Large.is);
}
