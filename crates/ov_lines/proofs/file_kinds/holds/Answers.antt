-- A search finds the first place at which the part stands.
use Rattle.std.proofs.Common.{◌∙◌, ap, is_some}
use Rattle.memchr.proofs.lemmas.ValueLemmas.{FindsNeedle-value}
use Rattle.ov_lines.proofs.file_kinds.holds.Goals as goal

pub returns : goal.returns
returns c =
    c.is_some.ensures
    ∙ ap is_some (FindsNeedle-value c.args.text.now c.args.part.now c.find.result c.find.ensures)
