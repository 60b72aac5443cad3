use Rattle.std.proofs.Common.{◌∙◌, ap, sym}
use Rattle.std.proofs.lemmas.Iterator.{YieldsList-from_chars}
use Rattle.std.proofs.lemmas.Iterator.Consumers.{YieldsList-end}
use Rattle.std.proofs.lemmas.List.{map-id}
use Rattle.ov_io.specs.Name.{shown_chars}
use Rattle.ov_io.proofs.file_name_texts.shown_name.Goals as goal

pub returns : goal.returns
returns c =
    let all = (YieldsList-end (YieldsList-from_chars c.args.name.now c.utf8.name cc) c.loop-c.yielded _
    c.loop-c.yielded_by _ _ c.in-None.is c.next.ensures.steps).0 in
    c.loop-c.invariant ∙ ap shown_chars (sym (map-id c.loop-c.yielded) ∙ all)
