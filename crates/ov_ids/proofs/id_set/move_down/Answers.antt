use Rattle.std.proofs.Common.{◌≡◌, ◌+◌, ◌∙◌, ap, length, rules}
use Rattle.std.specs.Prelude.{slice_set}
use Rattle.std.specs.List.{copy_within}
use Rattle.arrayvec.proofs.ArrayVecLemmas.{items-with_items}
use Rattle.ov_ids.proofs.Moved.{copied_down}
use Rattle.ov_ids.proofs.id_set.move_down.Goals as goal

pub returns : goal.returns
returns c =
    let now = slice_set c.copy_within.new.self c.args.to c.args.id in
    let same : length now ≡ length c.args.ids.now.items = search rules in
    let after : c.copy_within.new.self
    ≡ copy_within c.args.ids.now.items (c.args.from + 1) (c.args.to + 1) c.args.from =
    search rules in
    items-with_items c.args.ids.now now same ∙ ap (λ l. slice_set l c.args.to c.args.id) after
    ∙ copied_down c.args.ids.now.items c.args.from c.args.to c.args.id c.requires.order c.requires.within
