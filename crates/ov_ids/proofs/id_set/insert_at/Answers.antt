use Rattle.std.proofs.Common.{◌≡◌, ◌+◌, ◌∷◌, [], ◌++◌, ◌∙◌, ap, length, rules}
use Rattle.std.specs.Prelude.{slice_set}
use Rattle.std.specs.List.{copy_within}
use Rattle.arrayvec.proofs.ArrayVecLemmas.{items-with_items}
use Rattle.ov_ids.proofs.Moved.{moved_up}
use Rattle.ov_ids.proofs.id_set.insert_at.Goals as goal

pub returns : goal.returns
returns c =
    let now = slice_set c.copy_within.new.self c.args.i c.args.id in
    let same : length now ≡ length c.push.new.self.items = search rules in
    let after : c.copy_within.new.self
    ≡ copy_within (c.args.ids.now.items ++ c.args.id ∷ []) c.args.i c.len-count.result (c.args.i + 1) =
    search rules in
    items-with_items c.push.new.self now same ∙ ap (λ l. slice_set l c.args.i c.args.id) after
    ∙ moved_up c.args.ids.now.items c.args.id c.args.i c.len-count.result (search rules) (search rules)
