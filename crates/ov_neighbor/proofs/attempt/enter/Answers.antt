use Rattle.std.proofs.Common.{◌≡◌, ◌≤◌, length, sym, ◌∙◌, ap, rules}
use Rattle.ov_ids.specs.Sets.{count_below}
use Rattle.ov_ids.proofs.Sets.{count_below-le-length, adding_absent}
use Rattle.std.proofs.lemmas.Bool.{false_from_ne_true}
use Rattle.ov_neighbor.proofs.attempt.enter.Goals as goal

pub insert-requires : goal.insert-requires
insert-requires c =
    let items = c.args.tried.now.items in
    let within : count_below c.args.id items ≤ length items = count_below-le-length c.args.id items in
    let at : c.place_for-at.result ≡ count_below c.args.id items = c.place_for-at.ensures.value
    ∙ ap (count_below c.args.id) c.as_slice.ensures.value in
    search rules

pub returns : goal.returns
returns c =
    let items = c.args.tried.now.items in
    let inserted = rw (c.insert.ensures.succeeds c.requires.room) at c.insert.ensures.items in
    inserted ∙ rw (c.place_for-at.ensures.value, c.as_slice.ensures.value)
    (sym (adding_absent c.args.id items (false_from_ne_true _ c.requires.untried)))
