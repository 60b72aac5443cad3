-- An item of the last block goes.
use Rattle.std.proofs.Common.{◌≡◌, ◌∙◌, ◌+◌, ◌-◌, ◌*◌, ◌<◌, length, length-append, ◌++◌, ap, sym, arith, rules, List}
use Rattle.std.specs.List.{remove}
use Rattle.std.proofs.lemmas.List.Edits.{remove-append_right, length-remove}
use Rattle.ov_lists.specs.Listed.{Listed}
use Rattle.ov_lists.specs.Code.Blocks.{block_size, joined}
use Rattle.ov_lists.proofs.block_list_with_fast_removal.BlockList.remove.Goals as goal

pub returns-then-self-place-clause-items : goal.returns-then-self-place-clause-items
returns-then-self-place-clause-items g c =
    let l = c.self.inside in
    ap (λ (xs : List g.row.T.Denot). joined l.full.items ++ xs) c.remove.ensures.items
    ∙ sym (remove-append_right (joined l.full.items) l.last.items l.before_last c.args.place
    (sym c.self.invariant.counted) (search rules))
    ∙ ap (λ (q : Listed g.row.T.Denot). remove q.items c.args.place) c.self.view_is

pub returns-then-self-place-clause-room : goal.returns-then-self-place-clause-room
returns-then-self-place-clause-room g c =
    let l = c.self.inside in
    let before : l.last.capacity - length l.last.items + block_size * length l.spare.items ≡ c.args.self.now.room
    = ap (λ (q : Listed g.row.T.Denot). q.room) c.self.view_is in
    let items = ap length c.remove.ensures.items in
    let count = ap (λ (q : Listed g.row.T.Denot). length q.items) c.self.view_is in
    let parts = length-append (joined l.full.items) l.last.items in
    let kept = c.self.invariant.counted in
    let inside : c.args.place - l.before_last < length l.last.items
    = omega (arith, count, parts, kept, c.requires, c.if-self-place.true) in
    let one_less = length-remove l.last.items (c.args.place - l.before_last) inside in
    omega (arith, before, items, one_less, c.remove.ensures.capacity)
