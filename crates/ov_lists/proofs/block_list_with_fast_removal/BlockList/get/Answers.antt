-- An item of a full block.
use Rattle.std.proofs.Common.{◌∙◌, ◌<◌, length, ap, sym, arith, rules, get_or}
use Rattle.std.proofs.lemmas.List.{get_or_append_left}
use Rattle.ov_lists.specs.Listed.{Listed}
use Rattle.ov_lists.specs.Code.Blocks.{joined}
use Rattle.ov_lists.proofs.Joining.{joined_at}
use Rattle.ov_lists.proofs.block_list_with_fast_removal.BlockList.get.Goals as goal

pub returns-then-place-self-clause-value : goal.returns-then-place-self-clause-value
returns-then-place-self-clause-value g c =
    let l = c.self.inside in
    let f = c.find-block in
    let x = c.index-as_slice-rest.result in
    let b = c.index.result.now in
    let at' = joined_at l.full.items f.result.0 f.result.1 c.args.place b x
    (rw c.deref.ensures.value at f.ensures.block) (rw c.deref.ensures.value at f.ensures.inside b) (search rules)
    (rw c.deref.ensures.value at f.ensures.place) in
    let before : c.args.place < length (joined l.full.items)
    = omega (arith, c.self.invariant.counted, c.if-place-self.true) in
    at' ∙ sym (get_or_append_left (joined l.full.items) l.last.items x c.args.place before)
    ∙ ap (λ (q : Listed g.row.T.Denot). get_or q.items c.args.place x) c.self.view_is
