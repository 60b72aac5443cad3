-- One more entry, and all of them.
use Rattle.std.proofs.Common.{◌∙◌, ◌+◌, ◌∷◌, drop, sym, ap, subst, arith}
use Rattle.std.proofs.lemmas.List.{drop_all, drop_more}
use Rattle.ov_certwriter.specs.Code.Blocks.{AreWithin}
use Rattle.ov_certwriter.proofs.entry_rooms.room_of_all.Goals as goal

pub loop-entry-preserved : goal.loop-entry-preserved
loop-entry-preserved g c most le small within =
    let entries = c.args.entries.now in
    let i = c.loop-entry.entry-index in
    let x = c.entry-item.result in
    let front = drop_more entries i x c.loop-entry-test.true
    ∙ ap (λ y. y ∷ drop (i + 1) entries) (sym c.entry-item.is) in
    let largest = c.max-largest.ensures in
    let own = c.room.ensures (omega (arith, largest, le, small)) in
    c.loop-entry.invariant most (omega (arith, largest, le)) small
    (subst (AreWithin g.T.Entry.paths_of most) (sym front) (omega (arith, own, largest, le), within))

pub returns : goal.returns
returns g c small =
    let l = c.loop-entry in
    l.invariant l.largest (omega arith) small
    (subst (AreWithin g.T.Entry.paths_of l.largest) (sym (drop_all _ _ c.loop-entry-test.false)) tt)
