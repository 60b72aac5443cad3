-- The next piece is one of those that were found.
use Rattle.std.proofs.Common.{sym, subst}
use Rattle.ov_ids.specs.Members.{Has}
use Rattle.ov_ids.proofs.Members.{has_place}
use Rattle.ov_even.proofs.paths_by_ids.name_paths.Goals as goal

pub asked_paths-requires-clause-piece : goal.asked_paths-requires-clause-piece
asked_paths-requires-clause-piece c =
    let found = c.args.found.now in
    let f = c.loop-piece-item.result in
    let there = has_place found c.loop-piece.piece-index f c.loop-piece-test.true in
    (c.requires f (subst (Has found) (sym c.loop-piece-item.is) there)).0

pub asked_paths-requires-clause-right : goal.asked_paths-requires-clause-right
asked_paths-requires-clause-right c =
    let found = c.args.found.now in
    let f = c.loop-piece-item.result in
    let there = has_place found c.loop-piece.piece-index f c.loop-piece-test.true in
    (c.requires f (subst (Has found) (sym c.loop-piece-item.is) there)).1
