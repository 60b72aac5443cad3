-- No room of a part is above the largest of all.
use Rattle.std.proofs.Common.{◌≤◌, ℕ, List, All, length, slice_index_or, subst, arith}
use Rattle.ov_certwriter.proofs.Filled.{parts_within, within_more}
use Rattle.ov_certwriter.proofs.entry_rooms.largest_room.Goals as goal

pub returns : goal.returns
returns g c small =
    let rooms = c.in_ok-rooms.rooms.items in
    let most = c.largest.result in
    let below = subst (λ (xs : List ℕ). All (λ room. room ≤ most) xs) c.deref.ensures.value c.largest.ensures in
    parts_within g.T.Entry.paths_of most c.max-size.result (length rooms) c.args.entries.now
    (λ place low.
    let own = below place 0 low in
    within_more g.T.Entry.paths_of (slice_index_or rooms place 0) most _ own
    (c.in_ok-rooms.ensures.parts place 0 low (omega (arith, own, small))))
    c.in_ok-rooms.ensures.enough
