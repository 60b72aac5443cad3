-- The place of one more rank gets its key.
use Rattle.std.proofs.Common.{◌≡◌, ◌*◌, ◌%◌, arith, length, refl, rules}
use Rattle.ov_scatter.specs.Code.Keys.{key_of}
use Rattle.ov_scatter.proofs.Keyed.{keys_all, keys_more, rank_placed}
use Rattle.ov_scatter.proofs.ids_in_copy.keys_by_place.Goals as goal

pub index_mut-requires : goal.index_mut-requires
index_mut-requires c =
    let order = c.args.order.now in
    let low = rank_placed (length order) order c.loop-rank.rank (0, 0) c.requires.order c.loop-rank-test.true in
    let count = c.loop-rank.invariant.count in
    let long = c.loop-rank.keys.ok.0 in omega (arith, low, count, long)

pub loop-rank-preserved : goal.loop-rank-preserved
unfolding key_of
loop-rank-preserved c =
    let order = c.args.order.now in
    let rank = c.loop-rank.rank in
    let low = rank_placed (length order) order rank (0, 0) c.requires.order c.loop-rank-test.true in
    let is : c.new-in-loop-rank.result ≡ (rank * 20251) % 32768 = search rules in
    rw is (keys_more order rank c.loop-rank.keys.items _ c.loop-rank-test.true low refl c.loop-rank.invariant)

pub returns : goal.returns
returns c =
    let order = c.args.order.now in
    let far = c.loop-rank-test.false in
    keys_all order c.loop-rank.rank c.loop-rank.keys.items (omega (arith, far)) c.requires.order c.loop-rank.invariant
