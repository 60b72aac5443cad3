-- The place of the key's rank, if there is one, is the only one that may have it.
use Rattle.std.proofs.Common.{◌≡◌, ◌∙◌, ◌*◌, ◌%◌, ◌<◌, arith, length, rules, sym}
use Rattle.ov_scatter.specs.Code.Keys.{place_at, rank_of_key}
use Rattle.ov_scatter.proofs.Keyed.{any_default, rank_placed, ranked}
use Rattle.ov_scatter.proofs.ids_in_copy.place_of_key.Goals as goal

pub returns-then-rank-order-clause-none : goal.returns-then-rank-order-clause-none
unfolding rank_of_key
returns-then-rank-order-clause-none c =
    λ h. let low = (ranked c.args.order.now c.args.keys.now c.args.key c.requires.few c.requires.keys h).0 in
    let far = c.if-rank-order.true in absurd (omega (arith, low, far))

pub bounds-keys-place : goal.bounds-keys-place
bounds-keys-place c =
    let order = c.args.order.now in
    let rank = c.args.key * 29459 % 32768 in
    let near = c.if-rank-order.false in
    let less : rank < length order = omega (arith, near) in
    let low = rank_placed (length order) order rank (0, 0) c.requires.order less in
    let count = c.requires.keys.count in omega (arith, low, count)

pub returns-then-ne-clause-none : goal.returns-then-ne-clause-none
unfolding rank_of_key
returns-then-ne-clause-none c =
    λ h. let keys = c.args.keys.now in
    let order = c.args.order.now in
    let rank = c.args.key * 29459 % 32768 in
    let near = c.if-rank-order.false in
    let less : rank < length order = omega (arith, near) in
    let low = rank_placed (length order) order rank (0, 0) c.requires.order less in
    let count = c.requires.keys.count in
    let at = (ranked order keys c.args.key c.requires.few c.requires.keys h).1 in
    let same : c.index-keys-place.result ≡ c.args.key =
    c.index-keys-place.is
    ∙ any_default keys (place_at order rank) c.index-keys-place.result 0 (omega (arith, low, count)) ∙ at in
    let differ : ¬ (c.index-keys-place.result ≡ c.args.key) = search rules in absurd (differ same)

pub returns-clause-some : goal.returns-clause-some
returns-clause-some c =
    let keys = c.args.keys.now in
    let order = c.args.order.now in
    let rank = c.args.key * 29459 % 32768 in
    let near = c.if-rank-order.false in
    let less : rank < length order = omega (arith, near) in
    let low = rank_placed (length order) order rank (0, 0) c.requires.order less in
    let count = c.requires.keys.count in
    let within : place_at order rank < length keys = omega (arith, low, count) in
    let same : c.index-keys-place.result ≡ c.args.key = search rules in
    let here = any_default keys (place_at order rank) 0 c.index-keys-place.result within in
    (within, here ∙ sym c.index-keys-place.is ∙ same)
