-- One more place.
use Rattle.std.proofs.Common.{◌≡◌, ◌≤◌, ◌+◌, ◌++◌, ◌∷◌, [], arith, rules, subst, sym, slice_index, length}
use Rattle.ov_scatter.specs.Code.Keys.{IsOrder}
use Rattle.ov_scatter.proofs.Keyed.{order_more}
use Rattle.ov_scatter.proofs.ids_in_copy.numbered_places.Goals as goal

pub loop-place-preserved : goal.loop-place-preserved
loop-place-preserved c =
    let place = c.loop-place.place in
    let order = c.loop-place.order.items in
    let less = c.loop-place-test.true in
    let pushed : c.push.new.self.items ≡ order ++ (slice_index c.args.guide.now place, place) ∷ [] = search rules in
    let low : place + 1 ≤ length c.args.guide.now = omega (arith, less) in
    record {
      few = low;
      order = subst (IsOrder (place + 1)) (sym pushed)
          (order_more place (slice_index c.args.guide.now place) order c.loop-place.invariant.order);
    }
