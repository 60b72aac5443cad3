-- The same places in another order.
use Rattle.std.proofs.Common.{length}
use Rattle.ov_scatter.proofs.Sorted.{order_moved}
use Rattle.ov_scatter.proofs.ids_in_copy.places_in_order.Goals as goal

pub returns : goal.returns
returns c =
    order_moved (length c.args.guide.now) c.in_ok-order.order.items c.sort_unstable.new.self.items
    c.sort_unstable.ensures.permutation c.in_ok-order.ensures
