use Rattle.std.proofs.Common.{rules, ◌≡◌, ◌≤◌, ◌*◌, ◌/◌, length, subst, take}
use Rattle.ov_grow_options.specs.Limits.{most_share}
use Rattle.ov_grow.specs.Code.Standing.{growth_of}
use Rattle.ov_grow.proofs.Crashing.{share_may_crash}
use Rattle.ov_grow.proofs.growth_in_progress.Growing.share_of_live.Goals as goal

pub returns-clause-may : goal.returns-clause-may
returns-clause-may c =
    let order = c.in_ok-order.order.items in
    let is : c.truncate.new.self.items ≡ take (length order * c.args.share / 100) order = search rules in
    let less : c.args.share ≤ most_share = subst (λ n. n ≤ most_share) c.get.ensures.value
    c.get.ensures.most in
    share_may_crash c.args.share c.truncate.new.self.items (growth_of c.args.self.now)
    (growth_of c.live_in_order.new.self) less c.requires (order, c.in_ok-order.ensures.way, is)
