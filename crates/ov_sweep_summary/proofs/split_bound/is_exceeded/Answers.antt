use Rattle.std.proofs.Common.{◌<◌, ◌*◌, ◌/◌, ◌↔◌, ℕ, IsTrue, nat_lt, sym, subst}
use Rattle.ov_sweep_summary.proofs.Bounding.{by_quotient}
use Rattle.ov_sweep_summary.proofs.split_bound.is_exceeded.Goals as goal

pub returns : goal.returns
returns c =
    subst (λ (n : ℕ). IsTrue (nat_lt (c.args.spread / c.args.width) n) ↔ (c.args.spread < c.args.number * c.args.width))
    (sym c.from.ensures) (by_quotient c.args.spread c.args.width c.args.number c.requires)
