use Rattle.std.proofs.Common.{inl, inr, refl, subst, sym}
use Rattle.std.proofs.lemmas.Result.{IfErr-weaker, on_ok_weaker}
use Rattle.ov_grow.specs.Faults.{IsFull}
use Rattle.ov_grow.specs.Rounds.{Round}
use Rattle.ov_grow.specs.Code.Standing.{AllLive, IsNoWay, growth_of}
use Rattle.ov_grow.specs.declared.fault.GrowFault.TheVariants.{OutOfMemory}
use Rattle.ov_grow.proofs.Going.{passes_on}
use Rattle.ov_grow.proofs.Keeping.{order_lives}
use Rattle.ov_grow.proofs.NoJoin.{no_way_shuffled, no_way_shuffles}
use Rattle.ov_grow.proofs.Ways.{round_goes}
use Rattle.ov_grow.proofs.growth_in_progress.Growing.round.Goals as goal

pub returns-in_err-order-clause-refused : goal.returns-in_err-order-clause-refused
returns-in_err-order-clause-refused c =
    passes_on (IsNoWay (Round c.args.rules.now) c.args.self.now) c.from_residual.result OutOfMemory
    c.from_residual.ensures.1 (inl refl)

pub returns-in_err-order-clause-full : goal.returns-in_err-order-clause-full
returns-in_err-order-clause-full c =
    passes_on IsFull c.from_residual.result OutOfMemory c.from_residual.ensures.1 (inr (inr refl))

pub shuffle-requires : goal.shuffle-requires
shuffle-requires c =
    subst (λ xs. AllLive xs (growth_of c.live_in_order.new.self)) (sym c.deref.ensures.value)
    (order_lives (growth_of c.args.self.now) (growth_of c.live_in_order.new.self) c.in_ok-order.order.items
    c.in_ok-order.ensures.way)

pub returns-in_err-shuffle-clause-refused : goal.returns-in_err-shuffle-clause-refused
returns-in_err-shuffle-clause-refused c =
    let fault = c.in_err-shuffle.field-0.0 in
    passes_on (IsNoWay (Round c.args.rules.now) c.args.self.now) c.from_residual-in_err-shuffle.result fault
    c.from_residual-in_err-shuffle.ensures.1
    (no_way_shuffles c.args.rules.now c.in_ok-order.order.items c.deref.result.now c.args.self.now
    c.live_in_order.new.self fault c.deref.ensures.value c.in_ok-order.ensures c.in_err-shuffle.ensures.refused)

pub returns-clause-goes : goal.returns-clause-goes
returns-clause-goes c = on_ok_weaker _ (λ out. round_goes c.args.rules.now c.in_ok-order.order.items
    c.deref.result.now c.args.self.now
    c.live_in_order.new.self c.shuffle.new.self c.run_out.new.self c.deref.ensures.value c.in_ok-order.ensures
    c.in_ok-shuffle.ensures.goes out) c.run_out.ensures.goes

pub returns-clause-refused : goal.returns-clause-refused
returns-clause-refused c = IfErr-weaker _ _ _ (λ fault none. no_way_shuffled c.args.rules.now
    c.in_ok-order.order.items c.deref.result.now c.args.self.now
    c.live_in_order.new.self c.shuffle.new.self fault c.deref.ensures.value c.in_ok-order.ensures
    c.in_ok-shuffle.ensures.goes none) c.run_out.ensures.refused
