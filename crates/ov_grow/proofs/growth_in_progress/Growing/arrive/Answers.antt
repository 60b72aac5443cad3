use Rattle.std.proofs.lemmas.Result.{IfErr-weaker, on_ok_weaker}
use Rattle.ov_grow.specs.Turns.{Arrives, IsDelivered, MayBeRepeated}
use Rattle.ov_grow.specs.Code.Standing.{IsNoWay, growth_of}
use Rattle.ov_grow.proofs.Going.{goes_on, no_way_by, passes_on}
use Rattle.ov_grow.proofs.OneGrowth.{arrival_rest}
use Rattle.ov_grow.proofs.Full.{still_there}
use Rattle.ov_grow.proofs.growth_in_progress.Growing.arrive.Goals as goal

pub returns-in_err-may_repeat-clause-refused : goal.returns-in_err-may_repeat-clause-refused
returns-in_err-may_repeat-clause-refused c =
    let b = c.args.self.now in
    let r = c.args.rules.now in
    let fault = c.in_err-may_repeat.field-0.0 in
    passes_on (IsNoWay (Arrives r c.args.place) b) c.from_residual.result fault c.from_residual.ensures.1
    (no_way_by (MayBeRepeated r c.args.place) (Arrives r c.args.place) b b fault (λ u (t, again, came). (t, again))
    c.in_err-may_repeat.ensures.refused)

pub returns-clause-goes : goal.returns-clause-goes
returns-clause-goes c = on_ok_weaker _ (λ gone. goes_on _ _ _ _ _ _ (λ a b. (_, a, b))
    c.in_ok-may_repeat.ensures.goes gone)
    c.deliver.ensures.goes

pub returns-clause-refused : goal.returns-clause-refused
returns-clause-refused c =
    let r = c.args.rules.now in
    let b = c.args.self.now in
    let t = c.may_repeat.new.self in
    IfErr-weaker _ _ _ (λ fault none. no_way_by (IsDelivered r c.args.place) (Arrives r c.args.place) t b fault
    (λ u way. (u, arrival_rest r c.args.place (growth_of b) (growth_of t) u c.in_ok-may_repeat.ensures.goes.way way))
    none) c.deliver.ensures.refused

pub deliver-requires : goal.deliver-requires
deliver-requires c = still_there c.args.rules.now c.args.place (growth_of c.args.self.now)
    (growth_of c.may_repeat.new.self) c.in_ok-may_repeat.ensures.goes.way c.requires
