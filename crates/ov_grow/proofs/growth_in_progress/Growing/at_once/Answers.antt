use Rattle.std.proofs.Common.{◌<◌, List, length, refl, subst, sym, inl, inr}
use Rattle.ov_ids.specs.Members.{Ascends}
use Rattle.ov_ids.specs.declared.id.MsgId.{MsgId}
use Rattle.ov_grow.specs.Broadcasts.{AtOnce}
use Rattle.ov_grow.specs.Code.Standing.{AllLive, IsNoWay, growth_of}
use Rattle.ov_grow.specs.declared.fault.GrowFault.TheVariants.{OutOfMemory}
use Rattle.ov_grow.proofs.Going.{passes_on}
use Rattle.ov_grow.proofs.Broadcasting.{has_some}
use Rattle.ov_grow.proofs.NoBroadcast.{no_way_at_once, no_way_begin, no_way_begun}
use Rattle.ov_grow.proofs.Ways.{at_once_goes}
use Rattle.ov_grow.specs.Faults.{IsFull}
use Rattle.ov_grow.proofs.growth_in_progress.Growing.at_once.Goals as goal

pub begin_broadcasts-requires-clause-some : goal.begin_broadcasts-requires-clause-some
begin_broadcasts-requires-clause-some c = subst (λ xs. 0 < length xs) (sym c.deref.ensures.value)
    (has_some c.in_ok-live.live.items c.requires.live.0
    (c.in_ok-live.ensures.each c.requires.live.0 c.requires.live.1))

pub begin_broadcasts-requires-clause-ascend : goal.begin_broadcasts-requires-clause-ascend
begin_broadcasts-requires-clause-ascend c = subst (λ xs. Ascends xs) (sym c.deref.ensures.value)
    c.in_ok-live.ensures.ascend

pub begin_broadcasts-requires-clause-live : goal.begin_broadcasts-requires-clause-live
begin_broadcasts-requires-clause-live c = subst (λ xs. AllLive xs (growth_of c.args.self.now))
    (sym c.deref.ensures.value) c.in_ok-live.ensures.live

pub returns-in_err-live-clause-refused : goal.returns-in_err-live-clause-refused
returns-in_err-live-clause-refused c =
    passes_on (IsNoWay (λ s u. (ids : List MsgId) × AtOnce c.args.rules.now c.args.count s ids u) c.args.self.now)
    c.from_residual.result OutOfMemory c.from_residual.ensures.1 (inl refl)

pub returns-in_err-messages-clause-refused : goal.returns-in_err-messages-clause-refused
returns-in_err-messages-clause-refused c =
    let fault = c.in_err-messages.field-0.0 in
    passes_on (IsNoWay (λ s u. (ids : List MsgId) × AtOnce c.args.rules.now c.args.count s ids u) c.args.self.now)
    c.from_residual-in_err-messages.result fault c.from_residual-in_err-messages.ensures.1
    (no_way_begin c.args.rules.now c.args.count c.in_ok-live.live.items c.deref.result.now c.args.self.now fault
    c.in_ok-live.ensures c.deref.ensures.value c.in_err-messages.ensures.refused)

pub returns-in_err-run_out-clause-refused : goal.returns-in_err-run_out-clause-refused
returns-in_err-run_out-clause-refused c =
    let fault = c.in_err-run_out.field-0.0 in
    passes_on (IsNoWay (λ s u. (ids : List MsgId) × AtOnce c.args.rules.now c.args.count s ids u) c.args.self.now)
    c.from_residual-in_err-run_out.result fault c.from_residual-in_err-run_out.ensures.1
    (no_way_begun c.args.rules.now c.args.count c.in_ok-live.live.items c.deref.result.now
    c.in_ok-messages.messages.items c.args.self.now c.begin_broadcasts.new.self fault c.in_ok-live.ensures
    c.deref.ensures.value c.in_ok-messages.ensures.goes c.in_err-run_out.ensures.refused)

pub returns-in_err-fire_timers-clause-refused : goal.returns-in_err-fire_timers-clause-refused
returns-in_err-fire_timers-clause-refused c =
    let fault = c.in_err-fire_timers.field-0.0 in
    passes_on (IsNoWay (λ s u. (ids : List MsgId) × AtOnce c.args.rules.now c.args.count s ids u) c.args.self.now)
    c.from_residual-in_err-fire_timers.result fault c.from_residual-in_err-fire_timers.ensures.1
    (no_way_at_once c.args.rules.now c.args.count c.in_ok-live.live.items c.deref.result.now
    c.in_ok-messages.messages.items c.deref-2.result.now c.args.self.now c.begin_broadcasts.new.self c.run_out.new.self
    fault c.in_ok-live.ensures c.deref.ensures.value c.deref-2.ensures.value c.in_ok-messages.ensures.goes
    c.in_ok-run_out.ensures.goes c.in_err-fire_timers.ensures.refused)

pub returns-clause-goes : goal.returns-clause-goes
returns-clause-goes c = at_once_goes c.args.rules.now c.args.count c.in_ok-live.live.items c.deref.result.now
    c.in_ok-messages.messages.items c.deref-2.result.now c.args.self.now c.begin_broadcasts.new.self
    c.run_out.new.self c.fire_timers.new.self c.in_ok-live.ensures c.deref.ensures.value c.deref-2.ensures.value
    c.in_ok-messages.ensures.goes c.in_ok-run_out.ensures.goes c.in_ok-fire_timers.ensures.goes

pub returns-in_err-live-clause-full : goal.returns-in_err-live-clause-full
returns-in_err-live-clause-full c =
    passes_on IsFull c.from_residual.result OutOfMemory c.from_residual.ensures.1 (inr (inr refl))
