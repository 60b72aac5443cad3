use Rattle.std.proofs.Common.{inl, refl}
use Rattle.std.proofs.lemmas.Result.{IfErr-weaker, IfOk-weaker}
use Rattle.ov_grow.specs.Phases.{CrashNodes, EndsPhase}
use Rattle.ov_grow.specs.Code.Standing.{Goes, HaveMade, IsNoWay, MayCrash, StillLive, growth_of}
use Rattle.ov_grow.specs.declared.fault.GrowFault.TheVariants.{OutOfMemory}
use Rattle.ov_grow.specs.declared.phase_moment_and_deliveries.PhaseEnd.{PhaseEnd}
use Rattle.ov_grow.proofs.Analysing.{answered_kept}
use Rattle.ov_grow.proofs.Going.{passes_on}
use Rattle.ov_grow.proofs.NoPhase.{no_way_crash, no_way_crashed}
use Rattle.ov_grow.proofs.Ways.{crash_goes}
use Rattle.std.proofs.Common.{◌+◌, ◌≤◌, ap, arith, inr, subst, sym}
use Rattle.ov_plum.specs.PlumState.{most_broadcasts}
use Rattle.ov_grow_options.specs.Limits.{most_rounds}
use Rattle.ov_grow.specs.Faults.{IsFull}
use Rattle.ov_grow.proofs.Crashing.{crashing_made, spared_lives_on}
use Rattle.ov_grow.proofs.Keeping.{keeps_same}
use Rattle.ov_grow.proofs.Making.{ended_live, ended_made, lives_keeps}
use Rattle.ov_grow.proofs.growth_in_progress.Growing.crash.Goals as goal

pub to_crash-requires-clause-answered : goal.to_crash-requires-clause-answered
to_crash-requires-clause-answered c = answered_kept c.args.self.now.recording.core c.comment.new.self.recording.core
    c.args.settled
    c.in_ok-comment.ensures.goes.kept c.requires.answered

pub returns-in_err-comment-clause-refused : goal.returns-in_err-comment-clause-refused
returns-in_err-comment-clause-refused c =
    passes_on (IsNoWay (λ s u. (phase : PhaseEnd) × CrashNodes c.args.options.now c.args.settled s phase u)
    c.args.self.now) c.from_residual.result c.in_err-comment.field-0.0
    c.from_residual.ensures.1 (inl c.in_err-comment.ensures.refused)

pub returns-in_err-nodes-clause-refused : goal.returns-in_err-nodes-clause-refused
returns-in_err-nodes-clause-refused c =
    passes_on (IsNoWay (λ s u. (phase : PhaseEnd) × CrashNodes c.args.options.now c.args.settled s phase u)
    c.args.self.now) c.from_residual-in_err-nodes.result OutOfMemory c.from_residual-in_err-nodes.ensures.1 (inl refl)

pub returns-in_err-crash_each-clause-refused : goal.returns-in_err-crash_each-clause-refused
returns-in_err-crash_each-clause-refused c =
    let fault = c.in_err-crash_each.field-0.0 in
    passes_on (IsNoWay (λ s u. (phase : PhaseEnd) × CrashNodes c.args.options.now c.args.settled s phase u)
    c.args.self.now) c.from_residual-in_err-crash_each.result fault c.from_residual-in_err-crash_each.ensures.1
    (no_way_crash c.args.options.now c.args.settled c.in_ok-nodes.nodes.items c.deref.result.now c.args.self.now
    c.comment.new.self c.to_crash.new.self fault c.deref.ensures.value c.in_ok-comment.ensures.goes
    c.in_ok-nodes.ensures.goes c.in_err-crash_each.ensures.refused)

pub returns-clause-goes : goal.returns-clause-goes
returns-clause-goes c = IfOk-weaker c.end_phase.result
    (λ phase. Goes (λ s u. EndsPhase c.crashing-rules.result c.get.result s phase u) c.crash_each.new.self
    c.end_phase.new.self)
    (λ phase. Goes (λ s u. CrashNodes c.args.options.now c.args.settled s phase u) c.args.self.now c.end_phase.new.self)
    (λ phase ends. crash_goes c.args.options.now c.args.settled c.crashing-rules.result c.get.result
    c.in_ok-nodes.nodes.items c.deref.result.now phase c.args.self.now c.comment.new.self c.to_crash.new.self
    c.crash_each.new.self c.end_phase.new.self c.crashing-rules.ensures c.get.ensures.value c.deref.ensures.value
    c.in_ok-comment.ensures.goes c.in_ok-nodes.ensures.goes c.in_ok-crash_each.ensures.goes ends)
    c.end_phase.ensures.ends

pub returns-clause-refused : goal.returns-clause-refused
returns-clause-refused c = IfErr-weaker _ _ _ (λ fault none. no_way_crashed c.args.options.now c.args.settled
    c.crashing-rules.result c.get.result c.in_ok-nodes.nodes.items c.deref.result.now c.args.self.now
    c.comment.new.self c.to_crash.new.self c.crash_each.new.self fault c.crashing-rules.ensures c.get.ensures.value
    c.deref.ensures.value c.in_ok-comment.ensures.goes c.in_ok-nodes.ensures.goes c.in_ok-crash_each.ensures.goes none)
    c.end_phase.ensures.refused

pub to_crash-requires-clause-live : goal.to_crash-requires-clause-live
to_crash-requires-clause-live c =
    let s = growth_of c.args.self.now in
    let t = growth_of c.comment.new.self in
    let comment = keeps_same s t (ap (λ g. g.world) c.in_ok-comment.ensures.goes.way) in
    lives_keeps s t comment c.requires.live

pub to_crash-requires-clause-lasting : goal.to_crash-requires-clause-lasting
to_crash-requires-clause-lasting c =
    subst (λ g. StillLive c.args.settled g) (sym c.in_ok-comment.ensures.goes.way) c.requires.lasting

pub crash_each-requires : goal.crash_each-requires
crash_each-requires c = subst (λ xs. MayCrash xs (growth_of c.to_crash.new.self)) (sym c.deref.ensures.value)
    c.in_ok-nodes.ensures.may

pub end_phase-requires-clause-live : goal.end_phase-requires-clause-live
end_phase-requires-clause-live c =
    spared_lives_on c.deref.result.now (growth_of c.to_crash.new.self) (growth_of c.crash_each.new.self)
    (subst (λ xs. MayCrash xs (growth_of c.to_crash.new.self)) (sym c.deref.ensures.value) c.in_ok-nodes.ensures.may)
    c.in_ok-crash_each.ensures.goes.way

pub end_phase-requires-clause-made : goal.end_phase-requires-clause-made
end_phase-requires-clause-made c =
    let after : HaveMade most_rounds (growth_of c.crash_each.new.self) =
    crashing_made most_rounds c.args.options.now.crash c.args.settled c.in_ok-nodes.nodes.items c.deref.result.now
    (growth_of c.args.self.now) (growth_of c.comment.new.self) (growth_of c.to_crash.new.self)
    (growth_of c.crash_each.new.self) (ap (λ g. g.world) c.in_ok-comment.ensures.goes.way)
    c.in_ok-nodes.ensures.goes.way c.in_ok-crash_each.ensures.goes.way c.requires.made in
    let few : most_rounds + c.get.result ≤ most_broadcasts = omega (arith, c.get.ensures.most) in
    (most_rounds, after, few)

pub returns-in_err-comment-clause-full : goal.returns-in_err-comment-clause-full
returns-in_err-comment-clause-full c =
    passes_on IsFull c.from_residual.result c.in_err-comment.field-0.0 c.from_residual.ensures.1
    (inr (inr c.in_err-comment.ensures.refused))

pub returns-in_err-nodes-clause-full : goal.returns-in_err-nodes-clause-full
returns-in_err-nodes-clause-full c =
    passes_on IsFull c.from_residual-in_err-nodes.result OutOfMemory c.from_residual-in_err-nodes.ensures.1
    (inr (inr refl))

pub returns-clause-live : goal.returns-clause-live
returns-clause-live c =
    ended_live c.crashing-rules.result c.get.result c.crash_each.new.self c.end_phase.new.self c.end_phase.result
    c.end_phase.ensures.ends

pub returns-clause-made : goal.returns-clause-made
returns-clause-made c =
    let after : HaveMade most_rounds (growth_of c.crash_each.new.self) =
    crashing_made most_rounds c.args.options.now.crash c.args.settled c.in_ok-nodes.nodes.items c.deref.result.now
    (growth_of c.args.self.now) (growth_of c.comment.new.self) (growth_of c.to_crash.new.self)
    (growth_of c.crash_each.new.self) (ap (λ g. g.world) c.in_ok-comment.ensures.goes.way)
    c.in_ok-nodes.ensures.goes.way c.in_ok-crash_each.ensures.goes.way c.requires.made in
    let few : most_rounds + c.get.result ≤ most_rounds + most_rounds = omega (arith, c.get.ensures.most) in
    ended_made c.crashing-rules.result c.get.result most_rounds (most_rounds + most_rounds) c.crash_each.new.self
    c.end_phase.new.self c.end_phase.result few after c.end_phase.ensures.ends
