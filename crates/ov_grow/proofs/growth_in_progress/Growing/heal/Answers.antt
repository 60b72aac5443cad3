use Rattle.std.proofs.Common.{inl}
use Rattle.std.proofs.lemmas.Result.{IfErr-weaker, IfOk-weaker}
use Rattle.ov_grow.specs.Phases.{EndsPhase, Heal}
use Rattle.ov_grow.specs.Code.Standing.{Goes, IsNoWay, growth_of}
use Rattle.ov_grow.specs.declared.phase_moment_and_deliveries.PhaseEnd.{PhaseEnd}
use Rattle.ov_grow.proofs.Going.{passes_on}
use Rattle.ov_grow.proofs.NoPhase.{no_way_heal, no_way_healed, no_way_mended}
use Rattle.ov_grow.proofs.Ways.{heal_goes}
use Rattle.std.proofs.Common.{◌+◌, ◌≤◌, ap, arith, inr}
use Rattle.ov_plum.specs.PlumState.{most_broadcasts}
use Rattle.ov_grow_options.specs.Limits.{most_rounds}
use Rattle.ov_grow.specs.Faults.{IsFull}
use Rattle.ov_grow.proofs.Making.{heal_keeps, lives_keeps, made_keeps}
use Rattle.ov_grow.proofs.growth_in_progress.Growing.heal.Goals as goal

pub returns-in_err-comment-clause-refused : goal.returns-in_err-comment-clause-refused
returns-in_err-comment-clause-refused c =
    passes_on (IsNoWay (λ s u. (phase : PhaseEnd) × Heal c.args.options.now s phase u) c.args.self.now)
    c.from_residual.result c.in_err-comment.field-0.0 c.from_residual.ensures.1
    (inl c.in_err-comment.ensures.refused)

pub returns-in_err-tell_crashes-clause-refused : goal.returns-in_err-tell_crashes-clause-refused
returns-in_err-tell_crashes-clause-refused c =
    let fault = c.in_err-tell_crashes.field-0.0 in
    passes_on (IsNoWay (λ s u. (phase : PhaseEnd) × Heal c.args.options.now s phase u) c.args.self.now)
    c.from_residual-in_err-tell_crashes.result fault c.from_residual-in_err-tell_crashes.ensures.1
    (no_way_heal c.args.options.now c.healing-rules.result c.args.self.now c.comment.new.self fault
    c.healing-rules.ensures c.in_ok-comment.ensures.goes c.in_err-tell_crashes.ensures.refused)

pub returns-in_err-rounds-clause-refused : goal.returns-in_err-rounds-clause-refused
returns-in_err-rounds-clause-refused c =
    let fault = c.in_err-rounds.field-0.0 in
    passes_on (IsNoWay (λ s u. (phase : PhaseEnd) × Heal c.args.options.now s phase u) c.args.self.now)
    c.from_residual-in_err-rounds.result fault c.from_residual-in_err-rounds.ensures.1
    (no_way_mended c.args.options.now c.healing-rules.result c.get.result c.args.self.now c.comment.new.self
    c.tell_crashes.new.self fault c.healing-rules.ensures c.get.ensures.value c.in_ok-comment.ensures.goes
    c.in_ok-tell_crashes.ensures.goes c.in_err-rounds.ensures.refused)

pub returns-clause-goes : goal.returns-clause-goes
returns-clause-goes c = IfOk-weaker c.end_phase.result
    (λ phase. Goes (λ s u. EndsPhase c.healing-rules.result c.get-2.result s phase u) c.rounds.new.self
    c.end_phase.new.self)
    (λ phase. Goes (λ s u. Heal c.args.options.now s phase u) c.args.self.now c.end_phase.new.self)
    (λ phase ends. heal_goes c.args.options.now c.healing-rules.result c.get.result c.get-2.result phase
    c.args.self.now c.comment.new.self c.tell_crashes.new.self c.rounds.new.self c.end_phase.new.self
    c.healing-rules.ensures c.get.ensures.value c.get-2.ensures.value c.in_ok-comment.ensures.goes
    c.in_ok-tell_crashes.ensures.goes c.in_ok-rounds.ensures.goes ends)
    c.end_phase.ensures.ends

pub returns-clause-refused : goal.returns-clause-refused
returns-clause-refused c = IfErr-weaker _ _ _ (λ fault none. no_way_healed c.args.options.now c.healing-rules.result
    c.get.result c.get-2.result c.args.self.now c.comment.new.self c.tell_crashes.new.self c.rounds.new.self
    fault c.healing-rules.ensures c.get.ensures.value c.get-2.ensures.value c.in_ok-comment.ensures.goes
    c.in_ok-tell_crashes.ensures.goes c.in_ok-rounds.ensures.goes none) c.end_phase.ensures.refused

pub end_phase-requires-clause-live : goal.end_phase-requires-clause-live
end_phase-requires-clause-live c =
    let s = growth_of c.args.self.now in
    let w = growth_of c.rounds.new.self in
    lives_keeps s w
    (heal_keeps c.args.options.now.detect c.healing-rules.result c.get.result s (growth_of c.comment.new.self)
    (growth_of c.tell_crashes.new.self) w (ap (λ g. g.world) c.in_ok-comment.ensures.goes.way)
    c.in_ok-tell_crashes.ensures.goes.way c.in_ok-rounds.ensures.goes.way) c.requires.live

pub end_phase-requires-clause-made : goal.end_phase-requires-clause-made
end_phase-requires-clause-made c =
    let s = growth_of c.args.self.now in
    let w = growth_of c.rounds.new.self in
    let keeps =
    heal_keeps c.args.options.now.detect c.healing-rules.result c.get.result s (growth_of c.comment.new.self)
    (growth_of c.tell_crashes.new.self) w (ap (λ g. g.world) c.in_ok-comment.ensures.goes.way)
    c.in_ok-tell_crashes.ensures.goes.way c.in_ok-rounds.ensures.goes.way in
    let few : most_rounds + most_rounds + c.get-2.result ≤ most_broadcasts =
    omega (arith, c.get-2.ensures.most) in
    (most_rounds + most_rounds, made_keeps (most_rounds + most_rounds) s w keeps c.requires.made, few)

pub returns-in_err-comment-clause-full : goal.returns-in_err-comment-clause-full
returns-in_err-comment-clause-full c =
    passes_on IsFull c.from_residual.result c.in_err-comment.field-0.0 c.from_residual.ensures.1
    (inr (inr c.in_err-comment.ensures.refused))
