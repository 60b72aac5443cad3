use Rattle.std.proofs.lemmas.Result.{IfErr-weaker, IfOk-weaker}
use Rattle.ov_grow.specs.Phases.{EndsPhase, Settle}
use Rattle.ov_grow.specs.Code.Standing.{Goes, IsNoWay, growth_of}
use Rattle.ov_grow.specs.declared.phase_moment_and_deliveries.PhaseEnd.{PhaseEnd}
use Rattle.ov_grow.proofs.Going.{passes_on}
use Rattle.ov_grow.proofs.NoPhase.{no_way_settle, no_way_settled}
use Rattle.ov_grow.proofs.Ways.{settle_goes}
use Rattle.std.proofs.Common.{◌+◌, ◌≤◌, ap, arith, inl, inr}
use Rattle.ov_plum.specs.PlumState.{most_broadcasts}
use Rattle.ov_grow_options.specs.Limits.{most_rounds}
use Rattle.ov_grow.specs.Faults.{IsFull}
use Rattle.ov_grow.proofs.Making.{ended_live, ended_made, lives_keeps, made_keeps, settle_keeps}
use Rattle.ov_grow.proofs.growth_in_progress.Growing.settle.Goals as goal

pub returns-in_err-comment-clause-refused : goal.returns-in_err-comment-clause-refused
returns-in_err-comment-clause-refused c =
    passes_on (IsNoWay (λ s u. (phase : PhaseEnd) × Settle c.args.options.now s phase u) c.args.self.now)
    c.from_residual.result c.in_err-comment.field-0.0 c.from_residual.ensures.1
    (inl c.in_err-comment.ensures.refused)

pub returns-in_err-rounds-clause-refused : goal.returns-in_err-rounds-clause-refused
returns-in_err-rounds-clause-refused c =
    let fault = c.in_err-rounds.field-0.0 in
    passes_on (IsNoWay (λ s u. (phase : PhaseEnd) × Settle c.args.options.now s phase u) c.args.self.now)
    c.from_residual-in_err-rounds.result fault c.from_residual-in_err-rounds.ensures.1
    (no_way_settle c.args.options.now c.settling-rules.result c.get.result c.args.self.now c.comment.new.self fault
    c.settling-rules.ensures c.get.ensures.value c.in_ok-comment.ensures.goes c.in_err-rounds.ensures.refused)

pub returns-clause-goes : goal.returns-clause-goes
returns-clause-goes c = IfOk-weaker c.end_phase.result
    (λ phase. Goes (λ s u. EndsPhase c.settling-rules.result c.get-2.result s phase u) c.rounds.new.self
    c.end_phase.new.self)
    (λ phase. Goes (λ s u. Settle c.args.options.now s phase u) c.args.self.now c.end_phase.new.self)
    (λ phase ends. settle_goes c.args.options.now c.settling-rules.result c.get.result c.get-2.result phase
    c.args.self.now c.comment.new.self c.rounds.new.self c.end_phase.new.self c.settling-rules.ensures
    c.get.ensures.value c.get-2.ensures.value c.in_ok-comment.ensures.goes c.in_ok-rounds.ensures.goes ends)
    c.end_phase.ensures.ends

pub returns-clause-refused : goal.returns-clause-refused
returns-clause-refused c = IfErr-weaker _ _ _ (λ fault none. no_way_settled c.args.options.now c.settling-rules.result
    c.get.result c.get-2.result c.args.self.now c.comment.new.self c.rounds.new.self fault
    c.settling-rules.ensures c.get.ensures.value c.get-2.ensures.value c.in_ok-comment.ensures.goes
    c.in_ok-rounds.ensures.goes none) c.end_phase.ensures.refused

pub end_phase-requires-clause-live : goal.end_phase-requires-clause-live
end_phase-requires-clause-live c =
    let s = growth_of c.args.self.now in
    let v = growth_of c.rounds.new.self in
    lives_keeps s v
    (settle_keeps c.settling-rules.result c.get.result s (growth_of c.comment.new.self) v
    (ap (λ g. g.world) c.in_ok-comment.ensures.goes.way) c.in_ok-rounds.ensures.goes.way) c.requires.live

pub end_phase-requires-clause-made : goal.end_phase-requires-clause-made
end_phase-requires-clause-made c =
    let s = growth_of c.args.self.now in
    let v = growth_of c.rounds.new.self in
    let keeps =
    settle_keeps c.settling-rules.result c.get.result s (growth_of c.comment.new.self) v
    (ap (λ g. g.world) c.in_ok-comment.ensures.goes.way) c.in_ok-rounds.ensures.goes.way in
    let few : 0 + c.get-2.result ≤ most_broadcasts = omega (arith, c.get-2.ensures.most) in
    (0, made_keeps 0 s v keeps c.requires.made, few)

pub returns-in_err-comment-clause-full : goal.returns-in_err-comment-clause-full
returns-in_err-comment-clause-full c =
    passes_on IsFull c.from_residual.result c.in_err-comment.field-0.0 c.from_residual.ensures.1
    (inr (inr c.in_err-comment.ensures.refused))

pub returns-clause-live : goal.returns-clause-live
returns-clause-live c =
    ended_live c.settling-rules.result c.get-2.result c.rounds.new.self c.end_phase.new.self c.end_phase.result
    c.end_phase.ensures.ends

pub returns-clause-made : goal.returns-clause-made
returns-clause-made c =
    let s = growth_of c.args.self.now in
    let v = growth_of c.rounds.new.self in
    let keeps =
    settle_keeps c.settling-rules.result c.get.result s (growth_of c.comment.new.self) v
    (ap (λ g. g.world) c.in_ok-comment.ensures.goes.way) c.in_ok-rounds.ensures.goes.way in
    let few : 0 + c.get-2.result ≤ most_rounds = omega (arith, c.get-2.ensures.most) in
    ended_made c.settling-rules.result c.get-2.result 0 most_rounds c.rounds.new.self c.end_phase.new.self
    c.end_phase.result few (made_keeps 0 s v keeps c.requires.made) c.end_phase.ensures.ends
