use Rattle.std.proofs.Common.{arith}
use Rattle.ov_grow.specs.Phases.{EndsPhase}
use Rattle.ov_grow.specs.Code.Standing.{IsNoWay, growth_of}
use Rattle.ov_grow.specs.declared.phase_moment_and_deliveries.PhaseEnd.{PhaseEnd}
use Rattle.ov_grow.proofs.Analysing.{answered_kept}
use Rattle.ov_grow.proofs.Going.{passes_on}
use Rattle.ov_grow.proofs.NoPhase.{no_way_analysed, no_way_ending}
use Rattle.ov_grow.proofs.Ways.{as_long_least, broadcasts_as_long, ends_goes}
use Rattle.ov_grow.proofs.Crashing.{still_live}
use Rattle.ov_grow.proofs.Making.{analysed_keeps, broadcasts_made, may_make_keeps}
use Rattle.ov_grow.proofs.growth_in_progress.Growing.end_phase.Goals as goal

pub deliveries_after-deliveries-requires : goal.deliveries_after-deliveries-requires
deliveries_after-deliveries-requires c =
    let more = as_long_least (growth_of c.analyse_now.new.self) (growth_of c.broadcasts.new.self)
    (broadcasts_as_long c.args.rules.now c.args.broadcasts (growth_of c.analyse_now.new.self)
    (growth_of c.broadcasts.new.self) c.in_ok-broadcasts.field-0.items c.in_ok-broadcasts.ensures.goes.way) in
    omega (arith, c.in_ok-moment.ensures.within, more)

pub returns-in_err-moment-clause-refused : goal.returns-in_err-moment-clause-refused
returns-in_err-moment-clause-refused c =
    let fault = c.in_err-moment.field-0.0 in
    passes_on (IsNoWay (λ s u. (phase : PhaseEnd) × EndsPhase c.args.rules.now c.args.broadcasts s phase u)
    c.args.self.now) c.from_residual.result fault c.from_residual.ensures.1
    (no_way_ending c.args.rules.now c.args.broadcasts c.args.self.now fault c.in_err-moment.ensures.refused)

pub returns-in_err-broadcasts-clause-refused : goal.returns-in_err-broadcasts-clause-refused
returns-in_err-broadcasts-clause-refused c =
    let fault = c.in_err-broadcasts.field-0.0 in
    passes_on (IsNoWay (λ s u. (phase : PhaseEnd) × EndsPhase c.args.rules.now c.args.broadcasts s phase u)
    c.args.self.now) c.from_residual-in_err-broadcasts.result fault c.from_residual-in_err-broadcasts.ensures.1
    (no_way_analysed c.args.rules.now c.args.broadcasts c.in_ok-moment.moment c.args.self.now
    c.analyse_now.new.self fault c.in_ok-moment.ensures.goes c.in_err-broadcasts.ensures.refused)

pub returns-clause-ends : goal.returns-clause-ends
returns-clause-ends c = ends_goes c.args.rules.now c.args.broadcasts c.in_ok-moment.moment
    c.deliveries_after-deliveries.result c.in_ok-broadcasts.field-0.items c.args.self.now c.analyse_now.new.self
    c.broadcasts.new.self
    c.in_ok-moment.ensures.goes c.in_ok-broadcasts.ensures.goes c.deliveries_after-deliveries.ensures

pub returns-clause-answered : goal.returns-clause-answered
returns-clause-answered c = answered_kept c.analyse_now.new.self.recording.core c.broadcasts.new.self.recording.core
    c.in_ok-moment.moment c.in_ok-broadcasts.ensures.goes.kept c.in_ok-moment.ensures.answered

pub broadcasts-requires-clause-made : goal.broadcasts-requires-clause-made
broadcasts-requires-clause-made c =
    let s = growth_of c.args.self.now in
    let t = growth_of c.analyse_now.new.self in
    may_make_keeps c.args.broadcasts s t
    (analysed_keeps c.in_ok-moment.moment s t c.in_ok-moment.ensures.goes.way) c.requires.made

pub returns-clause-lasting : goal.returns-clause-lasting
returns-clause-lasting c =
    let t = growth_of c.analyse_now.new.self in
    let u = growth_of c.broadcasts.new.self in
    still_live c.in_ok-moment.moment c.args.broadcasts t u c.in_ok-moment.ensures.within
    (broadcasts_made c.args.rules.now c.args.broadcasts t u c.in_ok-broadcasts.field-0.items
    c.in_ok-broadcasts.ensures.goes.way)
    c.in_ok-moment.ensures.lasting
