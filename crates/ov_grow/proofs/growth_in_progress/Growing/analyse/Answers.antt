use Rattle.std.proofs.Common.{◌≡◌, ◌⊎◌, subst, refl}
use Rattle.ov_net.specs.World.{Stands}
use Rattle.ov_grow.specs.Faults.{of_analysis}
use Rattle.ov_grow.specs.Growth.{SomebodyLives}
use Rattle.ov_grow.specs.Code.Standing.{growth_of}
use Rattle.ov_grow.specs.declared.fault.GrowFault.TheVariants.{OutOfMemory}
use Rattle.ov_grow.proofs.Analysing.{analysis_answered, analysis_goes, somebody_lives}
use Rattle.ov_grow.proofs.Going.{passes_on}
use Rattle.ov_grow.proofs.NoPhase.{analysis_fails}
use Rattle.ov_grow.proofs.growth_in_progress.Growing.analyse.Goals as goal

pub returns-in_err-analyse-clause-refused : goal.returns-in_err-analyse-clause-refused
returns-in_err-analyse-clause-refused c =
    let f = c.in_err-analyse.field-0.0 in
    passes_on (λ e. (e ≡ OutOfMemory) ⊎ ¬ SomebodyLives (growth_of c.args.self.now)) c.from_residual.result
    (of_analysis f) c.from_residual.ensures.1
    (analysis_fails c.args.self.now c.args.moment f
    (subst (λ w. Stands w) c.world.ensures c.journal-journal.ensures.stands) c.requires.now c.requires.fresh
    c.in_err-analyse.ensures.refused)

pub returns-clause-answered : goal.returns-clause-answered
returns-clause-answered c =
    analysis_answered _ _ _ c.in_ok-analyse.ensures.analysed.0 c.in_ok-analyse.ensures.analysed.1

pub returns-clause-goes : goal.returns-clause-goes
returns-clause-goes c =
    analysis_goes _ _ _ c.in_ok-analyse.ensures.analysed.0 _ refl refl c.in_ok-analyse.ensures.analysed.1
    c.in_ok-analyse.ensures.written

pub returns-clause-live : goal.returns-clause-live
returns-clause-live c =
    somebody_lives c.args.self.now (record c.args.self.now { recording = c.analyse.new.self }) c.args.moment
    c.in_ok-analyse.ensures.analysed.0 (subst (λ w. Stands w) c.world.ensures c.journal-journal.ensures.stands)
    c.requires.now c.in_ok-analyse.ensures.analysed.1
