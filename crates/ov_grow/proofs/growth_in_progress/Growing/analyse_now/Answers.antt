use Rattle.std.proofs.Common.{ℕ}
use Rattle.ov_script.specs.WrittenLines.{analysis_line}
use Rattle.ov_grow.specs.Phases.{IsAnalysedAt}
use Rattle.ov_grow.specs.Code.Standing.{IsNoWay, growth_of}
use Rattle.ov_grow.proofs.Analysing.{lived_before}
use Rattle.ov_grow.proofs.Going.{goes_on, passes_on}
use Rattle.ov_grow.proofs.NoPhase.{no_way_analysis, no_way_snapshot}
use Rattle.std.proofs.Common.{◌≡◌, ◌∙◌, ap, length, subst, sym}
use Rattle.ov_net.specs.World.{Stands}
use Rattle.ov_grow.specs.Faults.{IsFull}
use Rattle.ov_grow.proofs.Full.{analysis_full}
use Rattle.ov_grow.proofs.Keeping.{snapshot_keeps}
use Rattle.ov_grow.proofs.Making.{lives_keeps, still_now}
use Rattle.ov_grow.proofs.growth_in_progress.Growing.analyse_now.Goals as goal

pub returns-in_err-take_snapshot-clause-refused : goal.returns-in_err-take_snapshot-clause-refused
returns-in_err-take_snapshot-clause-refused c =
    let fault = c.in_err-take_snapshot.field-0.0 in
    passes_on (IsNoWay (λ s u. (m : ℕ) × IsAnalysedAt m s u) c.args.self.now)
    c.from_residual.result fault c.from_residual.ensures.1
    (no_way_snapshot c.args.self.now fault c.in_err-take_snapshot.ensures.refused)

pub returns-in_err-analyse-clause-refused : goal.returns-in_err-analyse-clause-refused
returns-in_err-analyse-clause-refused c =
    let fault = c.in_err-analyse.field-0.0 in
    passes_on (IsNoWay (λ s u. (m : ℕ) × IsAnalysedAt m s u) c.args.self.now)
    c.from_residual-in_err-analyse.result fault c.from_residual-in_err-analyse.ensures.1
    (no_way_analysis c.args.self.now c.take_snapshot.new.self fault c.in_ok-take_snapshot.ensures.goes
    c.in_err-analyse.ensures.refused)

pub returns-clause-goes : goal.returns-clause-goes
returns-clause-goes c =
    goes_on _ _ _ _ _ _
    (λ did writes. (
      _,
      did,
      lived_before (growth_of c.take_snapshot.new.self) (growth_of c.analyse.new.self)
          (analysis_line c.entries-moment.result) writes c.in_ok-analyse.ensures.live,
      c.entries-moment.ensures,
      writes,
    ))
    c.in_ok-take_snapshot.ensures.goes c.in_ok-analyse.ensures.goes

pub returns-in_err-analyse-clause-full : goal.returns-in_err-analyse-clause-full
returns-in_err-analyse-clause-full c =
    let fault = c.in_err-analyse.field-0.0 in
    let s = growth_of c.args.self.now in
    let t = growth_of c.take_snapshot.new.self in
    passes_on IsFull c.from_residual-in_err-analyse.result fault c.from_residual-in_err-analyse.ensures.1
    (analysis_full t fault c.in_err-analyse.ensures.refused
    (lives_keeps s t (snapshot_keeps s t c.in_ok-take_snapshot.ensures.goes.way) c.requires))

pub returns-clause-lasting : goal.returns-clause-lasting
returns-clause-lasting c =
    let u = growth_of c.analyse.new.self in
    let same : length u.world.journal ≡ length (growth_of c.take_snapshot.new.self).world.journal =
    ap (λ g. length g.world.journal) c.in_ok-analyse.ensures.goes.way in
    still_now c.entries-moment.result u (subst (λ w. Stands w) c.world.ensures c.journal-journal.ensures.stands)
    (c.entries-moment.ensures ∙ sym same)
