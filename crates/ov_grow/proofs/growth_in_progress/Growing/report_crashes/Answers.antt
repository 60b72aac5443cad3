use Rattle.std.proofs.Common.{◌∙◌, List, ap, arith, drop, length, refl, subst, take}
use Rattle.ov_net.specs.Journal.{changes_of}
use Rattle.ov_net.specs.World.{Stands}
use Rattle.ov_net.specs.declared.journal_entry_and_changes.Entry.{Entry}
use Rattle.ov_grow.specs.Phases.{ReportCrashes}
use Rattle.ov_grow.specs.Code.Standing.{HasCrashed, HaveNone, IsNoWay, TakeNoCrashed, growth_of}
use Rattle.ov_grow.proofs.Going.{on_all, on_begun, passes_on}
use Rattle.ov_grow.proofs.LookingOn.{live_kept, no_shorter, reported_keeps, search_kept}
use Rattle.ov_grow.proofs.NoPhase.{left_reports, no_way_report, no_way_reported}
use Rattle.ov_grow.proofs.Turning.{does_longer, longer_by, run_out_as_long}
use Rattle.ov_grow.specs.Faults.{IsFull}
use Rattle.ov_grow.proofs.Full.{told_full}
use Rattle.ov_grow.proofs.growth_in_progress.Growing.report_crashes.Goals as goal

pub loop-found-init : goal.loop-found-init
loop-found-init c = record {
  way = on_begun (ReportCrashes c.args.rules.now) c.args.self.now;
  live = c.in_ok-nodes.ensures;
  none = λ a has. absurd has;
}

pub loop-found-smaller : goal.loop-found-smaller
loop-found-smaller c =
    let first = does_longer (growth_of c.loop-found.self) (growth_of c.act.new.self) _ c.in_ok-act.ensures.goes.way in
    let all = longer_by (growth_of c.loop-found.self) (growth_of c.act.new.self) (growth_of c.run_out.new.self) first
    (run_out_as_long c.args.rules.now (growth_of c.act.new.self) (growth_of c.run_out.new.self)
    c.in_ok-run_out.ensures.goes.way) in
    omega (arith, all.more, all.most)

pub returns-in_err-act-clause-refused : goal.returns-in_err-act-clause-refused
returns-in_err-act-clause-refused c =
    let fault = c.in_err-act.field-0.0 in
    passes_on (IsNoWay (ReportCrashes c.args.rules.now) c.args.self.now) c.from_residual-in_err-act.result fault
    c.from_residual-in_err-act.ensures.1
    (no_way_report c.args.rules.now _ _ c.args.self.now c.loop-found.self fault c.loop-found.invariant.way
    c.in-Some.ensures.some c.in_err-act.ensures.refused)

pub returns-in_err-run_out-clause-refused : goal.returns-in_err-run_out-clause-refused
returns-in_err-run_out-clause-refused c =
    let fault = c.in_err-run_out.field-0.0 in
    passes_on (IsNoWay (ReportCrashes c.args.rules.now) c.args.self.now) c.from_residual-in_err-run_out.result fault
    c.from_residual-in_err-run_out.ensures.1
    (no_way_reported c.args.rules.now _ _ c.args.self.now c.loop-found.self c.act.new.self fault
    c.loop-found.invariant.way c.in-Some.ensures.some c.in_ok-act.ensures.goes c.in_err-run_out.ensures.refused)

pub returns-in_err-act-clause-full : goal.returns-in_err-act-clause-full
returns-in_err-act-clause-full c =
    let fault = c.in_err-act.field-0.0 in
    let (p, lives, has, gone) = c.in-Some.ensures.some.has in
    passes_on IsFull c.from_residual-in_err-act.result fault c.from_residual-in_err-act.ensures.1
    (told_full c.loop-found.self _ _ fault (p, lives) gone c.in_err-act.ensures.judged)

pub search_from-from-requires : goal.search_from-from-requires
search_from-from-requires c =
    let keeps = reported_keeps c.args.rules.now (growth_of c.loop-found.self) (growth_of c.act.new.self)
    (growth_of c.run_out.new.self) _ _ c.in_ok-act.ensures.goes.way c.in_ok-run_out.ensures.goes.way in
    let count = ap (λ (es : List Entry). length es) (c.journal-before.ensures.value ∙ ap (λ w. w.journal)
    c.world.ensures)
    in
    omega (arith, count, no_shorter (growth_of c.loop-found.self) (growth_of c.run_out.new.self) keeps)

pub loop-found-preserved : goal.loop-found-preserved
loop-found-preserved c =
    let s = growth_of c.loop-found.self in
    let u = growth_of c.run_out.new.self in
    let keeps = reported_keeps c.args.rules.now s (growth_of c.act.new.self) u _ _ c.in_ok-act.ensures.goes.way
    c.in_ok-run_out.ensures.goes.way in
    let count = ap (λ (es : List Entry). length es) (c.journal-before.ensures.value ∙ ap (λ w. w.journal)
    c.world.ensures)
    in
    record {
      way = left_reports c.args.rules.now _ _ c.args.self.now c.loop-found.self c.act.new.self c.run_out.new.self
          c.loop-found.invariant.way c.in-Some.ensures.some c.in_ok-act.ensures.goes c.in_ok-run_out.ensures.goes;
      live = live_kept s u c.in_ok-nodes.nodes.items keeps c.loop-found.invariant.live;
      none = search_kept s u c.in_ok-nodes.nodes.items c.in-Some.found.place c.search_from-from.result
          (subst (λ w. Stands w) c.world.ensures c.journal-before.ensures.stands)
          (subst (λ w. Stands w) c.world-in-Some.ensures c.journal-journal.ensures.stands) keeps
          (subst (λ ids. HaveNone (HasCrashed s) (take c.in-Some.found.place ids)) c.deref.ensures.value
          c.in-Some.ensures.before)
          c.search_from-from.ensures.kept
          (λ some. subst (λ n. TakeNoCrashed u.world.net (changes_of (drop n u.world.journal))) count
          (c.search_from-from.ensures.quiet some));
    }

pub returns-clause-goes : goal.returns-clause-goes
returns-clause-goes c = on_all (ReportCrashes c.args.rules.now) (ReportCrashes c.args.rules.now) c.args.self.now
    c.loop-found.self c.loop-found.invariant.way (0, (c.in_default.ensures.none, refl))
