use Rattle.std.proofs.Common.{◌∙◌, ap, subst, sym}
use Rattle.ov_cert.specs.State.{CheckedState}
use Rattle.ov_even.specs.SoundDesk.{IsSoundDesk}
use Rattle.ov_graph.specs.Links.{LinkGraph}
use Rattle.ov_net.specs.Journal.{AreLinks}
use Rattle.ov_snap.specs.ReportState.{ReportState}
use Rattle.ov_snap.proofs.DeskCalls.{report_free}
use Rattle.ov_snap.proofs.DeskKeeping.{desk_sound}
use Rattle.ov_snap.proofs.snapshot_core.Core.report_from_desk.Goals as goal

pub certificate-requires-clause-sound : goal.certificate-requires-clause-sound
certificate-requires-clause-sound c =
    let g = c.in_ok-snapshot.snapshot.now.graph in
    let journal = c.args.self.now.world.journal in
    subst (λ (h : LinkGraph). IsSoundDesk h c.in_ok-own.own.now) (sym c.deref.ensures)
    (desk_sound journal c.in_ok-own.own.now g c.in_ok-own.ensures.own
    (subst (λ n. AreLinks journal n g) c.moment-moment.ensures c.in_ok-snapshot.ensures.ok.1))

pub returns-clause-answer : goal.returns-clause-answer
returns-clause-answer c =
    let own = c.in_ok-checked.ensures.answer in
    rw (c.in_ok-report.ensures, c.sharing-checked.ensures) (rw (own.graph, own.members) own.answer)

pub returns-clause-free : goal.returns-clause-free
returns-clause-free c =
    let own = c.in_ok-own.ensures in
    let checked = c.in_ok-checked.ensures.answer in
    report_free c.args.self.now c.args.desk c.in_ok-own.own.now c.moment-moment.result
    c.in_ok-snapshot.snapshot.now.graph c.in_ok-report.report own.has own.judged c.moment-moment.ensures
    c.in_ok-snapshot.ensures.ok
    (ap (λ (r : ReportState). r.moment) c.in_ok-report.ensures)
    (ap (λ (r : ReportState). r.graph) c.in_ok-report.ensures
    ∙ ap (λ (v : CheckedState). v.graph) c.sharing-checked.ensures
    ∙ checked.graph
    ∙ c.deref.ensures)
    (ap (λ (r : ReportState). r.members) c.in_ok-report.ensures
    ∙ ap (λ (v : CheckedState). v.members) c.sharing-checked.ensures
    ∙ checked.members)
