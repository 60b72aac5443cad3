use Rattle.std.proofs.Common.{◌∙◌, ◌∷◌, ◌++◌, [], ℕ, List, length, sym, ap, ap₂}
use Rattle.ov_cert.specs.State.{CheckedState}
use Rattle.ov_snap.specs.ReportState.{ReportState}
use Rattle.ov_snap.proofs.Indexing.{not_taken, pushed}
use Rattle.ov_snap.proofs.reports_by_moment_and_group.Reports.push.Goals as goal

pub unreachable-requires : goal.unreachable-requires
unreachable-requires c =
    let own = ap₂ (λ (n : ℕ) (q : List ℕ). (n, q)) c.moment.ensures
    (c.members-group.ensures.members ∙ ap (λ (v : CheckedState). v.members) c.checked.ensures) in
    not_taken c.deref.result.now c.self.inside.filed.items c.args.self.now c.in-Ok.field-0 c.args.report
    (c.moment.result, c.members-group.result.now) c.deref.ensures.value c.self.view_is c.in-Ok.ensures.found own
    c.requires

pub invariant_of-self-2 : goal.invariant_of-self-2
invariant_of-self-2 c =
    let own = ap₂ (λ (n : ℕ) (q : List ℕ). (n, q)) c.moment.ensures
    (c.members-group.ensures.members ∙ ap (λ (v : CheckedState). v.members) c.checked.ensures) in
    pushed c.self.inside.filed.items c.deref.result.now c.push_reserved.new.self.items c.self.inside.places.items
    c.deref-2.result.now c.insert.new.self.items c.args.report (c.moment.result, c.members-group.result.now) c.in-Err.at
    c.len.result c.self.invariant c.deref.ensures.value c.deref-2.ensures.value c.in-Err.ensures.gap own
    (c.push_reserved.ensures.items ∙ ap (λ (l : List ReportState). l ++ c.args.report ∷ []) c.reserve.ensures.items)
    (c.len.ensures ∙ c.reserve.ensures.len ∙ sym c.deref.ensures.len ∙ ap length c.deref.ensures.value)
    c.in_ok-insert.ensures.items
