use Rattle.std.proofs.Common.{◌≡◌, ◌∙◌, rules, ap, sym}
use Rattle.ov_cert.specs.declared.cert.Cert.TheVariants.{Linked, Split}
use Rattle.ov_grow.specs.Phases.{cut_of}
use Rattle.ov_grow.proofs.Analysing.{cut_at_report}
use Rattle.ov_grow.proofs.growth_in_progress.Growing.cut_at.Goals as goal

pub returns-in_ok-to_vec-in-Split : goal.returns-in_ok-to_vec-in-Split
returns-in_ok-to_vec-in-Split c =
    let cert : c.in-Some.report.now.cert ≡ Split c.in-Split.split =
    sym (c.cert.ensures.cert ∙ ap (λ x. x.cert) c.checked.ensures) ∙ c.in-Split.is in
    let items : c.in_ok-to_vec-in-Split.field-0.items ≡ c.in-Split.split.cut = search rules in
    cut_at_report c.args.self.now.recording.core c.core-core.result.now c.args.moment c.in-Some.report.now _
    c.core-core.ensures
    c.world-world.ensures.sound c.requires c.in-Some.ensures.some c.in-Some.ensures.is_true
    (items ∙ ap cut_of (sym cert))

pub returns-in-Linked : goal.returns-in-Linked
returns-in-Linked c =
    let cert : c.in-Some.report.now.cert ≡ Linked c.in-Linked.k =
    sym (c.cert.ensures.cert ∙ ap (λ x. x.cert) c.checked.ensures) ∙ c.in-Linked.is in
    cut_at_report c.args.self.now.recording.core c.core-core.result.now c.args.moment c.in-Some.report.now _
    c.core-core.ensures
    c.world-world.ensures.sound c.requires c.in-Some.ensures.some c.in-Some.ensures.is_true
    (c.new-in-Linked.ensures.items ∙ ap cut_of (sym cert))
