-- The entries by their places say the verdict.
use Rattle.std.proofs.Common.{◌∙◌, List, length, Some, sym, ap, subst}
use Rattle.std.proofs.lemmas.Bool.{both_ways}
use Rattle.ov_cert.specs.declared.cert.Cert.TheVariants as cert
use Rattle.ov_cert.specs.declared.expected_entry_with_place_and_fault.Expected.{Expected}
use Rattle.ov_cert.specs.Verdict.{AllHold, IsFirstAtFault, JudgedForGroup}
use Rattle.ov_cert.specs.Entries.{HoldsEntry}
use Rattle.ov_check.proofs.Placed.{pairs_left, judged_missing, judged_extra, judged_valid}
use Rattle.ov_check.proofs.parallel.judge_entries.Goals as goal

pub returns-in-Some-clause-verdict : goal.returns-in-Some-clause-verdict
returns-in-Some-clause-verdict g c =
    let graph = c.args.graph.now in
    let group = c.args.group.now in
    let split = c.args.split.now in
    let entry = c.in-Some.entry in
    let IsFirst = λ (es : List Expected). IsFirstAtFault (λ _ e. HoldsEntry graph group split e) es entry in
    let first = subst IsFirst c.deref.ensures.value c.in-Some.ensures in
    subst (λ fault. JudgedForGroup graph group (cert.Split split) (Some fault)) (sym c.fault.ensures)
    (judged_missing graph group split c.requires c.in_ok-entries.entries.items c.in_ok-entries.ensures entry first)

pub overflow_sub-count : goal.overflow_sub-count
overflow_sub-count g c =
    let count = c.len-count.ensures ∙ sym c.deref.ensures.len ∙ ap length c.deref.ensures.value in
    (pairs_left c.args.graph.now c.args.group.now c.args.split.now c.requires c.in_ok-entries.entries.items
    c.in_ok-entries.ensures c.len-count.result c.count_fans-fans.result count c.count_fans-fans.ensures).0

pub returns-then-not-has_no_more-clause-verdict : goal.returns-then-not-has_no_more-clause-verdict
returns-then-not-has_no_more-clause-verdict g c =
    let graph = c.args.graph.now in
    let group = c.args.group.now in
    let split = c.args.split.now in
    let count = c.len-count.ensures ∙ sym c.deref.ensures.len ∙ ap length c.deref.ensures.value in
    let each = subst (AllHold (λ _ e. HoldsEntry graph group split e)) c.deref.ensures.value c.in_default.ensures in
    judged_extra graph group split c.requires c.in_ok-entries.entries.items c.in_ok-entries.ensures
    c.len-count.result c.count_fans-fans.result count c.count_fans-fans.ensures each
    (λ fits. both_ways c.has_no_more.result c.if-not-has_no_more.true (c.has_no_more.ensures.1 fits))

pub returns-clause-verdict : goal.returns-clause-verdict
returns-clause-verdict g c =
    let graph = c.args.graph.now in
    let group = c.args.group.now in
    let split = c.args.split.now in
    let count = c.len-count.ensures ∙ sym c.deref.ensures.len ∙ ap length c.deref.ensures.value in
    let each = subst (AllHold (λ _ e. HoldsEntry graph group split e)) c.deref.ensures.value c.in_default.ensures in
    judged_valid graph group split c.requires c.in_ok-entries.entries.items c.in_ok-entries.ensures
    c.len-count.result c.count_fans-fans.result count c.count_fans-fans.ensures each
    (c.has_no_more.ensures.0 c.if-not-has_no_more.false)
