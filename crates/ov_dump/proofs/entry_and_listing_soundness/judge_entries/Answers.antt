-- One entry more.
use Rattle.std.proofs.Common.{List, suc, take, drop, sym, subst}
use Rattle.std.proofs.lemmas.Result.{err_from_is_err_and}
use Rattle.ov_dump.specs.declared.dump_and_graph_types.HostEntry.{HostEntry}
use Rattle.ov_dump.proofs.Places.{parted_at, taken_next}
use Rattle.ov_dump.proofs.Sounding.{SoundSoFar, begun, flaw, more}
use Rattle.ov_dump.proofs.entry_and_listing_soundness.judge_entries.Goals as goal

pub loop-entry-init : goal.loop-entry-init
loop-entry-init c = begun c.new-seen.result c.new-seen.ensures

pub loop-entry-preserved : goal.loop-entry-preserved
loop-entry-preserved c =
    let entries = c.args.entries.now in
    let i = c.loop-entry.entry-index in
    let e = c.entry-item.result in
    let next = taken_next entries i e c.loop-entry-test.true c.entry-item.is in
    let judged = c.in_ok-judge_entry.ensures in
    subst (λ (es : List HostEntry). SoundSoFar es c.judge_entry.new.seen) (sym next)
    (more (take i entries) e c.loop-entry.seen c.judge_entry.new.seen c.loop-entry.invariant judged.named judged.fresh
    judged.seen)

pub returns-in_err-judge_entry-clause-fault : goal.returns-in_err-judge_entry-clause-fault
returns-in_err-judge_entry-clause-fault c =
    let entries = c.args.entries.now in
    let i = c.loop-entry.entry-index in
    let e = c.entry-item.result in
    let split = parted_at entries i e c.loop-entry-test.true c.entry-item.is in
    let p = err_from_is_err_and c.from_residual.result c.from_residual.ensures.1 in
    rw (p.1, p.2) (flaw entries (take i entries) (drop (suc i) entries) e c.loop-entry.seen
    c.in_err-judge_entry.field-0.0 c.loop-entry.invariant split c.in_err-judge_entry.ensures.fault)
