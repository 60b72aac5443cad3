use Rattle.std.proofs.Common.{◌≡◌, ◌∙◌, refl}
use Rattle.ov_sweep_rows.specs.Code.Taking.{IsFaultOf}
use Rattle.ov_sweep_rows.proofs.Refusing.{fault_tells, first_unread, next_unread, next_untaken, unbegun, unheaded}
use Rattle.ov_sweep_rows.proofs.RowByRow.{reads_all, reads_begun, reads_more, reads_whole}
use Rattle.ov_sweep_rows.proofs.row_reading.take_records.Goals as goal

pub returns-in_default-clause-fault : goal.returns-in_default-clause-fault
returns-in_default-clause-fault c = λ text begun.
    let step = rw c.in_default.is at (c.next.ensures.steps begun.stands.turns begun.stands.plain) in
    unbegun text c.args.records.now.rdr c.next.new.self.rdr c.args.records.now.left c.next.new.self.left
    begun.stands (step.0 begun.stands.ready)

pub returns-in_err-first-clause-fault : goal.returns-in_err-first-clause-fault
returns-in_err-first-clause-fault c =
    fault_tells (IsFaultOf c.in_err-first.field-0.0.kind) _ c.from_residual.result
    (λ fault is text begun.
    let step = rw (c.in-Some.is, c.in_err-first.was) at (c.next.ensures.steps begun.stands.turns begun.stands.plain) in
    first_unread text c.args.records.now.rdr c.next.new.self.rdr c.args.records.now.left
    c.in_err-first.field-0.0.kind fault begun (step.0 begun.stands.ready) is)
    c.from_residual.ensures.1

pub returns-in_err-header-clause-fault : goal.returns-in_err-header-clause-fault
returns-in_err-header-clause-fault c =
    fault_tells (λ fault. fault ≡ c.in_err-header.field-0.0) _ c.from_residual-in_err-header.result
    (λ fault same text begun.
    let step = rw (c.in-Some.is, c.in_ok-first.was) at (c.next.ensures.steps begun.stands.turns begun.stands.plain) in
    rw same
    (unheaded text c.args.records.now.rdr c.next.new.self.rdr c.args.records.now.left c.next.new.self.left
    c.in_ok-first.field-0 c.in_err-header.field-0.0 begun.stands (step.0 begun.stands.ready)
    c.in_err-header.ensures.fault))
    c.from_residual-in_err-header.ensures.1

pub loop-record-init : goal.loop-record-init
loop-record-init c = λ text begun.
    let step = rw (c.in-Some.is, c.in_ok-first.was) at (c.next.ensures.steps begun.stands.turns begun.stands.plain) in
    let start = c.into_iter-record-iterator.ensures.into_iter_gives ∙ refl in
    rw (start, c.requires.none) (
    reads_begun c.in_ok-header.header.form text c.args.records.now.rdr c.next.new.self.rdr c.args.records.now.left
    c.next.new.self.left c.in_ok-first.field-0 begun.stands (step.0 begun.stands.ready) step.3
    c.in_ok-header.ensures.header
    )

pub loop-record-preserved : goal.loop-record-preserved
loop-record-preserved c = λ text begun.
    let reads = c.loop-record.invariant text begun in
    let step = rw (c.in-Some-record.is, c.in_ok-record.was) at
    (c.next-in-loop-record.ensures.steps reads.stands.turns reads.stands.plain) in
    reads_more c.in_ok-header.header.form text c.loop-record.record-iterator.now.rdr
    c.next-in-loop-record.new.self.now.rdr
    c.loop-record.record-iterator.now.left c.next-in-loop-record.new.self.now.left c.loop-record.rows.items
    c.take_record-in-loop-record.new.rows.items c.in_ok-record.field-0 reads (step.0 reads.stands.ready) step.3
    c.in_ok-take_record.ensures.taken

pub take_record-requires-clause-whole : goal.take_record-requires-clause-whole
take_record-requires-clause-whole c =
    let (text, begun) = c.requires.begun in
    let reads = c.loop-record.invariant text begun in
    let step = rw (c.in-Some-record.is, c.in_ok-record.was) at
    (c.next-in-loop-record.ensures.steps reads.stands.turns reads.stands.plain) in
    reads_whole c.in_ok-header.header.form text c.loop-record.record-iterator.now.rdr
    c.next-in-loop-record.new.self.now.rdr
    c.loop-record.record-iterator.now.left c.next-in-loop-record.new.self.now.left c.loop-record.rows.items
    c.in_ok-record.field-0 reads (step.0 reads.stands.ready)

pub returns-in_err-record-clause-fault : goal.returns-in_err-record-clause-fault
returns-in_err-record-clause-fault c =
    fault_tells (IsFaultOf c.in_err-record.field-0.0.kind) _ c.from_residual-in_err-record.result
    (λ fault is text begun.
    let reads = c.loop-record.invariant text begun in
    let step = rw (c.in-Some-record.is, c.in_err-record.was) at
    (c.next-in-loop-record.ensures.steps reads.stands.turns reads.stands.plain) in
    next_unread c.in_ok-header.header.form text c.loop-record.record-iterator.now.rdr
    c.next-in-loop-record.new.self.now.rdr
    c.loop-record.record-iterator.now.left c.loop-record.rows.items c.in_err-record.field-0.0.kind fault reads
    (step.0 reads.stands.ready) is)
    c.from_residual-in_err-record.ensures.1

pub returns-in_err-take_record-clause-fault : goal.returns-in_err-take_record-clause-fault
returns-in_err-take_record-clause-fault c =
    fault_tells (λ fault. fault ≡ c.in_err-take_record.field-0.0) _ c.from_residual-in_err-take_record.result
    (λ fault same text begun.
    let reads = c.loop-record.invariant text begun in
    let step = rw (c.in-Some-record.is, c.in_ok-record.was) at
    (c.next-in-loop-record.ensures.steps reads.stands.turns reads.stands.plain) in
    rw same (
    next_untaken c.in_ok-header.header.form text c.loop-record.record-iterator.now.rdr
    c.next-in-loop-record.new.self.now.rdr
    c.loop-record.record-iterator.now.left c.next-in-loop-record.new.self.now.left c.loop-record.rows.items
    c.in_ok-record.field-0 c.in_err-take_record.field-0.0 reads (step.0 reads.stands.ready)
    c.in_err-take_record.ensures.fault
    ))
    c.from_residual-in_err-take_record.ensures.1

pub returns-clause-rows : goal.returns-clause-rows
returns-clause-rows c = λ text begun.
    let reads = c.loop-record.invariant text begun in
    let step = rw c.in-None.is at (c.next-in-loop-record.ensures.steps reads.stands.turns reads.stands.plain) in
    reads_all c.in_ok-header.header.form text c.loop-record.record-iterator.now.rdr
    c.next-in-loop-record.new.self.now.rdr
    c.loop-record.record-iterator.now.left c.next-in-loop-record.new.self.now.left c.loop-record.rows.items reads
    (step.0 reads.stands.ready)
