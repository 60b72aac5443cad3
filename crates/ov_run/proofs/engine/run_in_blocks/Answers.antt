-- What went through the buffer is what went to the writer, or a prefix of it.
use Rattle.std.proofs.Common.{◌≡◌, ◌∙◌, ◌+◌, Some, Result, Err, IsOk, OnOk, ap, subst, sym, true, false}
use Rattle.std.specs.Io.Buffered.{writer_contents}
use Rattle.std.specs.Io.KnownBytes.{Keeps}
use Rattle.ov_io.specs.Device.{write_faults as sink_faults, write_number}
use Rattle.ov_io.specs.declared.fault.WriteFault.{WriteFault}
use Rattle.ov_run_meaning.specs.Run.{IsRunInBlocks}
use Rattle.ov_run_meaning.specs.declared.run_fault.RunFault.{RunFault}
use Rattle.ov_run.proofs.Printing.InBlocks.{gave_up, handed_on, no_write_failed, not_handed_on, write_failed}
use Rattle.ov_run.proofs.engine.run_in_blocks.Goals as goal

pub returns-then-failed_to_write-clause-run : goal.returns-then-failed_to_write-clause-run
returns-then-failed_to_write-clause-run g c =
    let is = sym c.failed_to_write.ensures ∙ c.if-failed_to_write.true in
    gave_up c.args.strictness (Some c.args.bytes.now) g.W.Write.contents c.args.sink c.run_bytes-ran.new.sink
    c.give_up.result
    c.requires.empty c.run_bytes-ran.result (write_failed c.run_bytes-ran.result is) c.run_bytes-ran.ensures.run
    c.give_up.ensures.writer c.give_up.ensures.faults

pub returns-in-Ok-clause-run : goal.returns-in-Ok-clause-run
returns-in-Ok-clause-run g c =
    let is = sym c.failed_to_write.ensures ∙ c.if-failed_to_write.false in
    let own = c.hand_on-sink.ensures in
    let went = c.in-Ok.is in
    handed_on c.args.strictness (Some c.args.bytes.now) g.W.Write.contents c.args.sink c.run_bytes-ran.new.sink
    c.hand_on-sink.result.0
    c.requires.empty (subst (λ (r : Result (Unit {0}) WriteFault). OnOk r
    (Keeps (writer_contents g.W.Write.contents c.run_bytes-ran.new.sink.writer)
    (g.W.Write.contents c.hand_on-sink.result.0.writer))) went own.bytes)
    own.nothing (own.faults ∙ ap (λ r. c.run_bytes-ran.new.sink.faults + sink_faults write_number r) went)
    c.run_bytes-ran.result (no_write_failed c.run_bytes-ran.result is) c.run_bytes-ran.ensures.run

pub returns-in-Err-clause-run : goal.returns-in-Err-clause-run
returns-in-Err-clause-run g c =
    let is = sym c.failed_to_write.ensures ∙ c.if-failed_to_write.false in
    let own = c.hand_on-sink.ensures in
    let failed = c.in-Err.is in
    let counted : c.hand_on-sink.result.0.faults ≡ c.run_bytes-ran.new.sink.faults + 1 =
    own.faults ∙ ap (λ r. c.run_bytes-ran.new.sink.faults + sink_faults write_number r) failed in
    subst (λ (f : RunFault). IsRunInBlocks c.args.strictness (Some c.args.bytes.now) g.W.Write.contents c.args.sink
    c.hand_on-sink.result.0 (Err f)) (sym c.into.ensures)
    (not_handed_on c.args.strictness (Some c.args.bytes.now) g.W.Write.contents c.args.sink
    c.run_bytes-ran.new.sink c.hand_on-sink.result.0 c.requires.empty c.run_bytes-ran.result
    (no_write_failed c.run_bytes-ran.result is) c.run_bytes-ran.ensures.run own.prefix
    (λ empty. let clash : false ≡ true = subst IsOk failed (own.ok empty) in absurd cc) counted)
