-- What was read is what was judged, and its line was written.
use Rattle.std.proofs.Common.{◌≡◌, Result, Ok, Err, IsErrAnd, sym, ap, subst}
use Rattle.ov_check.specs.Run.{IsRun, status_in}
use Rattle.ov_check.specs.declared.read_judge_and_print_outcome.Judged.{Judged}
use Rattle.ov_check.specs.declared.read_or_write_fault.JudgeFault.{JudgeFault}
use Rattle.ov_check.proofs.Running.{read_so, ended}
use Rattle.ov_check.proofs.read_judge_and_print_outcome.judge_kept.Goals as goal

-- a judge that keeps what it read fails with this fault
failed_so : (result : Result Judged JudgeFault) (fault : JudgeFault) → IsErrAnd result (λ e. e ≡ fault)
    → status_in result ≡ Err fault
failed_so (Ok o) fault a = absurd a
failed_so (Err e) fault a = ap Err a

pub returns-in_err-write_line-clause-run : goal.returns-in_err-write_line-clause-run
returns-in_err-write_line-clause-run g c =
    let a = c.args in
    let w = c.in_err-write_line.ensures in
    let fault = c.in_err-write_line.field-0.0 in
    let is = read_so a.newest (g.R.Read.remaining a.source.now.reader) _ c.in_ok-bytes.bytes.items
    c.in_ok-outcome.outcome
    c.deref.ensures.value
    c.in_ok-bytes.ensures.bytes c.in_ok-outcome.ensures.outcome c.in_ok-outcome.ensures.exact in
    let run = ended a.newest g.R.Read.remaining g.W.Write.contents a.source.now c.read_all.new.self a.sink.now
    c.write_line.new.sink c.in_ok-bytes.bytes.items c.in_ok-outcome.outcome is c.in_ok-bytes.ensures.end
    c.in_ok-bytes.ensures.faults
    (c.in_ok-bytes.ensures.not_failed (λ e. absurd cc)) (Err fault) w.line w.prefix w.faults w.unread w.no_memory in
    let e = c.from_residual-in_err-write_line.ensures in
    subst (IsRun a.newest g.R.Read.remaining g.W.Write.contents a.source.now a.sink.now c.read_all.new.self
    c.write_line.new.sink) (sym (failed_so c.from_residual-in_err-write_line.result fault e.1)) run

pub returns-clause-run : goal.returns-clause-run
returns-clause-run g c =
    let a = c.args in
    let w = c.in_ok-write_line.ensures in
    let is = read_so a.newest (g.R.Read.remaining a.source.now.reader) _ c.in_ok-bytes.bytes.items
    c.in_ok-outcome.outcome
    c.deref.ensures.value
    c.in_ok-bytes.ensures.bytes c.in_ok-outcome.ensures.outcome c.in_ok-outcome.ensures.exact in
    ended a.newest g.R.Read.remaining g.W.Write.contents a.source.now c.read_all.new.self a.sink.now
    c.write_line.new.sink c.in_ok-bytes.bytes.items c.in_ok-outcome.outcome is c.in_ok-bytes.ensures.end
    c.in_ok-bytes.ensures.faults
    (c.in_ok-bytes.ensures.not_failed (λ e. absurd cc)) (Ok tt) w.line w.prefix w.faults w.unread w.no_memory
