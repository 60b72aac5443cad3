-- What was read is what was judged, and its line was written.
use Rattle.std.proofs.Common.{◌≡◌, ℕ, Result, Ok, Err, IsErrAnd, sym, ap, subst}
use Rattle.ov_certfile.specs.declared.version.Version.TheVariants.{Two}
use Rattle.ov_check.specs.Run.{IsRun}
use Rattle.ov_check.specs.declared.read_or_write_fault.JudgeFault.{JudgeFault}
use Rattle.ov_check.proofs.Running.{read_so, ended}
use Rattle.ov_check.proofs.read_judge_and_print_outcome.judge.Goals as goal

-- a judge fails with this fault
failed_so : (result : Result ℕ JudgeFault) (fault : JudgeFault) → IsErrAnd result (λ e. e ≡ fault)
    → result ≡ Err fault
failed_so (Ok status) fault a = absurd a
failed_so (Err e) fault a = ap Err a

pub returns-in_err-write_line : goal.returns-in_err-write_line
returns-in_err-write_line g c =
    let a = c.args in
    let w = c.in_err-write_line.ensures in
    let fault = c.in_err-write_line.field-0.0 in
    let is = read_so Two (g.R.Read.remaining a.source.now.reader) _ c.in_ok-bytes.bytes.items c.in_ok-outcome.outcome
    c.deref.ensures.value
    c.in_ok-bytes.ensures.bytes c.in_ok-outcome.ensures.outcome c.in_ok-outcome.ensures.exact in
    let run = ended Two g.R.Read.remaining g.W.Write.contents a.source.now c.read_all.new.self a.sink.now
    c.write_line.new.sink c.in_ok-bytes.bytes.items c.in_ok-outcome.outcome is c.in_ok-bytes.ensures.end
    c.in_ok-bytes.ensures.faults
    (c.in_ok-bytes.ensures.not_failed (λ e. absurd cc)) (Err fault) w.line w.prefix w.faults w.unread w.no_memory in
    let e = c.from_residual-in_err-write_line.ensures in
    subst (IsRun Two g.R.Read.remaining g.W.Write.contents a.source.now a.sink.now c.read_all.new.self
    c.write_line.new.sink) (sym (failed_so c.from_residual-in_err-write_line.result fault e.1)) run

pub returns : goal.returns
returns g c =
    let a = c.args in
    let w = c.in_ok-write_line.ensures in
    let is = read_so Two (g.R.Read.remaining a.source.now.reader) _ c.in_ok-bytes.bytes.items c.in_ok-outcome.outcome
    c.deref.ensures.value
    c.in_ok-bytes.ensures.bytes c.in_ok-outcome.ensures.outcome c.in_ok-outcome.ensures.exact in
    let run = ended Two g.R.Read.remaining g.W.Write.contents a.source.now c.read_all.new.self a.sink.now
    c.write_line.new.sink c.in_ok-bytes.bytes.items c.in_ok-outcome.outcome is c.in_ok-bytes.ensures.end
    c.in_ok-bytes.ensures.faults
    (c.in_ok-bytes.ensures.not_failed (λ e. absurd cc)) (Ok tt) w.line w.prefix w.faults w.unread w.no_memory in
    subst (λ (n : ℕ). IsRun Two g.R.Read.remaining g.W.Write.contents a.source.now a.sink.now c.read_all.new.self
    c.write_line.new.sink (Ok n)) (sym c.status.ensures) run
