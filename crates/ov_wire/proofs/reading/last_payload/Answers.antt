use Rattle.std.proofs.lemmas.Result.{err_from_is_err_and}
use Rattle.ov_wire.specs.Fields.{Many}
use Rattle.ov_wire.proofs.Steps.{fails_whole}
use Rattle.ov_wire.proofs.reading.last_payload.Goals as goal

pub returns-in_err-whole : goal.returns-in_err-whole
returns-in_err-whole c =
    let exit = c.from_residual-in_err-whole in
    let p = err_from_is_err_and exit.result exit.ensures.1 in
    rw (p.1, p.2, c.in_ok-len.ensures)
    (fails_whole (λ b. Many b) c.in_ok-len.len c.in_ok-len.rest.now c.in_err-whole.field-0.0
    c.in_err-whole.ensures.short c.in_err-whole.ensures.trailing)
