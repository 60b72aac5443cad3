use Rattle.std.proofs.Common.{◌*◌}
use Rattle.std.proofs.lemmas.Result.{err_from_is_err_and}
use Rattle.ov_wire.specs.Fields.{Many}
use Rattle.ov_wire.specs.Code.Reading.{ids_in}
use Rattle.ov_wire.proofs.Steps.{fails_whole}
use Rattle.ov_wire.proofs.reading.last_ids.Goals as goal

pub returns-in_err-whole : goal.returns-in_err-whole
returns-in_err-whole c =
    let exit = c.from_residual-in_err-whole in
    let p = err_from_is_err_and exit.result exit.ensures.1 in
    rw (p.1, p.2, c.in_ok-count.ensures.value)
    (fails_whole (λ b. Many (ids_in b)) (4 * c.in_ok-count.count) c.in_ok-count.rest.now c.in_err-whole.field-0.0
    c.in_err-whole.ensures.short c.in_err-whole.ensures.trailing)
