use Rattle.std.proofs.Common.{◌≡◌}
use Rattle.ov_sweep_rows.specs.Refusals.{IsRowRefusal}
use Rattle.ov_sweep_rows.proofs.Refusing.{fault_tells}
use Rattle.ov_sweep_rows.proofs.row_reading.rows_in.Goals as goal

pub take_records-requires-clause-begun : goal.take_records-requires-clause-begun
take_records-requires-clause-begun c = (c.args.text.now, c.records_of-records.ensures)

pub returns-in_err-take_records-clause-fault : goal.returns-in_err-take_records-clause-fault
returns-in_err-take_records-clause-fault c =
    fault_tells (λ fault. fault ≡ c.in_err-take_records.field-0.0) (IsRowRefusal c.args.text.now)
    c.from_residual.result
    (λ fault same. rw same
    (c.in_err-take_records.ensures.fault c.args.text.now c.records_of-records.ensures))
    c.from_residual.ensures.1

pub returns-clause-rows : goal.returns-clause-rows
returns-clause-rows c = c.in_ok-take_records.ensures.rows c.args.text.now c.records_of-records.ensures
