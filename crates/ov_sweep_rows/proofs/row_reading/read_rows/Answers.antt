use Rattle.ov_sweep_rows.proofs.Unrefused.{err_leads, ok_leads, only_memory, read_again}
use Rattle.ov_sweep_rows.proofs.row_reading.read_rows.Goals as goal

pub returns-clause-back : goal.returns-clause-back
returns-clause-back c =
    ok_leads c.rows_in.result _ _ (λ rows are. read_again c.args.text.now rows.items are) c.rows_in.ensures.rows

pub returns-clause-refused : goal.returns-clause-refused
returns-clause-refused c =
    err_leads c.rows_in.result _ _ (λ fault is. only_memory c.args.text.now fault is) c.rows_in.ensures.fault
