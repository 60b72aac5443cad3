use Rattle.ov_sweep_rows.proofs.Named.{joined_five}
use Rattle.ov_sweep_rows.proofs.Taking.{on_ok}
use Rattle.ov_sweep_rows.proofs.columns.push_columns.Goals as goal

pub returns : goal.returns
returns c =
    on_ok c.push_phases-3.result _ _
    (λ last. joined_five _ _ _ _ _ _ _ _ _ _ _ c.in_ok-push_options.ensures c.in_ok-push_phases.ensures
    c.in_ok-push_options-2.ensures c.in_ok-push_phases-2.ensures last)
    c.push_phases-3.ensures
