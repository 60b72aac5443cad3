-- The rows that were kept are those of the runs.
use Rattle.std.proofs.Common.{sym, subst}
use Rattle.std.specs.Global.{Global}
use Rattle.std.specs.Prelude.{Vec}
use Rattle.ov_sweep_rows.specs.declared.measures.Measures.{Measures}
use Rattle.ov_sweep_rows.specs.declared.row.Row.{Row}
use Rattle.ov_grow_commands.specs.KeptRows.{AreGrown, asked_measures}
use Rattle.ov_grow_commands.proofs.KeptRows.{kept_grown}
use Rattle.ov_grow_commands.proofs.sweep_command.rows_swept.Goals as goal

pub returns : goal.returns
returns g c = λ needed.
    subst (λ (v : Vec Row Global). AreGrown (asked_measures c.args.request.now) v.items) (sym c.into_kept.ensures)
    (subst (λ (m : Measures). AreGrown m c.sweep-done.new.taker.kept.items) c.measures_asked.ensures
    (kept_grown c.measures_asked.result (λ s r t. Unit {0}) c.runs.result c.args.request.now
    c.sweep-done.new.taker.request.now c.sweep-done.new.taker.kept.items _ _ needed c.new-printer.ensures
    c.sweep-done.ensures))
