use Rattle.std.proofs.Common.{inr, refl}
use Rattle.std.proofs.lemmas.Result.{err_from_is_err_and}
use Rattle.ov_snap.proofs.snapshot_core.Core.open_desk.Goals as goal

pub returns-in_err-keep_desk-clause-refused : goal.returns-in_err-keep_desk-clause-refused
returns-in_err-keep_desk-clause-refused c =
    let exit = c.from_residual-in_err-keep_desk in
    let p = err_from_is_err_and exit.result exit.ensures.1 in
    rw (p.1, p.2) (inr (refl, c.in_ok-desk.ensures.judged))
