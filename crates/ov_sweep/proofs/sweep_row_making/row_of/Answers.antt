use Rattle.std.proofs.Common.{refl, inl, inr}
use Rattle.ov_sweep.specs.Sweeps.{IsRunRefusal}
use Rattle.ov_grow.specs.declared.fault.GrowFault.TheVariants.{OutOfMemory}
use Rattle.ov_grow.proofs.Going.{passes_on}
use Rattle.ov_sweep.proofs.sweep_row_making.row_of.Goals as goal

pub returns-in_err-logged-clause-refused : goal.returns-in_err-logged-clause-refused
returns-in_err-logged-clause-refused c =
    passes_on (IsRunRefusal c.args.measures c.args.options.now) c.from_residual.result
    c.in_err-logged.field-0.0 c.from_residual.ensures.1 c.in_err-logged.ensures.refused

pub returns-in_err-row_told-clause-refused : goal.returns-in_err-row_told-clause-refused
returns-in_err-row_told-clause-refused c =
    passes_on (IsRunRefusal c.args.measures c.args.options.now) c.from_residual-in_err-row_told.result
    OutOfMemory c.from_residual-in_err-row_told.ensures.1 (record { full = inr (inr refl); reason = inl refl })
