-- the slip so far is one
use Rattle.std.specs.Prelude.{IfSome}
use Rattle.csv.specs.Records.{fields_of}
use Rattle.ov_sweep_rows.specs.Refusals.{IsSlipOf}
use Rattle.ov_sweep_rows.proofs.header_slips.slip_of.Given as goal

abbrev pub invariant-loop-form : goal.invariant-loop-form
invariant-loop-form l = IfSome l.slip (IsSlipOf (fields_of l.fields))
