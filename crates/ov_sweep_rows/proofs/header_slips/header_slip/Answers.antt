-- The slip of the first record is that of the text.
use Rattle.std.proofs.Common.{◌≡◌, ℕ, List, Option, None, Some}
use Rattle.std.specs.Prelude.{IfSome}
use Rattle.ov_sweep_rows.specs.declared.header_slips.HeaderSlip.{HeaderSlip}
use Rattle.ov_sweep_rows.specs.Refusals.{IsHeaderSlip, IsSlipOf, first_record}
use Rattle.ov_sweep_rows.proofs.Refusing.{first_found}
use Rattle.ov_sweep_rows.proofs.header_slips.header_slip.Goals as goal

of_text : (text : List ℕ) (fields : List (List ℕ)) (slip : Option HeaderSlip) → first_record text ≡ Some fields
    → IfSome slip (IsSlipOf fields) → IfSome slip (IsHeaderSlip text)
of_text text fields None first is = tt
of_text text fields (Some slip) first is = (fields, first, is)

pub returns-in-Some-Ok : goal.returns-in-Some-Ok
returns-in-Some-Ok c =
    let stands = c.records_of.ensures.stands in
    let step = rw (c.in-Some-Ok.is, c.in-Some-Ok.field-0-is) at (c.next.ensures.steps stands.turns stands.plain) in
    of_text c.args.text.now _ c.in_ok-slip_of-in-Some-Ok.field-0
    (first_found c.args.text.now c.records_of.result.rdr c.next.new.self.rdr c.records_of.result.left
    c.next.new.self.left c.in-Some-Ok.fields stands (step.0 stands.ready))
    c.in_ok-slip_of-in-Some-Ok.ensures
