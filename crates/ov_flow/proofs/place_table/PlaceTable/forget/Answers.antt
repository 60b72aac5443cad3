-- No table has the stamp 0.
use Rattle.std.proofs.Common.{◌∙◌, ℕ, List, Option, None, set, ap, arith}
use Rattle.ov_flow.proofs.Stamping.{said_none, said_set}
use Rattle.ov_flow.proofs.place_table.PlaceTable.forget.Goals as goal

pub returns : goal.returns
returns c =
    let t = c.self.inside in
    let some = c.self.invariant.0 in
    said_set t.stamp t.cells.items c.args.place (record { stamp = 0; before = 0 }) None
    (said_none t.stamp (record { stamp = 0; before = 0 }) (λ e. omega (arith, e, some)))
    ∙ ap (λ (l : List (Option ℕ)). set l c.args.place None) c.self.view_is
