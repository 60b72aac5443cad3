-- A cell with the stamp of the table.
use Rattle.std.proofs.Common.{◌∙◌, ℕ, List, Option, Some, set, ap}
use Rattle.ov_flow.proofs.Stamping.{said_own, said_set}
use Rattle.ov_flow.proofs.place_table.PlaceTable.set.Goals as goal

pub returns : goal.returns
returns c =
    let t = c.self.inside in
    said_set t.stamp t.cells.items c.args.place (record { stamp = t.stamp; before = c.args.before })
    (Some c.args.before) (said_own t.stamp c.args.before)
    ∙ ap (λ (l : List (Option ℕ)). set l c.args.place (Some c.args.before)) c.self.view_is
