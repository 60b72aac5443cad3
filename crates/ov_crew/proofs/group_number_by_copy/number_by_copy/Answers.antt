-- The outline says the number.
use Rattle.std.proofs.Common.{ℕ, ◌+◌, take, sym, subst}
use Rattle.ov_graph.specs.Joined.{NoFewerSplit}
use Rattle.ov_crew.proofs.group_number_by_copy.number_by_copy.Goals as goal

pub returns-clause-unsplit : goal.returns-clause-unsplit
returns-clause-unsplit g c =
    let first = take c.in_ok-unsplit.unsplit c.args.group.now in
    subst (λ (k : ℕ). NoFewerSplit c.args.graph.now first (k + 1)) (sym c.number_of.ensures)
    c.in_ok-unsplit.ensures.unsplit
