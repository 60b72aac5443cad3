use Rattle.std.proofs.Common.{List, ℕ, ◌≤◌, length, sym, subst}
use Rattle.ov_even.proofs.AnalysisSteps.Narrowing.{members_few}
use Rattle.ov_even.proofs.group_desk.total_to_share.Goals as goal

pub group_total-requires-clause-members : goal.group_total-requires-clause-members
group_total-requires-clause-members c =
    subst (λ (xs : List ℕ). length c.args.group.now ≤ length xs) (sym c.nodes-2.ensures.nodes)
    (members_few c.args.graph.now c.args.group.now c.requires)
