-- A certificate has one verdict, and the number of a valid one is the fewest.
use Rattle.ov_check.proofs.Verdicts.{valid_where_ok, fewest_where_ok}
use Rattle.ov_check.proofs.parallel.check_group_parallel.Goals as goal

pub returns-clause-valid : goal.returns-clause-valid
returns-clause-valid g c = valid_where_ok c.args.graph.now c.args.group.now c.args.cert.now c.nodes.ensures.graph _
    c.judge_parts.ensures.verdict

pub returns-clause-fewest : goal.returns-clause-fewest
returns-clause-fewest g c = fewest_where_ok c.args.graph.now c.args.group.now c.args.cert.now _
    c.judge_parts.ensures.verdict
