-- The board shares out as many numbers as there are pieces.
use Rattle.std.proofs.Common.{◌+◌, length, arith}
use Rattle.ov_even.proofs.AnalysisSteps.Narrowing.{members_few}
use Rattle.ov_even.proofs.PieceNumbers.Numbering.{more_from_total, one_total, so_many}
use Rattle.ov_even.proofs.PieceNumbers.Totals.{total_small}
use Rattle.ov_even.specs.Code.Levels.{all_pieces}
use Rattle.ov_crew.proofs.worker.work_group.Goals as goal

pub work_range-requires-clause-range : goal.work_range-requires-clause-range
work_range-requires-clause-range g c κs within x low = more_from_total (length c.args.graph.now.nodes)
    (length c.args.group.now) (0 + x) c.args.board.now.total c.requires.total (omega (arith, low))

pub work_range-requires-clause-small : goal.work_range-requires-clause-small
work_range-requires-clause-small g c κs within =
    let n = length c.args.graph.now.nodes in
    let m = length c.args.group.now in
    let few = members_few c.args.graph.now c.args.group.now c.requires.group in
    let same = one_total n m c.args.board.now.total (length (all_pieces n m)) c.requires.total (so_many n m) in
    omega (arith, same, total_small n m c.nodes.ensures.within few)
