-- The paths of a pair go on to the other member.
use Rattle.std.proofs.Common.{◌≡◌, List, ℕ, IfOk, map, subst}
use Rattle.ov_graph.specs.Paths.{node_at}
use Rattle.ov_fans.specs.Pieces.{AreAskedPaths, paths_of}
use Rattle.ov_fans.proofs.PieceNets.Ended.{pair_ended, holds_of}
use Rattle.ov_fans.proofs.piece_paths_by_ids.asked_paths.Goals as goal

pub returns-in-Pair-clause-same : goal.returns-in-Pair-clause-same
returns-in-Pair-clause-same c =
    let g = c.args.graph.now in
    let q = c.args.group.now in
    let p = c.args.piece in
    let e = pair_ended g q p c.in-Pair.level c.in-Pair.i c.in-Pair.j c.index-group-j.result c.args.paths.now
    c.in-Pair.is c.requires.piece c.index-group-j.is in
    subst (λ (xs : List (List ℕ)). IfOk c.by_ids.result (λ ps. ps ≡ xs)) e c.by_ids.ensures

pub returns-in-Pair-clause-asked : goal.returns-in-Pair-clause-asked
returns-in-Pair-clause-asked c =
    let g = c.args.graph.now in
    let q = c.args.group.now in
    let p = c.args.piece in
    holds_of (λ ps. AreAskedPaths g q p ps) (paths_of q p (map (map (node_at g)) c.args.paths.now)) c.by_ids.result
    c.requires.right.asked (returns-in-Pair-clause-same c)
