-- The pieces that are found are those of the level below the deciding piece.
use Rattle.std.proofs.Common.{◌≡◌, ◌∙◌, ◌-◌, ℕ, map, sym, ap, subst, arith}
use Rattle.std.proofs.lemmas.Bool.{both_ways}
use Rattle.std.specs.Option.{option_copied}
use Rattle.ov_graph.specs.Links.{AreAllLinked}
use Rattle.ov_fans.specs.Pieces.{level_of}
use Rattle.ov_even.specs.Levels.{IsLevelDone}
use Rattle.ov_even.specs.Naming.{AreUnlinkedPieces}
use Rattle.ov_even.specs.Code.Cuts.{IsDeciding, IsFirstCut, all_settled}
use Rattle.ov_even.specs.declared.worker_haul.Keeping.TheVariants.{EachPiece}
use Rattle.ov_even.proofs.PieceOrder.PieceLevels.{level_low}
use Rattle.ov_even.proofs.EvenTest.Firsts.{fails_apart, one_first}
use Rattle.ov_even.proofs.AnalysisSteps.Assembling.{deciding, cleared_under, some_cut, level_under}
use Rattle.ov_even.proofs.paths_wanted_by_certificate.wanted_paths.Goals.{After-level}
use Rattle.ov_even.proofs.paths_wanted_by_certificate.wanted_paths.Goals as goal

pub returns-then-are_all_linked-clause-wanted : goal.returns-then-are_all_linked-clause-wanted
returns-then-are_all_linked-clause-wanted c p first =
    absurd (fails_apart c.args.graph.now c.args.group.now p c.nodes.ensures.graph c.requires.group first.piece
    first.fails (c.are_all_linked.ensures.0 c.if-are_all_linked.true))

pub unreachable-requires : goal.unreachable-requires
unreachable-requires c =
    let hauls = c.args.hauls.now in
    let apart : ¬ AreAllLinked c.args.graph.now c.args.group.now = λ all.
    both_ways c.are_all_linked.result c.if-are_all_linked.false (c.are_all_linked.ensures.1 all) in
    some_cut c.args.graph.now c.args.group.now hauls apart (EachPiece, c.requires.suffice)
    (subst (λ o. IsFirstCut (all_settled hauls) (option_copied o)) c.in_default.is c.first_cut.ensures)

-- the deciding piece, and the level below it
decides_in : (c : After-level) → IsDeciding c.args.graph.now c.args.group.now c.in-Some.first.now
    × IsLevelDone EachPiece c.args.graph.now c.args.group.now c.args.hauls.now (level_of c.in-Some.first.now.piece - 1)
decides_in c =
    let g = c.args.graph.now in
    let q = c.args.group.now in
    let hauls = c.args.hauls.now in
    let s = c.in-Some.first.now in
    let graph = c.nodes.ensures.graph in
    let apart : ¬ AreAllLinked g q = λ all.
    both_ways c.are_all_linked.result c.if-are_all_linked.false (c.are_all_linked.ensures.1 all) in
    let low = subst (λ o. IsFirstCut (all_settled hauls) (option_copied o)) c.in-Some.is c.first_cut.ensures in (
      deciding g q hauls s graph c.requires.group apart (EachPiece, c.requires.suffice) low,
      cleared_under g q hauls s graph c.requires.group apart c.requires.suffice low,
    )

pub overflow_sub-level : goal.overflow_sub-level
overflow_sub-level c =
    let s = c.in-Some.first.now in
    let low = level_low c.args.graph.now c.args.group.now s.piece (decides_in c).0.first.piece in
    let is = c.level.ensures in
    omega (arith, low, is)

pub paths_at-requires-clause-below : goal.paths_at-requires-clause-below
paths_at-requires-clause-below c =
    (level_under c.args.graph.now c.args.group.now c.in-Some.first.now.piece c.level.result
    (decides_in c).0.first.piece c.level.ensures).0

pub paths_at-requires-clause-cleared : goal.paths_at-requires-clause-cleared
paths_at-requires-clause-cleared c =
    subst (λ (l : ℕ). IsLevelDone EachPiece c.args.graph.now c.args.group.now c.args.hauls.now (l - 1))
    (sym c.level.ensures) (decides_in c).1

pub returns-clause-wanted : goal.returns-clause-wanted
returns-clause-wanted c p first =
    let g = c.args.graph.now in
    let q = c.args.group.now in
    let s = c.in-Some.first.now in
    let apart : ¬ AreAllLinked g q = λ all.
    both_ways c.are_all_linked.result c.if-are_all_linked.false (c.are_all_linked.ensures.1 all) in
    let hauls = c.args.hauls.now in
    let low = subst (λ o. IsFirstCut (all_settled hauls) (option_copied o)) c.in-Some.is c.first_cut.ensures in
    let decides =
    deciding g q hauls s c.nodes.ensures.graph c.requires.group apart (EachPiece, c.requires.suffice) low in
    let same = one_first g q s.piece p decides.first first in
    let level : c.level.result - 1 ≡ level_of p - 1 =
    ap (λ (l : ℕ). l - 1) (c.level.ensures ∙ ap level_of same) in
    subst (λ (k : ℕ). AreUnlinkedPieces g q k (map (λ f. f.piece) c.in_ok-paths_at.field-0.items)) level
    c.in_ok-paths_at.ensures.pieces
