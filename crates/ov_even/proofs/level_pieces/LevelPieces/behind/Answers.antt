-- The first member alone has no pieces.
use Rattle.std.proofs.Common.{◌≡◌, ◌∙◌, ◌+◌, ◌++◌, ℕ, List, suc, sym, ap, subst, arith}
use Rattle.ov_fans.specs.declared.piece.Piece.{Piece}
use Rattle.ov_even.specs.Code.Levels.{columns_behind, pieces_of_level, pieces_from}
use Rattle.ov_even.proofs.PieceNumbers.LevelSteps.{all_behind}
use Rattle.ov_even.proofs.level_pieces.LevelPieces.behind.Goals as goal

pub returns-then-done-eq0 : goal.returns-then-done-eq0
unfolding columns_behind
returns-then-done-eq0 c =
    let e = c.if-done-eq0.true in
    subst (λ (n : ℕ). pieces_of_level c.args.m c.args.level ≡ pieces_of_level n c.args.level ++ c.new.result) (sym e)
    (sym c.new.ensures)

pub returns : goal.returns
returns c =
    let next : suc c.args.done ≡ c.args.done + 1 = omega arith in
    all_behind c.args.m c.args.level c.args.done c.requires.done
    ∙ ap (λ (x : ℕ). pieces_of_level c.args.done c.args.level ++ pieces_from c.args.m c.args.level x 1) next
    ∙ ap (λ (xs : List Piece). pieces_of_level c.args.done c.args.level ++ xs) (sym c.from_column.ensures)
