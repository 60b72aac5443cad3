use Rattle.std.proofs.Common.{◌≡◌, ℕ, ◌+◌, ◌-◌, ◌∙◌, sym, ap, subst, slice_get, Some}
use Rattle.std.proofs.lemmas.Option.{slice_get_within}
use Rattle.ov_fans.specs.Pieces.{level_of}
use Rattle.ov_fans.specs.declared.piece.Piece.{Piece}
use Rattle.ov_fans.specs.declared.piece.Piece.TheVariants.{Pair, Fan}
use Rattle.ov_fans.specs.Pieces.{IsPieceOf, IsPairPiece, IsFanPiece}
use Rattle.ov_even.specs.Code.Levels.{pieces_of_level}
use Rattle.ov_even.proofs.PieceNumbers.LevelPlaces.{pair_placed, fan_placed}
use Rattle.ov_even.proofs.level_pieces.place_in_level.Goals as goal

pub returns-in-Pair-clause-place : goal.returns-in-Pair-clause-place
returns-in-Pair-clause-place c =
    let a = c.in-Pair in
    let m = c.args.m in
    let n = c.requires.0 in
    let p : IsPairPiece n m a.level a.i a.j = subst (IsPieceOf n m) a.is c.requires.1 in
    let place = c.pair_count.result + (a.i - 1) in
    let there : slice_get (pieces_of_level m a.level) place ≡ Some (Pair a.level a.i a.j) =
    ap (λ (x : ℕ). slice_get (pieces_of_level m a.level) (x + (a.i - 1))) c.pair_count.ensures.count
    ∙ pair_placed m a.level a.i a.j p.first p.less p.among p.member in
    subst (λ (q : Piece). slice_get (pieces_of_level m (level_of q)) place ≡ Some q) (sym a.is) there

pub returns-in-Pair-clause-below : goal.returns-in-Pair-clause-below
returns-in-Pair-clause-below c =
    let place = c.pair_count.result + (c.in-Pair.i - 1) in
    slice_get_within (pieces_of_level c.args.m (level_of c.args.piece)) place c.args.piece
    (returns-in-Pair-clause-place c)

pub returns-in-Fan-clause-place : goal.returns-in-Fan-clause-place
returns-in-Fan-clause-place c =
    let a = c.in-Fan in
    let m = c.args.m in
    let n = c.requires.0 in
    let p : IsFanPiece n m a.level a.j = subst (IsPieceOf n m) a.is c.requires.1 in
    let place = c.pair_count-in-Fan.result + (a.j - a.level - 1) in
    let there : slice_get (pieces_of_level m a.level) place ≡ Some (Fan a.level a.j) =
    ap (λ (x : ℕ). slice_get (pieces_of_level m a.level) (x + (a.j - a.level - 1))) c.pair_count-in-Fan.ensures.count
    ∙ fan_placed m a.level a.j p.later p.member in
    subst (λ (q : Piece). slice_get (pieces_of_level m (level_of q)) place ≡ Some q) (sym a.is) there

pub returns-in-Fan-clause-below : goal.returns-in-Fan-clause-below
returns-in-Fan-clause-below c =
    let place = c.pair_count-in-Fan.result + (c.in-Fan.j - c.in-Fan.level - 1) in
    slice_get_within (pieces_of_level c.args.m (level_of c.args.piece)) place c.args.piece
    (returns-in-Fan-clause-place c)
