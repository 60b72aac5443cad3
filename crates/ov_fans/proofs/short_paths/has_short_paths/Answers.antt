-- Enough of them make the piece good.
use Rattle.std.proofs.Common.{sym, subst}
use Rattle.std.proofs.lemmas.Bool.{leb-true}
use Rattle.ov_fans.specs.Pieces.{IsPiece, IsGood}
use Rattle.ov_fans.specs.declared.piece.Piece.{Piece}
use Rattle.ov_fans.proofs.PieceCuts.Short.{pair_short, fan_short}
use Rattle.ov_fans.proofs.short_paths.has_short_paths.Goals as goal

pub returns-in-Pair : goal.returns-in-Pair
returns-in-Pair g c many =
    let g = c.args.group.now.graph in
    let q = c.args.group.now.members in
    let n = c.common_neighbours.result in
    let e = c.common_neighbours.ensures in
    let at = subst (λ (p : Piece). IsPiece g q p) c.in-Pair.is c.requires in
    subst (λ (p : Piece). IsGood g q p) (sym c.in-Pair.is)
    (pair_short g q c.in-Pair.level c.in-Pair.i c.in-Pair.j n e.graph e.group at e.number
    (leb-true c.in-Pair.level n many))

pub returns-in-Fan : goal.returns-in-Fan
returns-in-Fan g c many =
    let g = c.args.group.now.graph in
    let q = c.args.group.now.members in
    let n = c.earlier_neighbours.result in
    let e = c.earlier_neighbours.ensures in
    subst (λ (p : Piece). IsGood g q p) (sym c.in-Fan.is)
    (fan_short g q c.in-Fan.level c.in-Fan.j n e.graph e.number (leb-true c.in-Fan.level n many))
