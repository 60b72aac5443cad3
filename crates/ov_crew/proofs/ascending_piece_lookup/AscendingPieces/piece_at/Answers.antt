-- There is a piece with the number.
use Rattle.std.proofs.Common.{sym, subst}
use Rattle.ov_even.specs.Order.{AreMoreThan}
use Rattle.ov_crew.specs.Code.Ascending.{GroupSizes}
use Rattle.ov_crew.proofs.ascending_piece_lookup.AscendingPieces.piece_at.Goals as goal

pub level_from-level-requires-clause-below : goal.level_from-level-requires-clause-below
level_from-level-requires-clause-below c =
    subst (λ (s : GroupSizes). AreMoreThan s.nodes s.members c.args.number) (sym c.self.view_is) c.requires

pub piece_in-requires-clause-below : goal.piece_in-requires-clause-below
piece_in-requires-clause-below c =
    subst (λ (s : GroupSizes). AreMoreThan s.nodes s.members c.args.number) (sym c.self.view_is) c.requires
