-- Theorems about all desks.
use Rattle.std.specs.Prelude.{◌≡◌, ◌⊎◌, ℕ, List, length}
use Rattle.ov_graph.specs.Links.{LinkGraph, IsGraph, IsGroup, AreAllLinked}
use Rattle.ov_fans.specs.Pieces.{IsPiece}
use Rattle.ov_fans.specs.Theorems.{IsNoCut}
use Rattle.ov_fans.specs.declared.piece.Piece.{Piece}
use Rattle.ov_fans.specs.declared.piece_result.Settled.{Settled}
use Rattle.ov_ids.specs.Workers.{MayWork}
use Rattle.ov_board.specs.Theorems.{AllEnded}
use Rattle.ov_even.specs.Order.{ComesBefore, IsNumbered}
use Rattle.ov_even.specs.Desk.{GroupDeskState, IsOpened, IsSettledAt}
use Rattle.ov_even.specs.SoundDesk.{IsSoundDesk}
use Rattle.ov_even.specs.Turns.{WasClaimed, WasLookedAt, WasSettled}

-- a new desk is sound, and each turn keeps a sound desk sound
pub record StaysSound : Type 0 where
  pub opened : (g : LinkGraph) (m : ℕ) (q : List ℕ) (workers : ℕ) (d : GroupDeskState) → IsGroup g q
      → MayWork workers → IsOpened g m q workers d → IsSoundDesk g d
  pub claimed : (g : LinkGraph) (d e : GroupDeskState) (w x : ℕ) → IsSoundDesk g d → WasClaimed d w x e
      → IsSoundDesk g e
  pub looked_at : (g : LinkGraph) (d e : GroupDeskState) (w least : ℕ) → IsSoundDesk g d → WasLookedAt d w least e
      → IsSoundDesk g e
  pub settled : (g : LinkGraph) (d e : GroupDeskState) (w : ℕ) → IsSoundDesk g d → WasSettled g d w e
      → IsSoundDesk g e

-- each piece before this one was settled at the desk, without a cut
abbrev pub AreClearedBefore : LinkGraph → GroupDeskState → Piece → Type 0
AreClearedBefore g d p =
    (r : Piece) → IsPiece g d.members r → ComesBefore r p
    → (t : Settled) × IsSettledAt d t × (t.piece ≡ r) × IsNoCut t.found

-- the desk has decided: the piece of the lowest failed number was settled with a cut, and every piece before it without
pub record HasDecided (g : LinkGraph) (d : GroupDeskState) : Type 0 where
  pub deciding : Settled
  pub there : IsSettledAt d deciding
  pub number : IsNumbered (length g.nodes) (length d.members) d.claims.least deciding.piece
  pub cut : ¬ IsNoCut deciding.found
  pub before : AreClearedBefore g d deciding.piece

-- if all workers have ended, every two members are linked or the desk has decided (Menger, Fund. Math. 10, 1927)
abbrev pub EndedDecides : Type 0
EndedDecides = (g : LinkGraph) (d : GroupDeskState) → IsGraph g → IsSoundDesk g d → AllEnded d.claims
    → AreAllLinked g d.members ⊎ HasDecided g d
