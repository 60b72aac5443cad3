-- The first of the settled pieces that have a cut as their result.
use Rattle.std.specs.Prelude.{ℕ, List, [], ◌∷◌, ◌++◌, Option, Some, None}
use Rattle.ov_ids.specs.Members.{Has}
use Rattle.ov_fans.specs.Theorems.{IsNoCut}
use Rattle.ov_fans.specs.declared.piece_result.Settled.{Settled}
use Rattle.ov_graph.specs.Links.{LinkGraph}
use Rattle.ov_fans.specs.Cuts.{IsRight}
use Rattle.ov_even.specs.Order.{ComesBefore}
use Rattle.ov_even.specs.First.{IsFirst}
use Rattle.ov_even.specs.declared.worker_haul.Haul.{Haul}

-- the pieces of all hauls, one haul after another
abbrev pub all_settled : List Haul → List Settled
all_settled [] = []
all_settled (haul ∷ hauls) = haul.pieces.items ++ all_settled hauls

-- s is one of these pieces and has a cut, and no piece with a cut comes before it
pub record IsLowestCut (seen : List Settled) (s : Settled) : Type 0 where
  pub there : Has seen s
  pub cut : ¬ IsNoCut s.found
  pub lowest : (t : Settled) → Has seen t → ¬ IsNoCut t.found → ¬ ComesBefore t.piece s.piece

-- the first of these pieces, in the order of pieces, that has a cut; None if none has one
abbrev pub IsFirstCut : List Settled → Option Settled → Type 0
IsFirstCut seen None = (t : Settled) → Has seen t → IsNoCut t.found
IsFirstCut seen (Some s) = IsLowestCut seen s

-- the piece has a cut, and comes before the first known piece with a cut
abbrev pub IsEarlierCut : Settled → Option Settled → Type 0
IsEarlierCut t None = ¬ IsNoCut t.found
IsEarlierCut t (Some s) = (¬ IsNoCut t.found) × ComesBefore t.piece s.piece

-- the piece is the first that is not good, and its result is right and a cut
pub record IsDeciding (g : LinkGraph) (q : List ℕ) (s : Settled) : Type 0 where
  pub first : IsFirst g q s.piece
  pub right : IsRight g q s
  pub cut : ¬ IsNoCut s.found
