-- A net whose nodes are places, as the search needs it.
use Rattle.std.specs.Prelude.{◌≡◌, ◌↔◌, ℕ, ◌<◌, ◌≤◌, List, length}
use Rattle.ov_ids.specs.Members.{Has}
use Rattle.ov_graph.specs.Links.{Linked, most_of_any_graph}
use Rattle.ov_graph.specs.Row.{HasBit}
use Rattle.ov_split.specs.SplitNetState.{SplitNetState, IsSplitNet}

-- the nodes of n are the places below `wide`, and a row of bits has room for all
pub record IsPlaced (n : SplitNetState) (wide : ℕ) : Type 0 where
  pub net : IsSplitNet n
  pub few : wide ≤ most_of_any_graph
  pub count : length n.graph.nodes ≡ wide
  pub nodes : (p : ℕ) → Has n.graph.nodes p ↔ (p < wide)

-- q is linked to p, and is not in the set, which is a row of bits
abbrev pub LinksOutside : SplitNetState → ℕ → List ℕ → ℕ → Type 0
LinksOutside n p set q = Linked n.graph p q × ¬ HasBit set q

-- q is linked to p, and is in the set
abbrev pub LinksWithin : SplitNetState → ℕ → List ℕ → ℕ → Type 0
LinksWithin n p set q = Linked n.graph p q × HasBit set q
