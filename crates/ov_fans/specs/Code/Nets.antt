-- The net of a piece, in which its paths are sought.
use Rattle.std.specs.Prelude.{ℕ, List, [], ◌∷◌}
use Rattle.ov_graph.specs.Links.{LinkGraph}
use Rattle.ov_graph.specs.Even.{members_below}
use Rattle.ov_graph.specs.Code.Tests.{neighbours_in}
use Rattle.ov_split.specs.SplitNetState.{SplitNetState}
use Rattle.ov_fans.specs.Pieces.{member_at}
use Rattle.ov_fans.specs.declared.piece.Piece.{Piece}
use Rattle.ov_fans.specs.declared.piece.Piece.TheVariants.{Pair, Fan}

-- the net of a pair: from one member to the neighbours of the other, which is avoided. Its paths lack only their last
-- step, and its cuts are those of the pair
abbrev pub pair_net : LinkGraph → List ℕ → ℕ → ℕ → SplitNetState
pair_net g q i j = record {
  graph = g;
  avoided = member_at q j ∷ [];
  source = member_at q i;
  targets = neighbours_in g.links (member_at q j) g.nodes;
}

-- the net of a fan: from its source to the members before it
abbrev pub fan_net : LinkGraph → List ℕ → ℕ → SplitNetState
fan_net g q j =
    record { graph = g; avoided = []; source = member_at q j; targets = members_below q (member_at q j) }

-- the net of a piece
abbrev pub net_of : LinkGraph → List ℕ → Piece → SplitNetState
net_of g q (Pair level i j) = pair_net g q i j
net_of g q (Fan level j) = fan_net g q j
