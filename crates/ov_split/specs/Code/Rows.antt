-- How the code keeps a net: a graph, the place of the source, and two rows of bits, for the places of the avoided nodes
-- and of the targets.
use Rattle.std.specs.Prelude.{ℕ, ◌<◌, List, length}
use Rattle.ov_graph.specs.Links.{LinkGraph, IsGraph}
use Rattle.ov_graph.specs.Paths.{node_at}
use Rattle.ov_graph.specs.Row.{HasBit}
use Rattle.ov_graph.specs.Row.{picked}
use Rattle.ov_split.specs.SplitNetState.{SplitNetState}

-- the net that these values represent
abbrev pub net_kept : LinkGraph → List ℕ → ℕ → List ℕ → SplitNetState
net_kept g avoided source targets = record {
  graph = g;
  avoided = picked avoided 0 g.nodes;
  source = node_at g source;
  targets = picked targets 0 g.nodes;
}

-- the source is the place of a node, and the bits are at places of other nodes
pub record IsNetKept (g : LinkGraph) (avoided : List ℕ) (source : ℕ) (targets : List ℕ) : Type 0 where
  pub graph : IsGraph g
  pub source_below : source < length g.nodes
  pub avoided_below : (p : ℕ) → HasBit avoided p → p < length g.nodes
  pub targets_below : (p : ℕ) → HasBit targets p → p < length g.nodes
  pub not_avoided : ¬ HasBit avoided source
  pub no_target : ¬ HasBit targets source
