-- The cuts of a piece, its nearest minimum cut, and the right results for a piece (Menger, Fund. Math. 10, 1927).
use Rattle.std.specs.Prelude.{◌≡◌, ◌↔◌, ℕ, ◌<◌, ◌≤◌, List, [], ◌∷◌, map, length}
use Rattle.ov_ids.specs.Members.{Has, IsApart}
use Rattle.ov_graph.specs.Links.{LinkGraph}
use Rattle.ov_graph.specs.Joined.{Joined, IsNodeSet}
use Rattle.ov_graph.specs.Paths.{node_at}
use Rattle.ov_flow.specs.Flow.{ArePlaces}
use Rattle.ov_fans.specs.Pieces.{member_at, level_of, source_of, IsTarget, IsLinkedPair, AreAskedPaths, paths_of}
use Rattle.ov_fans.specs.declared.piece.Piece.{Piece}
use Rattle.ov_fans.specs.declared.piece.Piece.TheVariants.{Pair, Fan}
use Rattle.ov_fans.specs.declared.piece_result.Parting.{Parting}
use Rattle.ov_fans.specs.declared.piece_result.Found.{Found}
use Rattle.ov_fans.specs.declared.piece_result.Found.TheVariants.{Linked, Paths, Cut}
use Rattle.ov_fans.specs.declared.piece_result.Settled.{Settled}

-- the members that a cut of the piece may not have: its source, and for a pair the other member too
abbrev pub spared : List ℕ → Piece → List ℕ
spared q (Pair level i j) = member_at q i ∷ member_at q j ∷ []
spared q (Fan level j) = member_at q j ∷ []

-- a cut of a piece: a set of nodes without which its source is joined to none of its targets. It has no member of
-- `spared`
pub record IsCut (g : LinkGraph) (q : List ℕ) (p : Piece) (s : List ℕ) : Type 0 where
  pub set : IsNodeSet g s
  pub leaves : IsApart s (spared q p)
  pub parts : (t : ℕ) → IsTarget q p t → ¬ Joined g s (source_of q p) t

-- a minimum cut: no cut has fewer nodes
pub record IsLeast (g : LinkGraph) (q : List ℕ) (p : Piece) (s : List ℕ) : Type 0 where
  pub cut : IsCut g q p s
  pub least : (t : List ℕ) → IsCut g q p t → length s ≤ length t

-- the nearest minimum cut: each node that is joined to the source without it is joined to the source without every
-- other minimum cut too (Ford and Fulkerson, Flows in Networks, 1962)
pub record IsNearest (g : LinkGraph) (q : List ℕ) (p : Piece) (s : List ℕ) : Type 0 where
  pub least : IsLeast g q p s
  pub nearest : (t : List ℕ) → IsLeast g q p t → (x : ℕ) → Joined g s (source_of q p) x → Joined g t (source_of q p) x

-- `far` is the lowest target that is not in the cut
pub record IsFar (q : List ℕ) (p : Piece) (cut : List ℕ) (far : ℕ) : Type 0 where
  pub target : IsTarget q p far
  pub left : ¬ Has cut far
  pub lowest : (t : ℕ) → IsTarget q p t → ¬ Has cut t → far ≤ t

-- the side of a cut: all nodes that are joined to `near` without it
pub record IsSide (g : LinkGraph) (cut : List ℕ) (near : ℕ) (side : List ℕ) : Type 0 where
  pub set : IsNodeSet g side
  pub each : (x : ℕ) → Has side x ↔ Joined g cut near x

-- c is the parting of the piece: its cut is the nearest minimum cut, with fewer nodes than the level, and near, far and
-- side are those of this cut
pub record IsParted (g : LinkGraph) (q : List ℕ) (p : Piece) (c : Parting) : Type 0 where
  pub cut : IsNearest g q p c.cut
  pub few : length c.cut < level_of p
  pub near : c.near ≡ source_of q p
  pub far : IsFar q p c.cut c.far
  pub side : IsSide g c.cut c.near c.side

-- the paths, which are by places of nodes, are paths that the piece asks for
pub record AreRightPaths (g : LinkGraph) (q : List ℕ) (p : Piece) (paths : List (List ℕ)) : Type 0 where
  pub places : ArePlaces g paths
  pub asked : AreAskedPaths g q p (paths_of q p (map (map (node_at g)) paths))

-- the result is right for the piece. `Linked`: it is a linked pair. `Paths`: it is no linked pair, and these are paths
-- that it asks for. `Cut`: this is its parting
abbrev pub IsFoundFor : LinkGraph → List ℕ → Piece → Found → Type 0
IsFoundFor g q p Linked = IsLinkedPair g q p
IsFoundFor g q p (Paths paths) = ¬ IsLinkedPair g q p × AreRightPaths g q p paths
IsFoundFor g q p (Cut parting) = IsParted g q p parting.value

-- a settled piece has the right result
abbrev pub IsRight : LinkGraph → List ℕ → Settled → Type 0
IsRight g q s = IsFoundFor g q s.piece s.found
