-- From the result of a search of the net to the result of the piece.
use Rattle.std.proofs.Common.{◌≡◌, ◌∙◌, ℕ, ◌<◌, List, [], ◌∷◌, ◌++◌, length, map, refl, sym}
use Rattle.std.proofs.Common.{ap, ap₂, subst, arith}
use Rattle.ov_graph.specs.Links.{LinkGraph, IsGraph, IsGroup}
use Rattle.ov_graph.specs.Paths.{node_at}
use Rattle.ov_graph.specs.Row.{HasBit}
use Rattle.ov_graph.specs.Row.{picked}
use Rattle.ov_split.specs.SplitNetState.{SplitNetState, IsFanOf}
use Rattle.ov_flow.specs.Flow.{IsFull, IsFullBy, ArePlaces}
use Rattle.ov_flow.specs.declared.search_result.CutRows.{CutRows}
use Rattle.ov_flow.proofs.Rows.{full_picked, bits_within}
use Rattle.ov_fans.specs.Pieces.{member_at, level_of, source_of, source_place, IsPiece, AreAskedPaths}
use Rattle.ov_fans.specs.Cuts.{IsCut, IsNearest, IsFar, IsSide, IsParted, AreRightPaths}
use Rattle.ov_fans.specs.Code.Nets.{net_of}
use Rattle.ov_fans.specs.declared.piece.Piece.{Piece}
use Rattle.ov_fans.specs.declared.piece.Piece.TheVariants.{Pair, Fan}
use Rattle.ov_fans.specs.declared.piece_result.Parting.{Parting}
use Rattle.ov_fans.proofs.PieceCuts.Parted.{cut_of, nearest_of, side_of}
use Rattle.ov_fans.proofs.PieceNets.Routes.{asked_paths}

-- where no more paths are found than a cut has nodes, it is a cut of the piece
pub cut_found : (g : LinkGraph) (q : List ℕ) (p : Piece) (k : ℕ) (cut side : List ℕ) → IsGraph g → IsGroup g q
    → IsPiece g q p → IsFull (net_of g q p) k cut side → k < level_of p → IsCut g q p cut × (length cut < level_of p)
cut_found g q p k cut side graph group at full few = (
  (cut_of g q p graph group at cut).0 full.nearest.least.cut,
  (let e = full.size in omega (arith, e, few)),
)

-- and with its far member and its side it parts the piece
pub parted_of : (g : LinkGraph) (q : List ℕ) (p : Piece) (k : ℕ) (cut side : List ℕ) (c : Parting) → IsGraph g
    → IsGroup g q → IsPiece g q p → IsFull (net_of g q p) k cut side → k < level_of p → c.cut ≡ cut
    → c.near ≡ source_of q p → IsFar q p cut c.far → c.side ≡ side → IsParted g q p c
parted_of g q p k cut side c graph group at full few same near far sides =
    let n = (nearest_of g q p graph group at cut).0 full.nearest in
    let s = side_of g q p cut side n.least.cut full.side_of in
    let t = subst (λ (xs : List ℕ). IsSide g cut (source_of q p) xs) (sym sides) s in
    let u = subst (λ (a : ℕ). IsSide g cut a c.side) (sym near) t in
    record {
      cut = subst (λ (xs : List ℕ). IsNearest g q p xs) (sym same) n;
      few = subst (λ (xs : List ℕ). length xs < level_of p) (sym same)
          (cut_found g q p k cut side graph group at full few).1;
      near = near;
      far = subst (λ (xs : List ℕ). IsFar q p xs c.far) (sym same) far;
      side = subst (λ (xs : List ℕ). IsSide g xs c.near c.side) (sym same) u;
    }

pub map_push : (f : ℕ → ℕ) (path : List ℕ) (x : ℕ) → map f (path ++ x ∷ []) ≡ map f path ++ f x ∷ []
map_push f [] x = refl
map_push f (y ∷ path) x = ap (λ (t : List ℕ). f y ∷ t) (map_push f path x)

maps_push : (f : ℕ → ℕ) (x : ℕ) (paths : List (List ℕ))
    → map (map f) (map (λ path. path ++ x ∷ []) paths) ≡ map (λ path. path ++ f x ∷ []) (map (map f) paths)
maps_push f x [] = refl
maps_push f x (path ∷ paths) =
    ap₂ (λ (t : List ℕ) (ts : List (List ℕ)). t ∷ ts) (map_push f path x) (maps_push f x paths)

-- paths by place, with the place of the other member at the end of each, are those that a pair asks for
pub pair_paths : (g : LinkGraph) (q : List ℕ) (level i j other : ℕ) (paths : List (List ℕ)) → IsGraph g → IsGroup g q
    → IsPiece g q (Pair level i j) → node_at g other ≡ member_at q j
    → IsFanOf (net_of g q (Pair level i j)) level (map (map (node_at g)) paths)
    → AreAskedPaths g q (Pair level i j) (map (map (node_at g)) (map (λ path. path ++ other ∷ []) paths))
pair_paths g q level i j other paths graph group at node fan =
    let e : map (map (node_at g)) (map (λ path. path ++ other ∷ []) paths)
    ≡ map (λ path. path ++ member_at q j ∷ []) (map (map (node_at g)) paths) =
    maps_push (node_at g) other paths
    ∙ ap (λ (x : ℕ). map (λ path. path ++ x ∷ []) (map (map (node_at g)) paths)) node in
    subst (λ (ps : List (List ℕ)). AreAskedPaths g q (Pair level i j) ps) (sym e)
    (asked_paths g q (Pair level i j) (map (map (node_at g)) paths) graph group at fan)

-- the result of a search of the net of a piece, in terms of the graph
pub record IsFullIn {W : ℕ} (g : LinkGraph) (q : List ℕ) (p : Piece) (k : ℕ) (s : CutRows W) : Type 0 where
  pub full : IsFull (net_of g q p) k (picked s.cut 0 g.nodes) (picked s.side 0 g.nodes)
  pub cut_places : (i : ℕ) → HasBit s.cut i → i < length g.nodes
  pub side_places : (i : ℕ) → HasBit s.side i → i < length g.nodes

pub full_in : {W : ℕ} (g : LinkGraph) (q : List ℕ) (p : Piece) (k : ℕ) (s : CutRows W) → IsGraph g
    → IsFullBy (net_of g q p) k s
    → IsFullIn g q p k s
full_in g q (Pair level i j) k s graph f = record {
  full = full_picked (net_of g q (Pair level i j)) k s graph f;
  cut_places = bits_within g s.cut f.cut f.cut_row;
  side_places = bits_within g s.side f.side f.side_row;
}
full_in g q (Fan level j) k s graph f = record {
  full = full_picked (net_of g q (Fan level j)) k s graph f;
  cut_places = bits_within g s.cut f.cut f.cut_row;
  side_places = bits_within g s.side f.side f.side_row;
}

pub source_at : (q : List ℕ) (p : Piece) → member_at q (source_place p) ≡ source_of q p
source_at q (Pair level i j) = refl
source_at q (Fan level j) = refl

-- paths of the net, by place, are those that the piece asks for
pub right_paths : (g : LinkGraph) (q : List ℕ) (p : Piece) (n : SplitNetState) (paths : List (List ℕ)) → IsGraph g
    → IsGroup g q
    → IsPiece g q p → n ≡ net_of g q p → IsFanOf n (level_of p) (map (map (node_at n.graph)) paths)
    → ArePlaces n.graph paths → AreRightPaths g q p paths
right_paths g q p n paths graph group at is fan places =
    let e : n.graph ≡ g = ap (λ (m : SplitNetState). m.graph) is ∙ net_graph g q p in
    record {
      places = subst (λ (h : LinkGraph). ArePlaces h paths) e places;
      asked = asked_paths g q p (map (map (node_at g)) paths) graph group at
          (subst (λ (m : SplitNetState). IsFanOf m (level_of p) (map (map (node_at g)) paths)) is
          (subst (λ (h : LinkGraph). IsFanOf n (level_of p) (map (map (node_at h)) paths)) e fan));
    }
  where
    net_graph : (g : LinkGraph) (q : List ℕ) (p : Piece) → (net_of g q p).graph ≡ g
    net_graph g q (Pair level i j) = refl
    net_graph g q (Fan level j) = refl
