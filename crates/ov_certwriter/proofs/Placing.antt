-- The entries by places of pieces that were found stand for their entries by ids.
use Rattle.std.proofs.Common.{◌≡◌, ◌∙◌, ℕ, ◌+◌, ◌<◌, List, [], ◌∷◌, ◌++◌, map, take, length, slice_index_or, Some, None}
use Rattle.std.proofs.Common.{refl, sym, ap}
use Rattle.std.proofs.lemmas.List.{take_more, map-append}
use Rattle.ov_graph.specs.Links.{LinkGraph}
use Rattle.ov_graph.specs.Paths.{node_at}
use Rattle.ov_flow.specs.Flow.{ended_by}
use Rattle.ov_fans.specs.Pieces.{member_at, paths_of}
use Rattle.ov_fans.specs.declared.piece.Piece.{Piece}
use Rattle.ov_fans.specs.declared.piece.Piece.TheVariants.{Pair, Fan}
use Rattle.ov_even.specs.Naming.{named_of}
use Rattle.ov_even.specs.declared.paths_by_ids.FoundPaths.{FoundPaths}
use Rattle.ov_certwriter.specs.Code.Placed.{by_ids}

ended_paths : (f : ℕ → ℕ) (x : ℕ) (paths : List (List ℕ))
    → map (λ path. path ++ x ∷ []) (map (map f) paths) ≡ map (λ path. ended_by (Some x) (map f path)) paths
ended_paths f x [] = refl
ended_paths f x (path ∷ paths) = ap (λ (ps : List (List ℕ)). (map f path ++ x ∷ []) ∷ ps) (ended_paths f x paths)

-- the paths of a pair end at its second member
pub pair_by_ids : (g : LinkGraph) (q : List ℕ) (p : Piece) (level i j x : ℕ) (paths : List (List ℕ))
    → p ≡ Pair level i j → x ≡ member_at q j
    → paths_of q p (map (map (node_at g)) paths) ≡ by_ids g (Some x) paths
pair_by_ids g q p level i j x paths is at =
    ap (λ (r : Piece). paths_of q r (map (map (node_at g)) paths)) is
    ∙ ap (λ (y : ℕ). map (λ path. path ++ y ∷ []) (map (map (node_at g)) paths)) (sym at)
    ∙ ended_paths (node_at g) x paths

pub fan_by_ids : (g : LinkGraph) (q : List ℕ) (p : Piece) (level j : ℕ) (paths : List (List ℕ))
    → p ≡ Fan level j → paths_of q p (map (map (node_at g)) paths) ≡ by_ids g None paths
fan_by_ids g q p level j paths is = ap (λ (r : Piece). paths_of q r (map (map (node_at g)) paths)) is

-- one more piece
pub named_more : (g : LinkGraph) (q : List ℕ) (found : List FoundPaths) (i : ℕ) (f : FoundPaths) → i < length found
    → f ≡ slice_index_or found i f
    → map (named_of g q) (take (i + 1) found) ≡ map (named_of g q) (take i found) ++ named_of g q f ∷ []
named_more g q found i f low is =
    ap (map (named_of g q)) (take_more found i f low ∙ ap (λ (x : FoundPaths). take i found ++ x ∷ []) (sym is))
    ∙ map-append (named_of g q) (take i found) (f ∷ [])
