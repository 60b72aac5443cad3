-- Paths by ids, each with the other member of a pair at its end.
use Rattle.std.proofs.Common.{◌≡◌, ◌∙◌, ℕ, ◌-◌, List, [], ◌∷◌, ◌++◌, map, slice_index_or, refl, sym, ap, subst}
use Rattle.std.proofs.Common.{Result, Ok, Err, Some, IfOk, arith}
use Rattle.ov_graph.specs.Links.{LinkGraph}
use Rattle.ov_graph.specs.Paths.{node_at}
use Rattle.ov_flow.specs.Flow.{ended_by}
use Rattle.ov_fans.specs.Pieces.{member_at, IsPiece, paths_of}
use Rattle.ov_fans.specs.declared.piece.Piece.{Piece}
use Rattle.ov_fans.specs.declared.piece.Piece.TheVariants.{Pair}
use Rattle.ov_fans.proofs.PieceNets.Ranks.{read_at}

ended_paths : (f : ℕ → ℕ) (x : ℕ) (paths : List (List ℕ))
    → map (λ path. ended_by (Some x) (map f path)) paths ≡ map (λ path. path ++ x ∷ []) (map (map f) paths)
ended_paths f x [] = refl
ended_paths f x (path ∷ paths) = ap (λ (ps : List (List ℕ)). (map f path ++ x ∷ []) ∷ ps) (ended_paths f x paths)

-- the paths of a pair, where x is read at the place of the other member
pub pair_ended : (g : LinkGraph) (q : List ℕ) (p : Piece) (level i j x : ℕ) (paths : List (List ℕ))
    → p ≡ Pair level i j → IsPiece g q p → x ≡ slice_index_or q (j - 1) x
    → map (λ path. ended_by (Some x) (map (node_at g) path)) paths ≡ paths_of q p (map (map (node_at g)) paths)
pair_ended g q p level i j x paths is at e =
    let k = subst (λ (r : Piece). IsPiece g q r) is at in
    let l = k.first in
    let m = k.less in
    let n = k.member in
    let other : x ≡ member_at q j = read_at q (j - 1) x (omega (arith, l, m, n)) e in
    ended_paths (node_at g) x paths
    ∙ ap (λ (y : ℕ). map (λ path. path ++ y ∷ []) (map (map (node_at g)) paths)) other
    ∙ ap (λ (r : Piece). paths_of q r (map (map (node_at g)) paths)) (sym is)

-- what holds of a list holds of a result that is that list
pub holds_of : {E : Type 0} (P : List (List ℕ) → Type 0) (xs : List (List ℕ)) (r : Result (List (List ℕ)) E) → P xs
    → IfOk r (λ ps. ps ≡ xs) → IfOk r P
holds_of P xs (Ok ps) h e = subst P (sym e) h
holds_of P xs (Err f) h e = tt
