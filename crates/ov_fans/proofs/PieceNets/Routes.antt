-- The net of a piece, and its paths.
use Rattle.std.proofs.Common.{◌≢◌, ◌∙◌, ℕ, ◌<◌, ◌≤◌, inl, inr, List, [], ◌∷◌, ◌++◌, length, map, nat_lt, refl, sym}
use Rattle.std.proofs.Common.{subst, arith}
use Rattle.std.proofs.lemmas.Bool.{ltb-true}
use Rattle.std.proofs.lemmas.List.{length-map}
use Rattle.ov_ids.specs.Members.{Has}
use Rattle.ov_ids.proofs.Members.{has_append_cases}
use Rattle.ov_graph.specs.Links.{LinkGraph, IsGraph, Linked, AreNeighbours, IsGroup}
use Rattle.ov_graph.specs.Joined.{IsWalk}
use Rattle.ov_graph.specs.Paths.{IsPath, ShareOnly, IsFan}
use Rattle.ov_graph.specs.Even.{members_below}
use Rattle.ov_graph.specs.Code.Tests.{neighbours_in}
use Rattle.ov_graph.proofs.EvenTest.Filtered.{has_filtered, linked_node, are_neighbours}
use Rattle.ov_graph.proofs.EvenTest.Walks.{linked_sym, leads_push}
use Rattle.ov_split.specs.SplitNetState.{IsSplitNet, IsFanOf}
use Rattle.ov_split.proofs.Augmenting.Lists.{distinct_push}
use Rattle.ov_split.proofs.ByNames.Mapped.{map_has}
use Rattle.ov_fans.specs.Pieces.{member_at, level_of, IsPiece, IsLinkedPair, AreAskedPaths, paths_of}
use Rattle.ov_fans.specs.Code.Nets.{net_of}
use Rattle.ov_fans.specs.declared.piece.Piece.{Piece}
use Rattle.ov_fans.specs.declared.piece.Piece.TheVariants.{Pair, Fan}
use Rattle.ov_fans.proofs.PieceNets.Ranks.{member_in, members_rise, below_ascend}

-- the member at a place is a node
pub member_node : (g : LinkGraph) (q : List ℕ) (place : ℕ) → IsGroup g q → 1 ≤ place → place ≤ length q
    → Has g.nodes (member_at q place)
member_node g q place group l m = group.nodes (member_at q place) (member_in q place l m)

-- the members of a pair are two
pub pair_differ : (g : LinkGraph) (q : List ℕ) (level i j : ℕ) → IsGroup g q → IsPiece g q (Pair level i j)
    → member_at q i ≢ member_at q j
pair_differ g q level i j group at e =
    let l = at.first in
    let m = at.less in
    let n = at.member in
    let r = members_rise q i j group.ascends l m n in
    omega (arith, r, e)

-- no member is below itself
pub below_self : (q : List ℕ) (a : ℕ) → ¬ Has (members_below q a) a
below_self q a h = let r : a < a = ltb-true a a (has_filtered (λ y. nat_lt y a) q a h).1 in omega (arith, r)

pub is_net : (g : LinkGraph) (q : List ℕ) (p : Piece) → IsGraph g → IsGroup g q → IsPiece g q p → ¬ IsLinkedPair g q p
    → IsSplitNet (net_of g q p)
is_net g q (Pair level i j) graph group at apart =
    let a = member_at q i in
    let b = member_at q j in
    let l = at.first in
    let m = at.less in
    let n = at.member in
    let near : AreNeighbours g b (neighbours_in g.links b g.nodes) = are_neighbours g b graph in
    let there : Has g.nodes b = member_node g q j group (omega (arith, l, m)) n in
    record {
      graph = graph;
      source = member_node g q i group l (omega (arith, m, n));
      avoided = record {
        ascends = (tt, tt);
        nodes = λ x h. elim h [ inl e ↦ subst (Has g.nodes) e there | inr k ↦ absurd k ];
      };
      targets = record { ascends = near.ascend; nodes = λ x h. linked_node g b x graph ((near.each x).0 h) };
      not_avoided = λ h. elim h [ inl e ↦ pair_differ g q level i j group at (sym e) | inr k ↦ k ];
      no_target = λ h. apart (linked_sym g b a ((near.each a).0 h));
    }
is_net g q (Fan level j) graph group at apart =
    let a = member_at q j in
    let k = at.low in
    let l = at.later in
    let m = at.member in
    record {
      graph = graph;
      source = member_node g q j group (omega (arith, k, l)) m;
      avoided = record { ascends = tt; nodes = λ x h. absurd h };
      targets = record {
        ascends = below_ascend q a group.ascends;
        nodes = λ x h. group.nodes x (has_filtered (λ y. nat_lt y a) q x h).0;
      };
      not_avoided = λ h. h;
      no_target = λ h. below_self q a h;
    }

walk_push : (g : LinkGraph) (a b c : ℕ) (p : List ℕ) → IsWalk g a p b → Linked g b c → IsWalk g a (p ++ c ∷ []) c
walk_push g a b c [] w r = absurd w
walk_push g a b c (x ∷ xs) w r = (w.0, leads_push (Linked g) a b c xs w.1 r)

-- a path continues by a link to a node that is not on it
path_push : (g : LinkGraph) (a b c : ℕ) (p : List ℕ) → IsPath g a p b → Linked g b c → Has g.nodes c → ¬ Has p c
    → IsPath g a (p ++ c ∷ []) c
path_push g a b c p path l node off = record {
  nodes = λ x h. elim (has_append_cases p (c ∷ []) x h) [
    | inl k ↦ path.nodes x k
    | inr k ↦ elim k [ inl e ↦ subst (Has g.nodes) e node | inr w ↦ absurd w ]
  ];
  walk = walk_push g a b c p path.walk l;
  distinct = distinct_push p c path.distinct off;
}

-- paths that share only a share only a and b with b at the end of each
share_push : (a b : ℕ) (ps : List (List ℕ)) → ShareOnly (a ∷ []) ps
    → ShareOnly (a ∷ b ∷ []) (map (λ p. p ++ b ∷ []) ps)
share_push a b [] s = tt
share_push a b (p ∷ ps) s = (
  (λ q x hq hp hx.
      let r = map_has (λ (l : List ℕ). l ++ b ∷ []) ps q hq in
      elim (has_append_cases p (b ∷ []) x hp) [
        | inr k ↦ inr k
        | inl k ↦ elim (has_append_cases r.0 (b ∷ []) x (subst (λ (l : List ℕ). Has l x) (sym r.2) hx)) [
          | inr m ↦ inr m
          | inl m ↦ elim (s.0 r.0 x r.1 k m) [ inl e ↦ inl e | inr w ↦ absurd w ]
        ]
      ]),
  share_push a b ps s.1,
)

-- from the paths of the net come those of the piece
pub asked_paths : (g : LinkGraph) (q : List ℕ) (p : Piece) (paths : List (List ℕ)) → IsGraph g → IsGroup g q
    → IsPiece g q p → IsFanOf (net_of g q p) (level_of p) paths → AreAskedPaths g q p (paths_of q p paths)
asked_paths g q (Pair level i j) paths graph group at f =
    let a = member_at q i in
    let b = member_at q j in
    let l = at.first in
    let m = at.less in
    let n = at.member in
    let near : AreNeighbours g b (neighbours_in g.links b g.nodes) = are_neighbours g b graph in
    let there : Has g.nodes b = member_node g q j group (omega (arith, l, m)) n in
    let fan : IsFan g a (neighbours_in g.links b g.nodes) level paths = f.fan in
    record {
      count = length-map paths (λ (p : List ℕ). p ++ b ∷ []) ∙ fan.count;
      each = λ r h.
          let o = map_has (λ (p : List ℕ). p ++ b ∷ []) paths r h in
          let e = fan.each o.0 o.1 in
          subst (λ (p : List ℕ). IsPath g a p b) o.2
          (path_push g a e.0 b o.0 e.2 (linked_sym g b e.0 ((near.each e.0).0 e.1)) there
          (λ k. f.off o.0 o.1 b k (inl refl)));
      apart = share_push a b paths fan.apart;
    }
asked_paths g q (Fan level j) paths graph group at f = f.fan
