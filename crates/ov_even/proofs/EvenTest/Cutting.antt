-- A piece is good, or it has a cut with fewer nodes than its level (Menger, Fund. Math. 10, 1927).
use Rattle.std.proofs.Common.{◌≡◌, ℕ, zero, suc, ◌<◌, ◌⊎◌, inl, inr, List, [], ◌∷◌, length, None, refl, ap, subst}
use Rattle.std.proofs.Common.{arith}
use Rattle.ov_graph.specs.Links.{LinkGraph, IsGraph, IsGroup}
use Rattle.ov_graph.proofs.EvenTest.Tested.{linked_or_not}
use Rattle.ov_split.specs.SplitNetState.{SplitNetState, IsSplitNet, IsFanOf, IsNearestCut}
use Rattle.ov_split.specs.Code.Residual.{Table, IsFlow}
use Rattle.ov_split.proofs.FanTheorem.FanForm.{no_flow}
use Rattle.ov_split.proofs.Augmenting.Lists.{set_of, set_ascends}
use Rattle.ov_split.proofs.FanTheorem.Near.{boundary_is_nearest}
use Rattle.ov_split.proofs.Augmenting.Prune.{walk_augments, flow_is_fan}
use Rattle.ov_split.proofs.Augmenting.Search.{walk_or_stuck, boundary_of}
use Rattle.ov_fans.specs.Pieces.{level_of, member_at, paths_of, IsPiece, IsLinkedPair, IsGood}
use Rattle.ov_fans.specs.Cuts.{IsNearest}
use Rattle.ov_fans.specs.Code.Nets.{net_of}
use Rattle.ov_fans.specs.declared.piece.Piece.{Piece}
use Rattle.ov_fans.specs.declared.piece.Piece.TheVariants.{Pair, Fan}
use Rattle.ov_fans.proofs.PieceCuts.Parted.{nearest_of}
use Rattle.ov_fans.proofs.PieceNets.Routes.{is_net, asked_paths}

-- there are paths to k targets of a net
record HoldsPaths (n : SplitNetState) (k : ℕ) : Type 0 where
  from : Table
  ends : List ℕ
  flow : IsFlow n from ends
  count : length ends ≡ k

-- the nearest cut of a net has fewer than k nodes
pub record HasSmallCut (n : SplitNetState) (k : ℕ) : Type 0 where
  pub cut : List ℕ
  pub nearest : IsNearestCut n cut
  pub few : length cut < k

-- one more path, or the nearest cut
one_more : (n : SplitNetState) → IsSplitNet n → (k : ℕ) → HoldsPaths n k → HoldsPaths n (suc k) ⊎ HasSmallCut n (suc k)
one_more n net k p = elim (walk_or_stuck n net p.from p.flow.held.free) [
  | inl w ↦
      let next = walk_augments n net p.from p.ends p.flow w.walk w.target w.leads w.once w.is_target in
      inl (record { from = next.0; ends = w.target ∷ p.ends; flow = next.1; count = ap suc p.count })
  | inr r ↦
      let b = boundary_of n net r.0 in
      let s = set_of b.0 in
      let near = boundary_is_nearest n net p.from p.ends p.flow r.0 r.1 s b.1 (set_ascends b.0) in
      inr (record { cut = s; nearest = near.nearest; few = omega (arith, near.count, p.count) })
]

held_or_cut : (n : SplitNetState) → IsSplitNet n → (k : ℕ) → HoldsPaths n k ⊎ HasSmallCut n k
held_or_cut n net zero = inl (record { from = λ v. None; ends = []; flow = no_flow n; count = refl })
held_or_cut n net (suc k) = elim (held_or_cut n net k) [
  | inl p ↦ one_more n net k p
  | inr c ↦ let few = c.few in inr (record { cut = c.cut; nearest = c.nearest; few = omega (arith, few) })
]

-- a net has a fan of k paths, or its nearest cut has fewer than k nodes
pub fan_or_cut : (n : SplitNetState) → IsSplitNet n → (k : ℕ)
    → ((paths : List (List ℕ)) × IsFanOf n k paths) ⊎ HasSmallCut n k
fan_or_cut n net k = elim (held_or_cut n net k) [
  | inl p ↦
      let fan = flow_is_fan n net p.from p.ends p.flow in
      inl (fan.0, subst (λ (m : ℕ). IsFanOf n m fan.0) p.count fan.1)
  | inr c ↦ inr c
]

-- the nearest cut of a piece has fewer nodes than its level
pub record IsSmallCut (g : LinkGraph) (q : List ℕ) (p : Piece) (s : List ℕ) : Type 0 where
  pub nearest : IsNearest g q p s
  pub few : length s < level_of p

pub linked_pair_or_not : (g : LinkGraph) (q : List ℕ) (p : Piece) → IsLinkedPair g q p ⊎ (¬ IsLinkedPair g q p)
linked_pair_or_not g q (Pair level i j) = linked_or_not g (member_at q i) (member_at q j)
linked_pair_or_not g q (Fan level j) = inr (λ h. h)

-- a piece is good, or it has such a cut
pub good_or_cut : (g : LinkGraph) (q : List ℕ) (p : Piece) → IsGraph g → IsGroup g q → IsPiece g q p
    → IsGood g q p ⊎ ((s : List ℕ) × IsSmallCut g q p s)
good_or_cut g q p graph group at = elim (linked_pair_or_not g q p) [
  | inl l ↦ inl (inl l)
  | inr apart ↦
      let net = is_net g q p graph group at apart in
      elim (fan_or_cut (net_of g q p) net (level_of p)) [
        | inl f ↦ inl (inr (paths_of q p f.0, asked_paths g q p f.0 graph group at f.1))
        | inr c ↦ inr (
          c.cut,
          record { nearest = (nearest_of g q p graph group at c.cut).0 c.nearest; few = c.few },
        )
      ]
]
