-- If each piece of a level is good, Even's test passes at that level, and each piece of a lower level is good.
use Rattle.std.proofs.Common.{ℕ, zero, suc, ◌<◌, ◌≤◌, inl, inr, List, length, refl, subst, arith}
use Rattle.std.proofs.lemmas.Bool.{cases_lt}
use Rattle.ov_ids.specs.Members.{Has}
use Rattle.ov_graph.specs.Links.{LinkGraph, IsGraph, Linked, IsGroup}
use Rattle.ov_graph.specs.Joined.{SplitsGroup, NoFewerSplit}
use Rattle.ov_graph.specs.Paths.{ArePaths, IsFan}
use Rattle.ov_graph.specs.Even.{IsUnlinkedPair, later_members, members_below, PassesEven}
use Rattle.ov_graph.proofs.EvenTest.Sufficing.{even_suffices}
use Rattle.ov_fans.specs.Pieces.{member_at, level_of, IsPiece, IsGood}
use Rattle.ov_fans.specs.declared.piece.Piece.{Piece}
use Rattle.ov_fans.specs.declared.piece.Piece.TheVariants.{Pair, Fan}
use Rattle.ov_even.specs.Levels.{IsLevelGood}
use Rattle.ov_even.proofs.EvenTest.Cutting.{good_or_cut}
use Rattle.ov_even.proofs.EvenTest.Splitting.{piece_splits}
use Rattle.ov_even.proofs.PieceOrder.Placing.{pair_piece, fan_piece}

level_pairs : (g : LinkGraph) (q : List ℕ) (k a b : ℕ) → IsGroup g q → 1 ≤ k → k < length g.nodes → IsLevelGood g q k
    → IsUnlinkedPair g q k (a, b) → (paths : List (List ℕ)) × ArePaths g a b k paths
level_pairs g q k a b group low high good u =
    let p = pair_piece g q k a b group low high u.0 u.1 u.2 in
    elim (good (Pair k p.i p.j) p.piece refl) [
      | inl l ↦
          let named = subst (λ (x : ℕ). Linked g x (member_at q p.j)) p.first l in
          absurd (u.3 (subst (λ (x : ℕ). Linked g a x) p.second named))
      | inr r ↦
          let named = subst (λ (x : ℕ). ArePaths g x (member_at q p.j) k r.0) p.first r.1 in
          (r.0, subst (λ (x : ℕ). ArePaths g a x k r.0) p.second named)
    ]

level_fans : (g : LinkGraph) (q : List ℕ) (k a : ℕ) → 1 ≤ k → k < length g.nodes → IsLevelGood g q k
    → Has (later_members q k) a → (paths : List (List ℕ)) × IsFan g a (members_below q a) k paths
level_fans g q k a low high good h =
    let p = fan_piece g q k a low high h in
    elim (good (Fan k p.j) p.piece refl) [
      | inl l ↦ absurd l
      | inr r ↦ (r.0, subst (λ (x : ℕ). IsFan g x (members_below q x) k r.0) p.member r.1)
    ]

-- at level 0 Even's test requires nothing
pub passes_none : (g : LinkGraph) (q : List ℕ) → PassesEven g q 0
passes_none g q = record { pairs = λ a b u. absurd (u.0); fans = λ a h. absurd h }

-- if each piece of a level is good, Even's test passes at that level
pub passes_level : (g : LinkGraph) (q : List ℕ) (k : ℕ) → IsGroup g q → 1 ≤ k → k < length g.nodes → IsLevelGood g q k
    → PassesEven g q k
passes_level g q k group low high good = record {
  pairs = λ a b u. level_pairs g q k a b group low high good u;
  fans = λ a h. level_fans g q k a low high good h;
}

-- if a level is good, Even's test passes at it; level 0 has no pieces
pub good_passes : (g : LinkGraph) (q : List ℕ) (k : ℕ) → IsGroup g q → k < length g.nodes → IsLevelGood g q k
    → PassesEven g q k
good_passes g q zero group high good = passes_none g q
good_passes g q (suc k) group high good = passes_level g q (suc k) group (omega arith) high good

-- a set that splits a group has at least k nodes if Even's test passes at k
pub split_has : (g : LinkGraph) (q : List ℕ) (k : ℕ) (s : List ℕ) → IsGroup g q → PassesEven g q k → SplitsGroup g q s
    → k ≤ length s
split_has g q k s group even split = elim (cases_lt (length s) k) [
  | inl few ↦
      absurd (split.parted (even_suffices g q k group even s few split.a split.b split.a_survives split.b_survives))
  | inr le ↦ le
]

-- if fewer than k nodes never split the group, each piece of level k or lower is good: a cut with fewer nodes would
-- split it
pub whole_good : (g : LinkGraph) (q : List ℕ) (k : ℕ) (p : Piece) → IsGraph g → IsGroup g q → NoFewerSplit g q k
    → IsPiece g q p → level_of p ≤ k → IsGood g q p
whole_good g q k p graph group whole at low = elim (good_or_cut g q p graph group at) [
  | inl good ↦ good
  | inr c ↦
      let few = c.1.few in
      let split = piece_splits g q p c.0 group at c.1.nearest.least.cut few in
      absurd (split.parted (whole c.0 (omega (arith, low, few)) split.a split.b split.a_survives split.b_survives))
]

-- if Even's test passes at k, each piece of level k or lower is good
pub lower_good : (g : LinkGraph) (q : List ℕ) (k : ℕ) (p : Piece) → IsGraph g → IsGroup g q → PassesEven g q k
    → IsPiece g q p → level_of p ≤ k → IsGood g q p
lower_good g q k p graph group even at low = whole_good g q k p graph group (even_suffices g q k group even) at low

-- if a level is good, each piece of a lower level is good
pub below_good : (g : LinkGraph) (q : List ℕ) (k : ℕ) (p : Piece) → IsGraph g → IsGroup g q → k < length g.nodes
    → IsLevelGood g q k → IsPiece g q p → level_of p ≤ k → IsGood g q p
below_good g q k p graph group high good at low =
    lower_good g q k p graph group (good_passes g q k group high good) at low
