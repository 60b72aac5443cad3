-- The pieces of given members at a level: a pair of the first members, and a fan of a later one.
use Rattle.std.proofs.Common.{◌≡◌, ◌∙◌, ℕ, zero, suc, ◌-◌, ◌<◌, ◌≤◌, List, [], ◌∷◌, length, take, drop, get_or}
use Rattle.std.proofs.Common.{slice_index, ap, arith}
use Rattle.ov_ids.specs.Members.{Has}
use Rattle.ov_ids.proofs.Members.{place_of, place_in_take, has_place, has_take}
use Rattle.ov_graph.specs.Links.{LinkGraph, Linked, IsGroup}
use Rattle.ov_graph.specs.Even.{IsUnlinkedPair, later_members}
use Rattle.ov_fans.specs.Pieces.{member_at, IsPiece}
use Rattle.ov_fans.specs.declared.piece.Piece.TheVariants.{Pair, Fan}
use Rattle.ov_fans.proofs.PieceNets.Aimed.{place_below}
use Rattle.ov_fans.proofs.PieceNets.Ranks.{members_rise}
use Rattle.ov_fans.specs.Pieces.{IsPairPiece, IsFanPiece}

-- a member that is not among the first k has place k or a later place
place_in_drop : (xs : List ℕ) (k x : ℕ) → Has (drop k xs) x
    → (i : ℕ) × (k ≤ i) × (i < length xs) × (get_or xs i 0 ≡ x)
place_in_drop xs zero x h = let p = place_of xs x h in (p.0, omega arith, p.1, p.2)
place_in_drop [] (suc k) x h = absurd h
place_in_drop (y ∷ ys) (suc k) x h =
    let r = place_in_drop ys k x h in
    (suc r.0, omega (arith, r.1), omega (arith, r.2), r.3)

later_place : (q : List ℕ) (k x : ℕ) → 1 ≤ k → Has (later_members q k) x
    → (i : ℕ) × (k ≤ i) × (i < length q) × (get_or q i 0 ≡ x)
later_place q zero x l h = absurd (omega (arith, l))
later_place q (suc k) x l h = place_in_drop q (suc k) x h

-- places count from 0 in a list, and from 1 in a piece
member_from : (q : List ℕ) (i x : ℕ) → get_or q i 0 ≡ x → member_at q (suc i) ≡ x
member_from q i x e =
    let same : suc i - 1 ≡ i = omega arith in
    ap (λ (place : ℕ). slice_index q place) same ∙ e

-- a pair piece of two members
pub record PieceOfPair (g : LinkGraph) (q : List ℕ) (k a b : ℕ) : Type 0 where
  pub i : ℕ
  pub j : ℕ
  pub piece : IsPiece g q (Pair k i j)
  pub first : member_at q i ≡ a
  pub second : member_at q j ≡ b

-- two of the first k members have a pair piece
pub pair_piece : (g : LinkGraph) (q : List ℕ) (k a b : ℕ) → IsGroup g q → 1 ≤ k → k < length g.nodes → Has (take k q) a
    → Has (take k q) b → a < b → PieceOfPair g q k a b
pair_piece g q k a b group low high ha hb up =
    let m = place_in_take q k a ha in
    let n = place_in_take q k b hb in
    let m_at = m.3 in
    let n_in = n.1 in
    let n_there = n.2 in
    let n_at = n.3 in
    let before : m.0 < n.0 = place_below q m.0 n.0 group.ascends m.2 (omega (arith, m_at, n_at, up)) n_there in
    let at : IsPairPiece (length g.nodes) (length q) k (suc m.0) (suc n.0) = record {
      high = high;
      first = omega arith;
      less = omega (arith, before);
      among = omega (arith, n_in);
      member = omega (arith, n_there);
    } in
    record {
      i = suc m.0;
      j = suc n.0;
      piece = at;
      first = member_from q m.0 a m_at;
      second = member_from q n.0 b n_at;
    }

-- the members of a pair piece that are not linked are an unlinked pair
pub piece_unlinked : (g : LinkGraph) (q : List ℕ) (k i j : ℕ) → IsGroup g q → IsPiece g q (Pair k i j)
    → ¬ Linked g (member_at q i) (member_at q j) → IsUnlinkedPair g q k (member_at q i, member_at q j)
piece_unlinked g q k i j group at apart =
    let m : IsPairPiece (length g.nodes) (length q) k i j = at in
    let from = m.first in
    let less = m.less in
    let among = m.among in
    let last = m.member in (
      has_take q k (i - 1) (omega (arith, from, less, among)) (omega (arith, from, less, last)),
      has_take q k (j - 1) (omega (arith, from, less, among)) (omega (arith, from, less, last)),
      members_rise q i j group.ascends from less last,
      apart,
    )

-- a fan piece of a member
pub record PieceOfFan (g : LinkGraph) (q : List ℕ) (k a : ℕ) : Type 0 where
  pub j : ℕ
  pub piece : IsPiece g q (Fan k j)
  pub member : member_at q j ≡ a

-- each later member has a fan piece
pub fan_piece : (g : LinkGraph) (q : List ℕ) (k a : ℕ) → 1 ≤ k → k < length g.nodes → Has (later_members q k) a
    → PieceOfFan g q k a
fan_piece g q k a low high h =
    let m = later_place q k a low h in
    let behind = m.1 in
    let there = m.2 in
    let at : IsFanPiece (length g.nodes) (length q) k (suc m.0) = record {
      low = low;
      high = high;
      later = omega (arith, behind);
      member = omega (arith, there);
    } in
    record {
      j = suc m.0;
      piece = at;
      member = member_from q m.0 a m.3;
    }

has_drop : (xs : List ℕ) (k i : ℕ) → k ≤ i → i < length xs → Has (drop k xs) (get_or xs i 0)
has_drop xs zero i l m = has_place xs i 0 m
has_drop [] (suc k) i l m = absurd (omega arith)
has_drop (x ∷ xs) (suc k) zero l m = absurd (omega arith)
has_drop (x ∷ xs) (suc k) (suc i) l m = has_drop xs k i (omega arith) (omega arith)

later_at : (q : List ℕ) (k i : ℕ) → 1 ≤ k → k ≤ i → i < length q → Has (later_members q k) (get_or q i 0)
later_at q zero i low l m = absurd (omega (arith, low))
later_at q (suc k) i low l m = has_drop q (suc k) i l m

-- the member of a fan piece is a later member
pub piece_later : (g : LinkGraph) (q : List ℕ) (k j : ℕ) → IsPiece g q (Fan k j)
    → Has (later_members q k) (member_at q j)
piece_later g q k j at =
    let m : IsFanPiece (length g.nodes) (length q) k j = at in
    let low = m.low in
    let later = m.later in
    let last = m.member in
    later_at q k (j - 1) low (omega (arith, later)) (omega (arith, later, last))
