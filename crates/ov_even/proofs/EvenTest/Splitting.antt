-- A cut of a piece with fewer nodes than its level splits the group.
use Rattle.std.proofs.Common.{◌≢◌, ◌∙◌, ℕ, ◌<◌, inl, List, length, nat_lt, refl, sym, subst, arith}
use Rattle.std.proofs.lemmas.Bool.{ltb-true}
use Rattle.ov_ids.specs.Members.{Has}
use Rattle.ov_graph.specs.Links.{LinkGraph, IsGroup}
use Rattle.ov_graph.specs.Joined.{Survives, Joined, IsNodeSet, SplitsGroup}
use Rattle.ov_graph.proofs.EvenTest.Filtered.{has_filtered}
use Rattle.ov_fans.specs.Pieces.{member_at, level_of, source_of, IsTarget, IsPiece}
use Rattle.ov_fans.specs.Cuts.{IsCut, IsFar, IsParted}
use Rattle.ov_fans.specs.declared.piece.Piece.{Piece}
use Rattle.ov_fans.specs.declared.piece.Piece.TheVariants.{Pair, Fan}
use Rattle.ov_fans.specs.declared.piece_result.Parting.{Parting}
use Rattle.ov_fans.proofs.PieceNets.Ranks.{member_in}
use Rattle.ov_fans.proofs.PieceCuts.Refuted.{far_exists}
use Rattle.ov_fans.proofs.PieceNets.Routes.{pair_differ}
use Rattle.ov_fans.specs.Pieces.{IsPairPiece, IsFanPiece}

-- the source of a piece is a member
source_member : (g : LinkGraph) (q : List ℕ) (p : Piece) → IsPiece g q p → Has q (source_of q p)
source_member g q (Pair level i j) at =
    let m : IsPairPiece (length g.nodes) (length q) level i j = at in
    let less = m.less in
    let last = m.member in
    member_in q i m.first (omega (arith, less, last))
source_member g q (Fan level j) at =
    let m : IsFanPiece (length g.nodes) (length q) level j = at in
    let later = m.later in
    member_in q j (omega (arith, later)) m.member

-- the targets of a piece are members
target_member : (g : LinkGraph) (q : List ℕ) (p : Piece) (t : ℕ) → IsPiece g q p → IsTarget q p t → Has q t
target_member g q (Pair level i j) t at e =
    let m : IsPairPiece (length g.nodes) (length q) level i j = at in
    let less = m.less in
    subst (Has q) (sym e) (member_in q j (omega (arith, less)) m.member)
target_member g q (Fan level j) t at h = (has_filtered (λ x. nat_lt x (member_at q j)) q t h).0

target_differs : (g : LinkGraph) (q : List ℕ) (p : Piece) (t : ℕ) → IsGroup g q → IsPiece g q p → IsTarget q p t
    → source_of q p ≢ t
target_differs g q (Pair level i j) t group at e same = pair_differ g q level i j group at (same ∙ e)
target_differs g q (Fan level j) t group at h same =
    let a = member_at q j in
    let below : t < a = ltb-true t a (has_filtered (λ x. nat_lt x a) q t h).1 in
    omega (arith, below, same)

source_left : (g : LinkGraph) (q : List ℕ) (p : Piece) (s : List ℕ) → IsCut g q p s → ¬ Has s (source_of q p)
source_left g q (Pair level i j) s cut = cut.leaves (member_at q i) (inl refl)
source_left g q (Fan level j) s cut = cut.leaves (member_at q j) (inl refl)

-- two surviving members are not joined without the set
pub record PartsMembers (g : LinkGraph) (q s : List ℕ) (a b : ℕ) : Type 0 where
  pub a_survives : Survives q s a
  pub b_survives : Survives q s b
  pub differ : a ≢ b
  pub parted : ¬ Joined g s a b

-- a cut of a piece separates its source from the far member
pub piece_parts : (g : LinkGraph) (q : List ℕ) (p : Piece) (s : List ℕ) (far : ℕ) → IsGroup g q → IsPiece g q p
    → IsCut g q p s → IsFar q p s far → PartsMembers g q s (source_of q p) far
piece_parts g q p s far group at cut is_far = record {
  a_survives = (source_member g q p at, source_left g q p s cut);
  b_survives = (target_member g q p far at is_far.target, is_far.left);
  differ = target_differs g q p far group at is_far.target;
  parted = cut.parts far is_far.target;
}

-- a set of nodes that separates two members splits the group
pub parts_split : (g : LinkGraph) (q s : List ℕ) (a b : ℕ) → IsNodeSet g s → PartsMembers g q s a b → SplitsGroup g q s
parts_split g q s a b set parts = record {
  set = set;
  a = a;
  b = b;
  a_survives = parts.a_survives;
  b_survives = parts.b_survives;
  differ = parts.differ;
  parted = parts.parted;
}

-- a cut of a piece with fewer nodes than its level splits the group
pub piece_splits : (g : LinkGraph) (q : List ℕ) (p : Piece) (s : List ℕ) → IsGroup g q → IsPiece g q p → IsCut g q p s
    → length s < level_of p → SplitsGroup g q s
piece_splits g q p s group at cut few =
    let far = far_exists g q p s group at cut few in
    parts_split g q s (source_of q p) far.0 cut.set (piece_parts g q p s far.0 group at cut far.1)

-- the parting of a piece separates near from far
pub parted_parts : (g : LinkGraph) (q : List ℕ) (p : Piece) (c : Parting) → IsGroup g q → IsPiece g q p
    → IsParted g q p c → PartsMembers g q c.cut c.near c.far
parted_parts g q p c group at right =
    subst (λ (a : ℕ). PartsMembers g q c.cut a c.far) (sym right.near)
    (piece_parts g q p c.cut c.far group at right.cut.least.cut right.far)

-- the cut of a parting splits the group: near and far are not joined without it
pub parted_splits : (g : LinkGraph) (q : List ℕ) (p : Piece) (c : Parting) → IsGroup g q → IsPiece g q p
    → IsParted g q p c → SplitsGroup g q c.cut
parted_splits g q p c group at right =
    parts_split g q c.cut c.near c.far right.cut.least.cut.set (parted_parts g q p c group at right)
