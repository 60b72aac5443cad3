-- The entries of a certificate. A pair names its two members if they are not linked; a fan names its member.
use Rattle.std.proofs.Common.{◌≡◌, inl, inr, ℕ, zero, suc, ◌<◌, ◌≤◌, List, [], ◌∷◌, ◌++◌, length, map, drop, refl, sym}
use Rattle.std.proofs.Common.{◌∙◌, subst, ap, ap₂, arith, append_assoc, append-nil}
use Rattle.ov_ids.specs.Members.{Has, Ordered, Ascends}
use Rattle.ov_ids.proofs.Members.{has_append_right, has_append_cases, same_ascending}
use Rattle.ov_graph.specs.Links.{LinkGraph, Linked, IsGroup}
use Rattle.ov_graph.specs.Paths.{ArePaths, IsFan}
use Rattle.ov_graph.specs.Even.{IsUnlinkedPair, later_members, members_below}
use Rattle.ov_split.proofs.ByNames.Mapped.{has_map}
use Rattle.ov_fans.specs.Pieces.{IsPiece, IsPairPiece, IsFanPiece, AreAskedPaths, level_of, member_at}
use Rattle.ov_fans.specs.declared.piece.Piece.{Piece}
use Rattle.ov_fans.specs.declared.piece.Piece.TheVariants.{Pair, Fan}
use Rattle.ov_fans.proofs.PieceNets.Ranks.{members_rise}
use Rattle.ov_cert.specs.Valid.{PairPrecedes, AreUnlinkedPairs, HavePaths, HaveFans}
use Rattle.ov_cert.specs.declared.cert.PairPaths.{PairPaths}
use Rattle.ov_cert.specs.declared.cert.FanPaths.{FanPaths}
use Rattle.ov_even.specs.Order.{ComesBefore}
use Rattle.ov_even.specs.Naming.{IsUnlinked, AreUnlinkedPieces, AreFound, HaveAskedPaths, named_of}
use Rattle.ov_even.specs.Code.Entries.{AreNamedPieces, entry_of_pair, entry_of_fan, pair_entries, fan_entries}
use Rattle.ov_even.specs.declared.paths_by_ids.FoundPaths.{FoundPaths}
use Rattle.ov_even.specs.declared.paths_by_ids.NamedPaths.{NamedPaths}
use Rattle.ov_even.proofs.PieceOrder.PieceLevels.{level_low}
use Rattle.ov_even.proofs.PieceOrder.Placing.{pair_piece, piece_unlinked, fan_piece, piece_later}
use Rattle.ov_even.proofs.AnalysisSteps.Named.{AreNamed, named_none, named_behind, named_first}

-- a pair names its two members, if they are not linked
abbrev pub NamesPair : LinkGraph → List ℕ → Piece → ℕ × ℕ → Type 0
NamesPair g q (Pair level i j) x = (x ≡ (member_at q i, member_at q j)) × ¬ Linked g (member_at q i) (member_at q j)
NamesPair g q (Fan level j) x = ⊥

-- a fan names its member
abbrev pub NamesFan : List ℕ → Piece → ℕ → Type 0
NamesFan q (Pair level i j) x = ⊥
NamesFan q (Fan level j) x = x ≡ member_at q j

-- what an earlier pair of the level names precedes what a later pair names
pub pair_behind : (g : LinkGraph) (q : List ℕ) (level i j : ℕ) (r : Piece) (y : ℕ × ℕ) → IsGroup g q
    → IsPiece g q (Pair level i j) → IsPiece g q r → level_of r ≡ level → ComesBefore r (Pair level i j)
    → NamesPair g q r y → PairPrecedes y (member_at q i, member_at q j)
pair_behind g q level i j (Fan l k) y group at is same first n = absurd n
pair_behind g q level i j (Pair l h k) y group at is same first n =
    let a : IsPairPiece (length g.nodes) (length q) level i j = at in
    let b : IsPairPiece (length g.nodes) (length q) l h k = is in
    let first_low = b.first in
    let less = b.less in
    let up = a.less in
    let high = a.member in
    subst (λ (z : ℕ × ℕ). PairPrecedes z (member_at q i, member_at q j)) (sym n.0) (elim first [
      | inl m ↦ absurd (omega (arith, m, same))
      | inr m ↦ elim m.1 [
        | inl d ↦ inl (members_rise q k j group.ascends (omega (arith, first_low, less)) d high)
        | inr d ↦ let e = d.0 in inr (
          ap (member_at q) e,
          members_rise q h i group.ascends first_low d.1
              (omega (arith, up, high)),
        )
      ]
    ])

pub fan_behind : (g : LinkGraph) (q : List ℕ) (level j : ℕ) (r : Piece) (y : ℕ) → IsGroup g q
    → IsPiece g q (Fan level j) → IsPiece g q r → level_of r ≡ level → ComesBefore r (Fan level j) → NamesFan q r y
    → y < member_at q j
fan_behind g q level j (Pair l h k) y group at is same first n = absurd n
fan_behind g q level j (Fan l k) y group at is same first n =
    let a : IsFanPiece (length g.nodes) (length q) level j = at in
    let b : IsFanPiece (length g.nodes) (length q) l k = is in
    let behind = b.later in
    let high = a.member in
    subst (λ (z : ℕ). z < member_at q j) (sym n) (elim first [
      | inl m ↦ absurd (omega (arith, m, same))
      | inr m ↦ members_rise q k j group.ascends (omega (arith, behind)) m.1 high
    ])

-- what an earlier piece of the level names precedes what a later one names
pairs_rise : (g : LinkGraph) (q : List ℕ) (p r : Piece) (x y : ℕ × ℕ) → IsGroup g q → IsPiece g q p → IsPiece g q r
    → level_of p ≡ level_of r → ComesBefore p r → NamesPair g q p x → NamesPair g q r y → PairPrecedes x y
pairs_rise g q p (Fan l k) x y group at is same first n m = absurd m
pairs_rise g q p (Pair l i j) x y group at is same first n m =
    subst (λ (z : ℕ × ℕ). PairPrecedes x z) (sym m.0) (pair_behind g q l i j p x group is at same first n)

fans_rise : (g : LinkGraph) (q : List ℕ) (p r : Piece) (x y : ℕ) → IsGroup g q → IsPiece g q p → IsPiece g q r
    → level_of p ≡ level_of r → ComesBefore p r → NamesFan q p x → NamesFan q r y → x < y
fans_rise g q p (Pair l i j) x y group at is same first n m = absurd m
fans_rise g q p (Fan l j) x y group at is same first n m =
    subst (λ (z : ℕ). x < z) (sym m) (fan_behind g q l j p x group is at same first n)

-- each of these pieces is one of the level, no linked pair, and behind the piece p
abbrev AreLater : LinkGraph → List ℕ → ℕ → Piece → List Piece → Type 0
AreLater g q level p pieces = (r : Piece) → Has pieces r → IsUnlinked g q level r × ComesBefore p r

pair_first : (g : LinkGraph) (q : List ℕ) (level : ℕ) (p : Piece) (paths : List (List ℕ)) (pieces : List Piece)
    (entries : List PairPaths) → IsGroup g q → IsUnlinked g q level p → AreLater g q level p pieces
    → AreNamed PairPrecedes (NamesPair g q) pieces (map (λ e. (e.i, e.j)) entries)
    → AreNamed PairPrecedes (NamesPair g q) (p ∷ pieces) (map (λ e. (e.i, e.j)) (entry_of_pair q p paths ++ entries))
pair_first g q level (Fan l j) paths pieces entries group un later are =
    named_behind PairPrecedes (NamesPair g q) pieces (map (λ e. (e.i, e.j)) entries) (Fan l j) are (λ x n. n)
pair_first g q level (Pair l i j) paths pieces entries group un later are =
    named_first PairPrecedes (NamesPair g q) pieces (map (λ e. (e.i, e.j)) entries) (Pair l i j)
    (member_at q i, member_at q j) are (refl, un.2) (λ y n. n.0)
    (λ r y h n.
    let m = later r h in
    pairs_rise g q (Pair l i j) r (member_at q i, member_at q j) y group un.0 m.0.0 (un.1 ∙ sym m.0.1) m.1
    (refl, un.2) n)

fan_first : (g : LinkGraph) (q : List ℕ) (level : ℕ) (p : Piece) (paths : List (List ℕ)) (pieces : List Piece)
    (entries : List FanPaths) → IsGroup g q → IsUnlinked g q level p → AreLater g q level p pieces
    → AreNamed (λ x y. x < y) (NamesFan q) pieces (map (λ e. e.j) entries)
    → AreNamed (λ x y. x < y) (NamesFan q) (p ∷ pieces) (map (λ e. e.j) (entry_of_fan q p paths ++ entries))
fan_first g q level (Pair l i j) paths pieces entries group un later are =
    named_behind (λ x y. x < y) (NamesFan q) pieces (map (λ e. e.j) entries) (Pair l i j) are (λ x n. n)
fan_first g q level (Fan l j) paths pieces entries group un later are =
    named_first (λ x y. x < y) (NamesFan q) pieces (map (λ e. e.j) entries) (Fan l j) (member_at q j) are refl
    (λ y n. n)
    (λ r y h n.
    let m = later r h in
    fans_rise g q (Fan l j) r (member_at q j) y group un.0 m.0.0 (un.1 ∙ sym m.0.1) m.1 refl n)

-- each of these is a piece of the level, and no linked pair
abbrev AreUnlinked : LinkGraph → List ℕ → ℕ → List NamedPaths → Type 0
AreUnlinked g q level named = (n : NamedPaths) → Has named n → IsUnlinked g q level n.piece

-- the pieces behind the first
later_ones : (g : LinkGraph) (q : List ℕ) (level : ℕ) (p : Piece) (named : List NamedPaths)
    → AreUnlinked g q level named → Ordered ComesBefore (p ∷ map (λ n. n.piece) named)
    → AreLater g q level p (map (λ n. n.piece) named)
later_ones g q level p [] un up r h = absurd h
later_ones g q level p (n ∷ named) un up r h = elim h [
  | inl e ↦ subst (λ (z : Piece). IsUnlinked g q level z × ComesBefore p z) e (un n (inl refl), up.0.0)
  | inr k ↦ later_ones g q level p named (λ m at. un m (inr at)) (up.0.1, up.1.1) r k
]

pairs_named : (g : LinkGraph) (q : List ℕ) (level : ℕ) (named : List NamedPaths) → IsGroup g q
    → AreUnlinked g q level named → Ordered ComesBefore (map (λ n. n.piece) named)
    → AreNamed PairPrecedes (NamesPair g q) (map (λ n. n.piece) named) (map (λ e. (e.i, e.j)) (pair_entries q named))
pairs_named g q level [] group un up = named_none PairPrecedes (NamesPair g q) [] refl
pairs_named g q level (n ∷ named) group un up = pair_first g q level n.piece n.paths (map (λ n. n.piece) named)
    (pair_entries q named) group (un n (inl refl)) (later_ones g q level n.piece named (λ m at. un m (inr at)) up)
    (pairs_named g q level named group (λ m at. un m (inr at)) up.1)

fans_named : (g : LinkGraph) (q : List ℕ) (level : ℕ) (named : List NamedPaths) → IsGroup g q
    → AreUnlinked g q level named → Ordered ComesBefore (map (λ n. n.piece) named)
    → AreNamed (λ x y. x < y) (NamesFan q) (map (λ n. n.piece) named) (map (λ e. e.j) (fan_entries q named))
fans_named g q level [] group un up = named_none (λ x y. x < y) (NamesFan q) [] refl
fans_named g q level (n ∷ named) group un up = fan_first g q level n.piece n.paths (map (λ n. n.piece) named)
    (fan_entries q named) group (un n (inl refl)) (later_ones g q level n.piece named (λ m at. un m (inr at)) up)
    (fans_named g q level named group (λ m at. un m (inr at)) up.1)

pair_unlinked : (g : LinkGraph) (q : List ℕ) (k : ℕ) (p : Piece) (x : ℕ × ℕ) → IsGroup g q
    → IsPiece g q p × (level_of p ≡ k) → NamesPair g q p x → IsUnlinkedPair g q k x
pair_unlinked g q k (Fan l j) x group at n = absurd n
pair_unlinked g q k (Pair l i j) x group at n =
    subst (λ (c : ℕ). IsUnlinkedPair g q c x) at.1 (subst (IsUnlinkedPair g q l) (sym n.0)
    (piece_unlinked g q l i j group at.0 n.1))

fan_later : (g : LinkGraph) (q : List ℕ) (k : ℕ) (p : Piece) (x : ℕ) → IsPiece g q p × (level_of p ≡ k)
    → NamesFan q p x → Has (later_members q k) x
fan_later g q k (Pair l i j) x at n = absurd n
fan_later g q k (Fan l j) x at n = subst (λ (c : ℕ). Has (later_members q c) x) at.1
    (subst (Has (later_members q l)) (sym n) (piece_later g q l j at.0))

drop_ascends : (k : ℕ) (xs : List ℕ) → Ascends xs → Ascends (drop k xs)
drop_ascends zero xs up = up
drop_ascends (suc k) [] up = tt
drop_ascends (suc k) (x ∷ xs) up = drop_ascends k xs up.1

later_ascend : (q : List ℕ) (k : ℕ) → Ascends q → Ascends (later_members q k)
later_ascend q zero up = tt
later_ascend q (suc k) up = drop_ascends (suc k) q up

-- the pairs that all these pieces name are the unlinked pairs
pairs_all : (g : LinkGraph) (q : List ℕ) (k : ℕ) (pieces : List Piece) (names : List (ℕ × ℕ)) → IsGroup g q → 1 ≤ k
    → k < length g.nodes → AreUnlinkedPieces g q k pieces → AreNamed PairPrecedes (NamesPair g q) pieces names
    → AreUnlinkedPairs g q k names
pairs_all g q k pieces names group low high un are = record {
  order = are.order;
  each = λ x. (
    (λ h.
        let r = are.sound x h in
        let u = (un.each r.0).0 r.1 in
        pair_unlinked g q k r.0 x group (u.0, u.1) r.2),
    (λ u.
        let r = pair_piece g q k x.0 x.1 group low high u.0 u.1 u.2 in
        let apart : ¬ Linked g (member_at q r.i) (member_at q r.j) =
        subst (λ (c : ℕ). ¬ Linked g c (member_at q r.j)) (sym r.first)
        (subst (λ (d : ℕ). ¬ Linked g x.0 d) (sym r.second) u.3) in
        are.complete (Pair k r.i r.j) x ((un.each (Pair k r.i r.j)).1 (r.piece, refl, apart))
        (ap₂ (λ (c d : ℕ). (c, d)) (sym r.first) (sym r.second), apart)),
  );
}

-- the members that the fans among all these pieces name are the later members
fans_all : (g : LinkGraph) (q : List ℕ) (k : ℕ) (pieces : List Piece) (names : List ℕ) → IsGroup g q → 1 ≤ k
    → k < length g.nodes → AreUnlinkedPieces g q k pieces → AreNamed (λ x y. x < y) (NamesFan q) pieces names
    → names ≡ later_members q k
fans_all g q k pieces names group low high un are = same_ascending names (later_members q k) are.order
    (later_ascend q k group.ascends)
    (λ x h.
    let r = are.sound x h in
    let u = (un.each r.0).0 r.1 in
    fan_later g q k r.0 x (u.0, u.1) r.2)
    (λ x h.
    let r = fan_piece g q k x low high h in
    are.complete (Fan k r.j) x ((un.each (Fan k r.j)).1 (r.piece, refl, λ l. absurd l)) (sym r.member))

pair_asked : (g : LinkGraph) (q : List ℕ) (level : ℕ) (p : Piece) (paths : List (List ℕ)) (e : PairPaths)
    → level_of p ≡ level → AreAskedPaths g q p paths → Has (entry_of_pair q p paths) e
    → ArePaths g e.i e.j level e.paths
pair_asked g q level (Fan l j) paths e at asked h = absurd h
pair_asked g q level (Pair l i j) paths e at asked h = elim h [
  | inl d ↦ subst (λ (f : PairPaths). ArePaths g f.i f.j level f.paths) d
      (subst (λ (c : ℕ). ArePaths g (member_at q i) (member_at q j) c paths) at asked)
  | inr k ↦ absurd k
]

fan_asked : (g : LinkGraph) (q : List ℕ) (level : ℕ) (p : Piece) (paths : List (List ℕ)) (e : FanPaths)
    → level_of p ≡ level → AreAskedPaths g q p paths → Has (entry_of_fan q p paths) e
    → IsFan g e.j (members_below q e.j) level e.paths
fan_asked g q level (Pair l i j) paths e at asked h = absurd h
fan_asked g q level (Fan l j) paths e at asked h = elim h [
  | inl d ↦ subst (λ (f : FanPaths). IsFan g f.j (members_below q f.j) level f.paths) d
      (subst (λ (c : ℕ). IsFan g (member_at q j) (members_below q (member_at q j)) c paths) at asked)
  | inr k ↦ absurd k
]

pairs_asked : (g : LinkGraph) (q : List ℕ) (level : ℕ) (named : List NamedPaths) → AreUnlinked g q level named
    → HaveAskedPaths g q named → (e : PairPaths) → Has (pair_entries q named) e → ArePaths g e.i e.j level e.paths
pairs_asked g q level [] un asked e h = absurd h
pairs_asked g q level (n ∷ named) un asked e h =
    elim (has_append_cases (entry_of_pair q n.piece n.paths) (pair_entries q named) e h) [
      | inl k ↦ pair_asked g q level n.piece n.paths e (un n (inl refl)).1 (asked n (inl refl)) k
      | inr k ↦ pairs_asked g q level named (λ m at. un m (inr at)) (λ m at. asked m (inr at)) e k
    ]

fans_asked : (g : LinkGraph) (q : List ℕ) (level : ℕ) (named : List NamedPaths) → AreUnlinked g q level named
    → HaveAskedPaths g q named → (e : FanPaths) → Has (fan_entries q named) e
    → IsFan g e.j (members_below q e.j) level e.paths
fans_asked g q level [] un asked e h = absurd h
fans_asked g q level (n ∷ named) un asked e h =
    elim (has_append_cases (entry_of_fan q n.piece n.paths) (fan_entries q named) e h) [
      | inl k ↦ fan_asked g q level n.piece n.paths e (un n (inl refl)).1 (asked n (inl refl)) k
      | inr k ↦ fans_asked g q level named (λ m at. un m (inr at)) (λ m at. asked m (inr at)) e k
    ]

-- the pieces of these are those of the level that are no linked pairs
abbrev pub AreOfLevel : LinkGraph → List ℕ → ℕ → List NamedPaths → Type 0
AreOfLevel g q level named = AreUnlinkedPieces g q level (map (λ n. n.piece) named)

each_unlinked : (g : LinkGraph) (q : List ℕ) (level : ℕ) (named : List NamedPaths) → AreOfLevel g q level named
    → AreUnlinked g q level named
each_unlinked g q level named un n h = (un.each n.piece).0 (has_map (λ (m : NamedPaths). m.piece) named n h)

pub named_pieces : (g : LinkGraph) (q : List ℕ) (level : ℕ) (named : List NamedPaths) → AreOfLevel g q level named
    → AreNamedPieces (length q) named
named_pieces g q level named un n h = (length g.nodes, (each_unlinked g q level named un n h).0)

-- no piece has level 0
none_at_zero : (g : LinkGraph) (q : List ℕ) (named : List NamedPaths) → AreOfLevel g q 0 named → named ≡ []
none_at_zero g q [] un = refl
none_at_zero g q (n ∷ named) un =
    let u = each_unlinked g q 0 (n ∷ named) un n (inl refl) in
    let low = level_low g q n.piece u.0 in
    let same = u.1 in
    absurd (omega (arith, low, same))

-- k = 0 requires no pairs and no fans
no_pairs : (g : LinkGraph) (q : List ℕ) → HavePaths g q 0 []
no_pairs g q = record {
  names = record { order = tt; each = λ p. ((λ h. absurd h), (λ u. absurd (u.0))) };
  paths = λ e h. absurd h;
}

no_fans : (g : LinkGraph) (q : List ℕ) → HaveFans g q 0 []
no_fans g q = record { names = refl; fans = λ e h. absurd h }

-- the entries of the pieces of a level, or no entries for level 0
pub have_paths : (g : LinkGraph) (q : List ℕ) (level : ℕ) (named : List NamedPaths) → IsGroup g q
    → level < length g.nodes → AreOfLevel g q level named → HaveAskedPaths g q named
    → HavePaths g q level (pair_entries q named)
have_paths g q zero named group high un asked =
    subst (λ (l : List NamedPaths). HavePaths g q 0 (pair_entries q l)) (sym (none_at_zero g q named un)) (no_pairs g q)
have_paths g q (suc k) named group high un asked =
    let each = each_unlinked g q (suc k) named un in record {
      names = pairs_all g q (suc k) (map (λ n. n.piece) named) (map (λ e. (e.i, e.j)) (pair_entries q named)) group
          (omega arith) high un (pairs_named g q (suc k) named group each un.order);
      paths = pairs_asked g q (suc k) named each asked;
    }

pub have_fans : (g : LinkGraph) (q : List ℕ) (level : ℕ) (named : List NamedPaths) → IsGroup g q
    → level < length g.nodes → AreOfLevel g q level named → HaveAskedPaths g q named
    → HaveFans g q level (fan_entries q named)
have_fans g q zero named group high un asked =
    subst (λ (l : List NamedPaths). HaveFans g q 0 (fan_entries q l)) (sym (none_at_zero g q named un)) (no_fans g q)
have_fans g q (suc k) named group high un asked =
    let each = each_unlinked g q (suc k) named un in record {
      names = fans_all g q (suc k) (map (λ n. n.piece) named) (map (λ e. e.j) (fan_entries q named)) group (omega arith)
          high un (fans_named g q (suc k) named group each un.order);
      fans = fans_asked g q (suc k) named each asked;
    }

-- paths that were found for pieces, by ids: the pieces are the same, and have the paths that they ask for
pub same_pieces : (g : LinkGraph) (q : List ℕ) (found : List FoundPaths)
    → map (λ n. n.piece) (map (named_of g q) found) ≡ map (λ f. f.piece) found
same_pieces g q [] = refl
same_pieces g q (f ∷ found) = ap (λ (ps : List Piece). f.piece ∷ ps) (same_pieces g q found)

pub all_asked : (g : LinkGraph) (q : List ℕ) (found : List FoundPaths) → AreFound g q found
    → HaveAskedPaths g q (map (named_of g q) found)
all_asked g q [] are n h = absurd h
all_asked g q (f ∷ found) are n h = elim h [
  | inl e ↦ subst (λ (m : NamedPaths). AreAskedPaths g q m.piece m.paths) e (are f (inl refl)).1.asked
  | inr k ↦ all_asked g q found (λ m at. are m (inr at)) n k
]

-- the next of these pieces
pub next_there : (all seen coming rest : List NamedPaths) (n : NamedPaths) → seen ++ coming ≡ all → coming ≡ n ∷ rest
    → Has all n
next_there all seen coming rest n e step = subst (λ (l : List NamedPaths). Has l n) (ap (λ l. seen ++ l) (sym step) ∙ e)
    (has_append_right seen (n ∷ rest) n (inl refl))

pub rest_more : (all seen coming rest : List NamedPaths) (n : NamedPaths) → seen ++ coming ≡ all → coming ≡ n ∷ rest
    → (seen ++ n ∷ []) ++ rest ≡ all
rest_more all seen coming rest n e step = append_assoc seen (n ∷ []) rest ∙ ap (λ l. seen ++ l) (sym step) ∙ e

-- the entries of one more piece
pair_more : (q : List ℕ) (named : List NamedPaths) (n : NamedPaths)
    → pair_entries q (named ++ n ∷ []) ≡ pair_entries q named ++ entry_of_pair q n.piece n.paths
pair_more q [] n = append-nil (entry_of_pair q n.piece n.paths)
pair_more q (m ∷ named) n =
    let first = entry_of_pair q m.piece m.paths in
    ap (λ es. first ++ es) (pair_more q named n)
    ∙ sym (append_assoc first (pair_entries q named) (entry_of_pair q n.piece n.paths))

fan_more : (q : List ℕ) (named : List NamedPaths) (n : NamedPaths)
    → fan_entries q (named ++ n ∷ []) ≡ fan_entries q named ++ entry_of_fan q n.piece n.paths
fan_more q [] n = append-nil (entry_of_fan q n.piece n.paths)
fan_more q (m ∷ named) n =
    let first = entry_of_fan q m.piece m.paths in
    ap (λ es. first ++ es) (fan_more q named n)
    ∙ sym (append_assoc first (fan_entries q named) (entry_of_fan q n.piece n.paths))

pub pair_entered : (q : List ℕ) (seen : List NamedPaths) (n : NamedPaths) (l i j a b : ℕ) (paths : List (List ℕ))
    (old new : List PairPaths) → n.piece ≡ Pair l i j → n.paths ≡ paths → a ≡ member_at q i → b ≡ member_at q j
    → new ≡ old ++ record { i = a; j = b; paths = paths } ∷ [] → old ≡ pair_entries q seen
    → new ≡ pair_entries q (seen ++ n ∷ [])
pair_entered q seen n l i j a b paths old new is has first second put was =
    let entry : ℕ → ℕ → List PairPaths = λ c d. record { i = c; j = d; paths = paths } ∷ [] in
    let e : entry_of_pair q n.piece n.paths ≡ entry (member_at q i) (member_at q j) =
    ap₂ (λ (p : Piece) (ps : List (List ℕ)). entry_of_pair q p ps) is has in
    let f : entry_of_pair q n.piece n.paths ≡ entry a b = e ∙ sym (ap₂ entry first second) in
    put ∙ ap (λ es. es ++ entry a b) was ∙ ap (λ es. pair_entries q seen ++ es) (sym f) ∙ sym (pair_more q seen n)

pub fan_entered : (q : List ℕ) (seen : List NamedPaths) (n : NamedPaths) (l j a : ℕ) (paths : List (List ℕ))
    (old new : List FanPaths) → n.piece ≡ Fan l j → n.paths ≡ paths → a ≡ member_at q j
    → new ≡ old ++ record { j = a; paths = paths } ∷ [] → old ≡ fan_entries q seen
    → new ≡ fan_entries q (seen ++ n ∷ [])
fan_entered q seen n l j a paths old new is has member put was =
    let entry : ℕ → List FanPaths = λ c. record { j = c; paths = paths } ∷ [] in
    let e : entry_of_fan q n.piece n.paths ≡ entry (member_at q j) =
    ap₂ (λ (p : Piece) (ps : List (List ℕ)). entry_of_fan q p ps) is has in
    let f : entry_of_fan q n.piece n.paths ≡ entry a = e ∙ sym (ap entry member) in
    put ∙ ap (λ es. es ++ entry a) was ∙ ap (λ es. fan_entries q seen ++ es) (sym f) ∙ sym (fan_more q seen n)

pub fan_no_pair : (q : List ℕ) (seen : List NamedPaths) (n : NamedPaths) (l j : ℕ) (old : List PairPaths)
    → n.piece ≡ Fan l j → old ≡ pair_entries q seen → old ≡ pair_entries q (seen ++ n ∷ [])
fan_no_pair q seen n l j old is was =
    let e : entry_of_pair q n.piece n.paths ≡ [] = ap (λ (p : Piece). entry_of_pair q p n.paths) is in
    was ∙ sym (append-nil (pair_entries q seen)) ∙ ap (λ es. pair_entries q seen ++ es) (sym e)
    ∙ sym (pair_more q seen n)

pub pair_no_fan : (q : List ℕ) (seen : List NamedPaths) (n : NamedPaths) (l i j : ℕ) (old : List FanPaths)
    → n.piece ≡ Pair l i j → old ≡ fan_entries q seen → old ≡ fan_entries q (seen ++ n ∷ [])
pair_no_fan q seen n l i j old is was =
    let e : entry_of_fan q n.piece n.paths ≡ [] = ap (λ (p : Piece). entry_of_fan q p n.paths) is in
    was ∙ sym (append-nil (fan_entries q seen)) ∙ ap (λ es. fan_entries q seen ++ es) (sym e)
    ∙ sym (fan_more q seen n)
