-- If two members are not linked, some piece is the first that is not good.
use Rattle.std.proofs.Common.{ℕ, ◌⊎◌, inl, inr, List, [], ◌∷◌, length, refl, sym, subst}
use Rattle.ov_ids.specs.Members.{Has, Ordered}
use Rattle.ov_ids.proofs.Members.{all_member}
use Rattle.ov_graph.specs.Links.{LinkGraph, IsGraph, AreAllLinked, IsGroup}
use Rattle.ov_fans.specs.Pieces.{IsPiece, IsGood}
use Rattle.ov_fans.specs.declared.piece.Piece.{Piece}
use Rattle.ov_fans.proofs.PieceCuts.Refuted.{cut_refutes}
use Rattle.ov_even.specs.Order.{ComesBefore, AreAllPieces}
use Rattle.ov_even.specs.First.{IsFirst}
use Rattle.ov_even.proofs.PieceOrder.Ordering.{not_both_before}
use Rattle.ov_even.proofs.EvenTest.Cutting.{good_or_cut}
use Rattle.ov_even.proofs.EvenTest.Complete.{some_piece_fails}

-- a piece is good or is not
pub good_or_not : (g : LinkGraph) (q : List ℕ) (p : Piece) → IsGraph g → IsGroup g q → IsPiece g q p
    → IsGood g q p ⊎ (¬ IsGood g q p)
good_or_not g q p graph group at = elim (good_or_cut g q p graph group at) [
  | inl good ↦ inl good
  | inr c ↦ inr (cut_refutes g q p c.0 graph c.1.nearest.least.cut c.1.few)
]

-- the first piece of a list that is not good
record IsFirstOf (g : LinkGraph) (q : List ℕ) (pieces : List Piece) (p : Piece) : Type 0 where
  there : Has pieces p
  fails : ¬ IsGood g q p
  before : (r : Piece) → Has pieces r → ComesBefore r p → IsGood g q r

-- in an ordered list, some piece is the first that is not good, or all are good
first_or_all : (g : LinkGraph) (q : List ℕ) (pieces : List Piece) → IsGraph g → IsGroup g q → Ordered ComesBefore pieces
    → ((p : Piece) → Has pieces p → IsPiece g q p)
    → ((p : Piece) × IsFirstOf g q pieces p) ⊎ ((p : Piece) → Has pieces p → IsGood g q p)
first_or_all g q [] graph group order each = inr (λ p h. absurd h)
first_or_all g q (x ∷ xs) graph group order each =
    let later : (r : Piece) → Has xs r → ComesBefore x r = λ r h. all_member (ComesBefore x) xs r order.0 h in
    elim (good_or_not g q x graph group (each x (inl refl))) [
      | inr bad ↦ inl (
        x,
        record {
          there = inl refl;
          fails = bad;
          before = λ r h b. elim h [
            | inl e ↦
                let same = subst (λ (z : Piece). ComesBefore z x) (sym e) b in
                absurd (not_both_before x x same same)
            | inr k ↦ absurd (not_both_before r x b (later r k))
          ];
        },
      )
      | inl good ↦ elim (first_or_all g q xs graph group order.1 (λ p h. each p (inr h))) [
        | inl f ↦
            let m = f.1 in
            inl (
              f.0,
              record {
                there = inr m.there;
                fails = m.fails;
                before = λ r h b. elim h [ inl e ↦ subst (IsGood g q) e good | inr k ↦ m.before r k b ];
              },
            )
        | inr all ↦ inr (λ p h. elim h [ inl e ↦ subst (IsGood g q) e good | inr k ↦ all p k ])
      ]
    ]

-- if two members are not linked, some piece is the first that is not good
pub first_among : (g : LinkGraph) (q : List ℕ) (pieces : List Piece) → IsGraph g → IsGroup g q → ¬ AreAllLinked g q
    → AreAllPieces (length g.nodes) (length q) pieces → (p : Piece) × IsFirst g q p
first_among g q pieces graph group apart all =
    let found = first_or_all g q pieces graph group all.order (λ p h. (all.each p).0 h) in
    elim found [
      | inl f ↦
          let m = f.1 in (
            f.0,
            record {
              piece = (all.each f.0).0 m.there;
              fails = m.fails;
              before = λ r at b. m.before r ((all.each r).1 (at)) b;
            },
          )
      | inr good ↦
          absurd (apart (some_piece_fails g q graph group (λ p at. good p ((all.each p).1 (at)))))
    ]
