-- The order of pieces is transitive and irreflexive.
use Rattle.std.proofs.Common.{◌≡◌, ◌⊎◌, inl, inr, ℕ, ◌<◌, arith}
use Rattle.ov_fans.specs.declared.piece.Piece.{Piece}
use Rattle.ov_fans.specs.declared.piece.Piece.TheVariants.{Pair, Fan}
use Rattle.ov_even.specs.Order.{PrecedesInLevel, ComesBefore}
use Rattle.ov_even.proofs.PieceOrder.Ordering.{not_both_before}

within_trans : (p r s : Piece) → PrecedesInLevel p r → PrecedesInLevel r s → PrecedesInLevel p s
within_trans (Pair a i j) (Pair b k l) (Pair c m n) f g = grind (arith, f, g)
within_trans (Pair a i j) (Pair b k l) (Fan c n) f g = tt
within_trans (Pair a i j) (Fan b l) (Pair c m n) f g = absurd g
within_trans (Pair a i j) (Fan b l) (Fan c n) f g = tt
within_trans (Fan a j) (Pair b k l) s f g = absurd f
within_trans (Fan a j) (Fan b l) (Pair c m n) f g = absurd g
within_trans (Fan a j) (Fan b l) (Fan c n) f g = omega (arith, f, g)

pub before_trans : (p r s : Piece) → ComesBefore p r → ComesBefore r s → ComesBefore p s
before_trans p r s f g = elim f [
  | inl l ↦ elim g [ inl m ↦ inl (omega arith) | inr m ↦ let e = m.0 in inl (omega (arith, e)) ]
  | inr l ↦ let d = l.0 in elim g [
    | inl m ↦ inl (omega (arith, d))
    | inr m ↦ let e = m.0 in inr (omega (arith, d, e), within_trans p r s l.1 m.1)
  ]
]

pub before_once : (p : Piece) → ¬ ComesBefore p p
before_once p f = not_both_before p p f f

pub number_cases : (a b : ℕ) → (a < b) ⊎ ((a ≡ b) ⊎ (b < a))
number_cases a b = grind arith
