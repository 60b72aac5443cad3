-- The order of the pieces is strict and total.
use Rattle.std.proofs.Common.{◌≡◌, ◌∙◌, ℕ, ◌⊎◌, inl, inr, sym, ap, ap₂, arith}
use Rattle.std.proofs.lemmas.Bool.{cases_order}
use Rattle.ov_fans.specs.Pieces.{level_of}
use Rattle.ov_fans.specs.declared.piece.Piece.{Piece}
use Rattle.ov_fans.specs.declared.piece.Piece.TheVariants.{Pair, Fan}
use Rattle.ov_even.specs.Order.{PrecedesInLevel, ComesBefore}

pair_same : (level other i k j l : ℕ) → level ≡ other → i ≡ k → j ≡ l → Pair level i j ≡ Pair other k l
pair_same level other i k j l e f h =
    ap (λ (x : ℕ). Pair x i j) e ∙ ap₂ (λ (x y : ℕ). Pair other x y) f h

-- of two pieces of a level, one precedes the other, or they are equal
in_level : (p r : Piece) → level_of p ≡ level_of r → (p ≡ r) ⊎ (PrecedesInLevel p r ⊎ PrecedesInLevel r p)
in_level (Pair level i j) (Pair other k l) e = elim (cases_order j l) [
  | inl f ↦ elim (cases_order i k) [
    | inl h ↦ inl (pair_same level other i k j l e h f)
    | inr o ↦ elim o [ inl lt ↦ inr (inl (inr (f, lt))) | inr gt ↦ inr (inr (inr (sym f, gt))) ]
  ]
  | inr o ↦ elim o [ inl lt ↦ inr (inl (inl lt)) | inr gt ↦ inr (inr (inl gt)) ]
]
in_level (Pair level i j) (Fan other l) e = inr (inl tt)
in_level (Fan level j) (Pair other k l) e = inr (inr tt)
in_level (Fan level j) (Fan other l) e = elim (cases_order j l) [
  | inl f ↦ inl (ap₂ (λ (x y : ℕ). Fan x y) e f)
  | inr o ↦ elim o [ inl lt ↦ inr (inl lt) | inr gt ↦ inr (inr gt) ]
]

-- of two pieces, one comes before the other, or they are equal
pub one_comes_before : (p r : Piece) → (p ≡ r) ⊎ (ComesBefore p r ⊎ ComesBefore r p)
one_comes_before p r = elim (cases_order (level_of p) (level_of r)) [
  | inl e ↦ elim (in_level p r e) [
    | inl same ↦ inl same
    | inr o ↦ elim o [ inl before ↦ inr (inl (inr (e, before))) | inr behind ↦ inr (inr (inr (sym e, behind))) ]
  ]
  | inr o ↦ elim o [ inl lt ↦ inr (inl (inl lt)) | inr gt ↦ inr (inr (inl gt)) ]
]

-- two pieces of a level do not both precede each other
in_level_strict : (p r : Piece) → PrecedesInLevel p r → PrecedesInLevel r p → ⊥
in_level_strict (Pair level i j) (Pair other k l) h m = elim h [
  | inl a ↦ elim m [ inl b ↦ absurd (omega (arith, a, b)) | inr b ↦ let e = b.0 in absurd (omega (arith, a, e)) ]
  | inr a ↦
      let e = a.0 in
      let less = a.1 in
      elim m [
        | inl b ↦ absurd (omega (arith, e, b))
        | inr b ↦ let more = b.1 in absurd (omega (arith, less, more))
      ]
]
in_level_strict (Pair level i j) (Fan other l) h m = m
in_level_strict (Fan level j) (Pair other k l) h m = h
in_level_strict (Fan level j) (Fan other l) h m = omega (arith, h, m)

-- two pieces do not both come before each other
pub not_both_before : (p r : Piece) → ComesBefore p r → ComesBefore r p → ⊥
not_both_before p r h m = elim h [
  | inl a ↦ elim m [ inl b ↦ absurd (omega (arith, a, b)) | inr b ↦ let e = b.0 in absurd (omega (arith, a, e)) ]
  | inr a ↦
      let e = a.0 in
      elim m [ inl b ↦ absurd (omega (arith, e, b)) | inr b ↦ in_level_strict p r a.1 b.1 ]
]
