-- The places of nodes that are linked, when one more link is taken in.
use Rattle.std.proofs.Common.{◌≡◌, ◌∙◌, ◌↔◌, ◌⊎◌, ℕ, ◌<◌, List, [], ◌∷◌, ◌++◌, length, slice_index, inl, inr, sym}
use Rattle.std.proofs.Common.{ap, ap₂, subst}
use Rattle.ov_ids.specs.Members.{Has, Ascends}
use Rattle.ov_ids.proofs.Members.{has_append_left, has_append_right, has_append_cases}
use Rattle.ov_graph.specs.Links.{Linked}
use Rattle.ov_graph.proofs.BitRows.Read.{one_place}

-- the nodes at places r and s are linked by these links
abbrev pub AreEnds : List ℕ → List (ℕ × ℕ) → ℕ → ℕ → Type 0
AreEnds nodes links r s =
    (r < length nodes) × (s < length nodes)
    × Linked (record { nodes = nodes; links = links }) (slice_index nodes r) (slice_index nodes s)

-- B2 holds of the places that one more link joins, in both orders, and where B held
pub more_joined : (nodes : List ℕ) (links : List (ℕ × ℕ)) (B B1 B2 : ℕ → ℕ → Type 0) (p q a b : ℕ)
    → Ascends nodes → p < length nodes → q < length nodes → slice_index nodes p ≡ a → slice_index nodes q ≡ b
    → ((r s : ℕ) → B1 r s ↔ (((r ≡ p) × (s ≡ q)) ⊎ B r s)) → ((r s : ℕ) → B2 r s ↔ (((r ≡ q) × (s ≡ p)) ⊎ B1 r s))
    → ((r s : ℕ) → B r s ↔ AreEnds nodes links r s)
    → (r s : ℕ) → B2 r s ↔ AreEnds nodes (links ++ (a, b) ∷ []) r s
unfolding Linked
more_joined nodes links B B1 B2 p q a b up pl ql e f first second before r s =
    let new : (r s : ℕ) → r ≡ p → s ≡ q → Has (links ++ (a, b) ∷ []) (slice_index nodes r, slice_index nodes s) =
    λ r s u v.
    has_append_right links ((a, b) ∷ []) (slice_index nodes r, slice_index nodes s)
    (inl (ap₂ (λ (x y : ℕ). (x, y)) (sym e ∙ ap (λ (i : ℕ). slice_index nodes i) (sym u))
    (sym f ∙ ap (λ (i : ℕ). slice_index nodes i) (sym v)))) in
    let old : (l : ℕ × ℕ) → Has links l → Has (links ++ (a, b) ∷ []) l = λ l h.
    has_append_left links ((a, b) ∷ []) l h in
    let ends : (r s : ℕ) → r < length nodes → s < length nodes
    → Has {X = ℕ × ℕ} ((a, b) ∷ []) (slice_index nodes r, slice_index nodes s)
    → (r ≡ p) × (s ≡ q) = λ r s rl sl h. elim h [
      | inl t ↦ (
        one_place nodes r p up rl pl (sym (ap (λ (l : ℕ × ℕ). l.0) t) ∙ sym e),
        one_place nodes s q up sl ql (sym (ap (λ (l : ℕ × ℕ). l.1) t) ∙ sym f),
      )
      | inr w ↦ absurd w
    ] in (
      (λ h. elim ((second r s).0 h) [
        | inl t ↦ (
          subst (λ (i : ℕ). i < length nodes) (sym t.0) ql,
          subst (λ (i : ℕ). i < length nodes) (sym t.1) pl,
          inr (new s r t.1 t.0),
        )
        | inr k ↦ elim ((first r s).0 k) [
          | inl t ↦ (
            subst (λ (i : ℕ). i < length nodes) (sym t.0) pl,
            subst (λ (i : ℕ). i < length nodes) (sym t.1) ql,
            inl (new r s t.0 t.1),
          )
          | inr m ↦ let b = (before r s).0 m in (
            b.0,
            b.1,
            elim b.2 [
              | inl g ↦ inl (old (slice_index nodes r, slice_index nodes s) g)
              | inr g ↦ inr (old (slice_index nodes s, slice_index nodes r) g)
            ],
          )
        ]
      ]),
      (λ h. elim h.2 [
        | inl g ↦ elim (has_append_cases links ((a, b) ∷ []) (slice_index nodes r, slice_index nodes s) g) [
          | inl k ↦ (second r s).1 (inr ((first r s).1 (inr ((before r s).1 (h.0, h.1, inl k)))))
          | inr k ↦ (second r s).1 (inr ((first r s).1 (inl (ends r s h.0 h.1 k))))
        ]
        | inr g ↦ elim (has_append_cases links ((a, b) ∷ []) (slice_index nodes s, slice_index nodes r) g) [
          | inl k ↦ (second r s).1 (inr ((first r s).1 (inr ((before r s).1 (h.0, h.1, inr k)))))
          | inr k ↦ let t = ends s r h.1 h.0 k in (second r s).1 (inl (t.1, t.0))
        ]
      ]),
    )
