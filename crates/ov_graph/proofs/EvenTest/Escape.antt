-- The pigeonhole principle: of more lists than a set has members, one has nothing of the set.
use Rattle.std.proofs.Common.{◌≡◌, ◌∙◌, ℕ, suc, ◌<◌, ◌⊎◌, inl, inr, List, [], ◌∷◌, length, refl, sym, ap, subst, arith}
use Rattle.ov_ids.specs.Members.{Has, IsApart}
use Rattle.ov_ids.proofs.Members.{has_or_not}
use Rattle.ov_graph.specs.Paths.{ShareOnly}

-- some member of xs is in s, or none is
pub meets_or_apart : (s xs : List ℕ) → ((x : ℕ) × Has xs x × Has s x) ⊎ IsApart s xs
meets_or_apart s [] = inr (λ x h. absurd h)
meets_or_apart s (y ∷ ys) =
    elim (has_or_not s y) [
      | inl h ↦ inl (y, inl refl, h)
      | inr n ↦ elim (meets_or_apart s ys) [
        | inl m ↦ inl (m.0, inr m.1, m.2)
        | inr a ↦ inr (λ x h. elim h [ inl e ↦ subst (λ (z : ℕ). ¬ Has s z) e n | inr k ↦ a x k ])
      ]
    ]

-- s without one member x
pub record Less (s : List ℕ) (x : ℕ) : Type 0 where
  pub rest : List ℕ
  pub shorter : length s ≡ suc (length rest)
  pub within : (y : ℕ) → Has rest y → Has s y
  pub others : (y : ℕ) → Has s y → (x ≡ y) ⊎ Has rest y

pub less : (s : List ℕ) (x : ℕ) → Has s x → Less s x
less [] x h = absurd h
less (z ∷ zs) x h =
    elim h [
      | inl e ↦ record {
        rest = zs;
        shorter = refl;
        within = λ y k. inr k;
        others = λ y k. elim k [ inl f ↦ inl (sym e ∙ f) | inr m ↦ inr m ];
      }
      | inr k ↦ let r = less zs x k in record {
        rest = z ∷ r.rest;
        shorter = ap suc r.shorter;
        within = λ y m. elim m [ inl f ↦ inl f | inr q ↦ inr (r.within y q) ];
        others = λ y m. elim m [
          | inl f ↦ inr (inl f)
          | inr q ↦ elim (r.others y q) [ inl f ↦ inl f | inr w ↦ inr (inr w) ]
        ];
      }
    ]

-- of more lists than s has members, which share nothing of s, one has nothing of s
pub escape : (shared s : List ℕ) (ps : List (List ℕ)) → IsApart s shared → ShareOnly shared ps → length s < length ps
    → (p : List ℕ) × Has ps p × IsApart s p
escape shared s [] off only l = absurd (omega arith)
escape shared s (p ∷ ps) off only l =
    elim (meets_or_apart s p) [
      | inr away ↦ (p, inl refl, away)
      | inl m ↦
          let w = less s m.0 m.2 in
          let q = escape shared w.rest ps (λ x h k. off x h (w.within x k)) only.1 (omega (arith, w.shorter)) in (
            q.0,
            inr q.1,
            λ y h k. elim (w.others y k) [
              | inl e ↦ off m.0 (only.0 q.0 m.0 q.1 m.1 (subst (Has q.0) (sym e) h)) m.2
              | inr r ↦ q.2 y h r
            ],
          )
    ]
