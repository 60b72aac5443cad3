-- An ascending list of members of another one is no longer than it, and shorter if it lacks one.
use Rattle.std.proofs.Common.{◌≡◌, ◌≢◌, ℕ, ◌<◌, ◌≤◌, List, [], ◌∷◌, length, inl, inr, refl, sym, subst, arith}
use Rattle.std.proofs.lemmas.Bool.{cases_eq}
use Rattle.ov_ids.specs.Members.{Has, Ascends}
use Rattle.ov_ids.proofs.Members.{all_member}

-- members of a list that are above its first one are in its rest
above : (x y : ℕ) (ys : List ℕ) → y < x → Has (y ∷ ys) x → Has ys x
above x y ys l h = elim h [ inl e ↦ absurd (omega (arith, l, e)) | inr k ↦ k ]

-- if both lists begin alike, the rest of one has members of the rest of the other
rests : (x y : ℕ) (xs ys : List ℕ) → Ascends (x ∷ xs) → x ≡ y → ((z : ℕ) → Has (x ∷ xs) z → Has (y ∷ ys) z) → (z : ℕ)
    → Has xs z → Has ys z
rests x y xs ys up e within z h =
    let l : x < z = all_member (λ k. x < k) xs z up.0 h in
    above z y ys (omega (arith, l, e)) (within z (inr h))

-- if the first list begins later, all of it has members of the rest of the other
all_later : (x y : ℕ) (xs ys : List ℕ) → Ascends (x ∷ xs) → Ascends (y ∷ ys) → x ≢ y
    → ((z : ℕ) → Has (x ∷ xs) z → Has (y ∷ ys) z) → (z : ℕ) → Has (x ∷ xs) z → Has ys z
all_later x y xs ys up vp ne within z h =
    let first : Has ys x = elim (within x (inl refl)) [ inl e ↦ absurd (ne (sym e)) | inr k ↦ k ] in
    let l : y < x = all_member (λ k. y < k) ys x vp.0 first in
    elim h [
      | inl e ↦ subst (λ (k : ℕ). Has ys k) e first
      | inr k ↦
          let m : x < z = all_member (λ i. x < i) xs z up.0 k in
          above z y ys (omega (arith, l, m)) (within z (inr k))
    ]

pub no_longer : (xs ys : List ℕ) → Ascends xs → Ascends ys → ((z : ℕ) → Has xs z → Has ys z) → length xs ≤ length ys
no_longer [] ys up vp within = omega arith
no_longer (x ∷ xs) [] up vp within = absurd (within x (inl refl))
no_longer (x ∷ xs) (y ∷ ys) up vp within = elim (cases_eq x y) [
  | inl e ↦ let r = no_longer xs ys up.1 vp.1 (rests x y xs ys up e within) in omega (arith, r)
  | inr ne ↦
      let r = no_longer (x ∷ xs) ys up vp.1 (all_later x y xs ys up vp ne within) in
      omega (arith, r)
]

pub shorter : (xs ys : List ℕ) (v : ℕ) → Ascends xs → Ascends ys → ((z : ℕ) → Has xs z → Has ys z) → Has ys v
    → (¬ Has xs v) → length xs < length ys
shorter xs [] v up vp within there lacks = absurd there
shorter [] (y ∷ ys) v up vp within there lacks = omega arith
shorter (x ∷ xs) (y ∷ ys) v up vp within there lacks = elim (cases_eq x y) [
  | inl e ↦
      let rest : Has ys v = elim there [
        | inl f ↦ absurd (lacks (inl (subst (λ (k : ℕ). x ≡ k) f e)))
        | inr k ↦ k
      ] in
      let r = shorter xs ys v up.1 vp.1 (rests x y xs ys up e within) rest (λ h. lacks (inr h)) in
      omega (arith, r)
  | inr ne ↦
      let r = no_longer (x ∷ xs) ys up vp.1 (all_later x y xs ys up vp ne within) in
      omega (arith, r)
]
