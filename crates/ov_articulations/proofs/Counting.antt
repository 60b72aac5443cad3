-- The articulation points among the first members of a component, and all of them.
use Rattle.std.proofs.Common.{◌≡◌, ◌↔◌, ◌⊎◌, ℕ, zero, suc, ◌+◌, ◌<◌, ◌≤◌, List, [], ◌∷◌, ◌++◌, length, take, inl, inr}
use Rattle.std.proofs.Common.{Bool, true, false, not, refl, sym, subst, arith}
use Rattle.std.specs.Prelude.{get_or}
use Rattle.std.proofs.lemmas.Bool.{cases_eq}
use Rattle.std.proofs.lemmas.List.{length-append}
use Rattle.ov_ids.specs.Members.{Has, Ascends}
use Rattle.ov_ids.proofs.Members.{all_from_members, all_member, has_append_cases, has_append_left, has_append_right}
use Rattle.ov_ids.proofs.Members.{has_place, has_take, ordered_at, place_in_take, place_of}
use Rattle.ov_graph.specs.Links.{LinkGraph}
use Rattle.ov_graph.specs.Components.{IsLargest}
use Rattle.ov_articulations.specs.Articulations.{HasArticulations, IsArticulation}

-- what is at a place, whatever stands for what is not
pub any_default : (xs : List ℕ) (i d e : ℕ) → i < length xs → get_or xs i d ≡ get_or xs i e
any_default [] i d e less = absurd (omega (arith, less))
any_default (x ∷ xs) zero d e less = refl
any_default (x ∷ xs) (suc i) d e less = any_default xs i d e (omega (arith, less))

pub has_at : (xs : List ℕ) (i x : ℕ) → i < length xs → x ≡ get_or xs i x → Has xs x
has_at xs i x less is = subst (Has xs) (sym is) (has_place xs i x less)

-- n of the first k members are articulation points
pub record IsCounted (g : LinkGraph) (xs : List ℕ) (k n : ℕ) : Type 0 where
  pub points : List ℕ
  pub ascend : Ascends points
  pub each : (v : ℕ) → Has points v ↔ (Has (take k xs) v × IsArticulation g xs v)
  pub count : length points ≡ n
  pub few : n ≤ k

pub counted_begun : (g : LinkGraph) (xs : List ℕ) → IsCounted g xs 0 0
counted_begun g xs = record {
  points = [];
  ascend = tt;
  each = λ v. ((λ h. absurd h), (λ h. h.0));
  count = refl;
  few = omega arith;
}

-- the members up to a place are those before it, and the one that stands there
pub taken_more : (xs : List ℕ) (k v : ℕ) → Has (take (k + 1) xs) v → Has (take k xs) v ⊎ (get_or xs k 0 ≡ v)
taken_more xs k v h =
    let at = place_in_take xs (k + 1) v h in
    let i : ℕ = at.0 in
    let less : i < k + 1 = at.1 in
    let within : i < length xs = at.2 in
    let is : get_or xs i 0 ≡ v = at.3 in
    elim (cases_eq i k) [
      | inl e ↦ inr (subst (λ (n : ℕ). get_or xs n 0 ≡ v) e is)
      | inr ne ↦ inl (subst (Has (take k xs)) is (has_take xs k i (omega (arith, less, ne)) within))
    ]

-- all members
pub taken_all : (xs : List ℕ) (k v : ℕ) → length xs ≤ k → Has xs v → Has (take k xs) v
taken_all xs k v end h =
    let at = place_of xs v h in
    let less = at.1 in
    subst (Has (take k xs)) at.2 (has_take xs k at.0 (omega (arith, less, end)) less)

pub turned : (b : Bool) → not b ≡ false → b ≡ true
turned true e = refl
turned false e = cc e

taken_before : (xs : List ℕ) (k v : ℕ) → Has (take k xs) v → Has (take (k + 1) xs) v
taken_before xs k v h =
    let at = place_in_take xs k v h in
    let less = at.1 in
    subst (Has (take (k + 1) xs)) at.3 (has_take xs (k + 1) at.0 (omega (arith, less)) at.2)

-- one member more that is none
pub counted_past : (g : LinkGraph) (xs : List ℕ) (k n : ℕ) → IsCounted g xs k n
    → ¬ IsArticulation g xs (get_or xs k 0) → IsCounted g xs (k + 1) n
counted_past g xs k n is none = record {
  points = is.points;
  ascend = is.ascend;
  each = λ v. (
    (λ h. let both = (is.each v).0 h in (taken_before xs k v both.0, both.1)),
    (λ h. elim (taken_more xs k v h.0) [
      | inl before ↦ (is.each v).1 (before, h.1)
      | inr same ↦ absurd (none (subst (IsArticulation g xs) (sym same) h.1))
    ]),
  );
  count = is.count;
  few = let l = is.few in omega (arith, l);
}

ascends_last : (xs : List ℕ) (x : ℕ) → Ascends xs → ((y : ℕ) → Has xs y → y < x) → Ascends (xs ++ x ∷ [])
ascends_last [] x up each = (tt, tt)
ascends_last (y ∷ ys) x up each = (
  all_from_members (λ z. y < z) (ys ++ x ∷ []) (λ z h. elim (has_append_cases ys (x ∷ []) z h) [
    | inl k ↦ all_member (λ w. y < w) ys z up.0 k
    | inr k ↦ elim k [
      | inl e ↦ let l : y < x = each y (inl refl) in omega (arith, l, e)
      | inr m ↦ absurd m
    ]
  ]),
  ascends_last ys x up.1 (λ z h. each z (inr h)),
)

-- one member more that is one
pub counted_more : (g : LinkGraph) (xs : List ℕ) (k n : ℕ) → Ascends xs → k < length xs → IsCounted g xs k n
    → IsArticulation g xs (get_or xs k 0) → IsCounted g xs (k + 1) (n + 1)
counted_more g xs k n up within is point =
    let x : ℕ = get_or xs k 0 in
    let below : (y : ℕ) → Has is.points y → y < x = λ y h.
    let at = place_in_take xs k y ((is.each y).0 h).0 in
    let same : get_or xs at.0 0 ≡ y = at.3 in
    let less : get_or xs at.0 0 < get_or xs k 0 = ordered_at (λ a b. a < b) xs at.0 k 0 up at.1 within in
    omega (arith, same, less) in
    record {
      points = is.points ++ x ∷ [];
      ascend = ascends_last is.points x is.ascend below;
      each = λ v. (
        (λ h. elim (has_append_cases is.points (x ∷ []) v h) [
          | inl before ↦ let both = (is.each v).0 before in (taken_before xs k v both.0, both.1)
          | inr last ↦ elim last [
            | inl e ↦ (
              subst (Has (take (k + 1) xs)) e (has_take xs (k + 1) k (omega arith) within),
              subst (IsArticulation g xs) e point,
            )
            | inr none ↦ absurd none
          ]
        ]),
        (λ h. elim (taken_more xs k v h.0) [
          | inl before ↦ has_append_left is.points (x ∷ []) v ((is.each v).1 (before, h.1))
          | inr same ↦ has_append_right is.points (x ∷ []) v (inl same)
        ]),
      );
      count = let c = is.count in let l = length-append is.points (x ∷ []) in omega (arith, c, l);
      few = let l = is.few in omega (arith, l);
    }

-- all members
pub counted_all : (g : LinkGraph) (xs : List ℕ) (k n : ℕ) → IsLargest g xs → length xs ≤ k → IsCounted g xs k n
    → HasArticulations g n
counted_all g xs k n largest end is = (
  xs,
  is.points,
  largest,
  record {
    ascend = is.ascend;
    each = λ v. (
      (λ h. ((is.each v).0 h).1),
      (λ point. (is.each v).1 (taken_all xs k v end point.member, point)),
    );
  },
  is.count,
)
