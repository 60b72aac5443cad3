-- Members of a group, by their places.
use Rattle.std.proofs.Common.{◌≡◌, ◌∙◌, ℕ, zero, suc, ◌-◌, ◌<◌, ◌≤◌, ◌⊎◌, inl, inr, List, [], ◌∷◌, length}
use Rattle.std.proofs.Common.{get_or, Bool, true, false, slice_index, cond, nat_lt, refl, sym, subst, arith}
use Rattle.std.proofs.lemmas.Bool.{lt-ltb}
use Rattle.std.proofs.lemmas.List.{get_or_default}
use Rattle.std.specs.List.{AllByRecursion}
use Rattle.ov_ids.specs.Members.{Has, IsDistinct, Ascends}
use Rattle.ov_ids.proofs.Members.{has_or_not, has_place, all_member, ordered_at}
use Rattle.ov_graph.specs.Even.{members_below}
use Rattle.ov_split.proofs.Augmenting.Lists.{distinct_length}
use Rattle.ov_fans.specs.Pieces.{member_at}
use Rattle.ov_fans.specs.Code.Kept.{IsLowestOutside}

-- an item that is read at a place
pub read_at : (xs : List ℕ) (i x : ℕ) → i < length xs → x ≡ get_or xs i x → x ≡ slice_index xs i
read_at xs i x l e = e ∙ get_or_default xs i x 0 l

-- what stands at a place of a group is a member
pub member_in : (q : List ℕ) (place : ℕ) → 1 ≤ place → place ≤ length q → Has q (member_at q place)
member_in q place l m = has_place q (place - 1) 0 (omega arith)

-- a later member is above an earlier one
pub members_rise : (q : List ℕ) (i j : ℕ) → Ascends q → 1 ≤ i → i < j → j ≤ length q → member_at q i < member_at q j
members_rise q i j up l m n = ordered_at (λ x y. x < y) q (i - 1) (j - 1) 0 up (omega arith) (omega arith)

all_below : (P : ℕ → Type 0) (q : List ℕ) (a : ℕ) → AllByRecursion P q → AllByRecursion P (members_below q a)
all_below P [] a all = tt
all_below P (x ∷ xs) a all =
    elim (nat_lt x a) as (λ b. AllByRecursion P (cond b (x ∷ members_below xs a) (members_below xs a))) [
      | true ↦ (all.0, all_below P xs a all.1)
      | false ↦ all_below P xs a all.1
    ]

-- the members below one ascend
pub below_ascend : (q : List ℕ) (a : ℕ) → Ascends q → Ascends (members_below q a)
below_ascend [] a up = tt
below_ascend (x ∷ xs) a up =
    elim (nat_lt x a) as (λ b. Ascends (cond b (x ∷ members_below xs a) (members_below xs a))) [
      | true ↦ (all_below (λ y. x < y) xs a up.0, below_ascend xs a up.1)
      | false ↦ below_ascend xs a up.1
    ]

-- the members below one are those before it
pub count_before : (q : List ℕ) (i : ℕ) → Ascends q → i < length q → i ≤ length (members_below q (get_or q i 0))
count_before [] i up l = absurd (omega arith)
count_before (x ∷ xs) zero up l = omega arith
count_before (x ∷ xs) (suc i) up l =
    let a = get_or xs i 0 in
    let above : x < a = all_member (λ y. x < y) xs a up.0 (has_place xs i 0 (omega arith)) in
    let more : i ≤ length (members_below xs a) = count_before xs i up.1 (omega arith) in
    subst (λ (b : Bool). suc i ≤ length (cond b (x ∷ members_below xs a) (members_below xs a)))
    (sym (lt-ltb x a above)) (omega (arith, more))

-- one of these is the lowest that is not in s, or all are in it
pub lowest_or_all : (s xs : List ℕ) → Ascends xs → ((x : ℕ) × IsLowestOutside s xs x) ⊎ ((x : ℕ) → Has xs x → Has s x)
lowest_or_all s [] up = inr (λ x h. absurd h)
lowest_or_all s (y ∷ ys) up = elim (has_or_not s y) [
  | inr n ↦ inl (
    y,
    record {
      member = inl refl;
      outside = n;
      lowest = λ t h o. elim h [
        | inl e ↦ omega (arith, e)
        | inr k ↦ let l : y < t = all_member (λ z. y < z) ys t up.0 k in omega (arith, l)
      ];
    },
  )
  | inl h ↦ elim (lowest_or_all s ys up.1) [
    | inl r ↦ let f = r.1 in inl (
      r.0,
      record {
        member = inr f.member;
        outside = f.outside;
        lowest = λ t k o. elim k [ inl e ↦ absurd (o (subst (Has s) e h)) | inr m ↦ f.lowest t m o ];
      },
    )
    | inr all ↦ inr (λ x k. elim k [ inl e ↦ subst (Has s) e h | inr m ↦ all x m ])
  ]
]

-- a list of distinct members of s is no longer than s
pub fits : (s xs : List ℕ) → IsDistinct xs → ((x : ℕ) → Has xs x → Has s x) → length xs ≤ length s
fits s xs d all = distinct_length xs s d all
