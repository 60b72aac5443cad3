-- The largest of the components so far, and of all.
use Rattle.std.proofs.Common.{◌≡◌, ◌⊎◌, ℕ, suc, ◌+◌, ◌<◌, ◌≤◌, List, [], ◌∷◌, length, slice_index, Some, inl, inr}
use Rattle.std.proofs.Common.{◌∙◌, refl, sym, ap, subst, arith}
use Rattle.std.specs.Prelude.{get_or, slice_get, unwrap_or}
use Rattle.std.proofs.lemmas.Bool.{cases_eq, cases_lt}
use Rattle.std.proofs.lemmas.Option.{get_or_from_slice_get, slice_get_within}
use Rattle.ov_ids.specs.Members.{Has, Ascends}
use Rattle.ov_ids.proofs.Members.{all_member, has_place, ordered_at, same_ascending}
use Rattle.ov_graph.specs.Links.{LinkGraph, HasNode}
use Rattle.ov_graph.specs.Components as whole
use Rattle.ov_graph.specs.Components.{IsLargest}
use Rattle.ov_graph.proofs.EvenTest.Walks.{joined_end, joined_self}
use Rattle.ov_components.specs.Components.{AreComponents, BeginsBelow, IsComponent}

-- ---- places of items

pub has_got : {X : Type 0} (xs : List X) (i : ℕ) (x : X) → slice_get xs i ≡ Some x → Has xs x
has_got xs i x at =
    subst (Has xs) (get_or_from_slice_get xs i x x at) (has_place xs i x (slice_get_within xs i x at))

pub place_got : {X : Type 0} (xs : List X) (x : X) → Has xs x → (i : ℕ) × (slice_get xs i ≡ Some x)
place_got [] x h = absurd h
place_got (y ∷ ys) x h = elim h [
  | inl e ↦ (0, ap Some e)
  | inr k ↦ let r = place_got ys x k in (suc r.0, r.1)
]

head_least : (xs : List ℕ) (x : ℕ) → Ascends xs → Has xs x → slice_index xs 0 ≤ x
head_least [] x up h = absurd h
head_least (y ∷ ys) x up h = elim h [
  | inl e ↦ omega (arith, e)
  | inr k ↦ let l : y < x = all_member (λ z. y < z) ys x up.0 k in omega (arith, l)
]

pub one_item : {X : Type 0} (xs : List X) (i j : ℕ) (x y : X) → i ≡ j → slice_get xs i ≡ Some x → slice_get xs j ≡ Some y
    → x ≡ y
one_item xs i j x y same p q =
    ap (λ o. unwrap_or o x) (sym p ∙ ap (slice_get xs) same ∙ q)

-- ---- the largest so far

-- a list stands among the first n, and each before it is shorter
pub record IsFirst (lists : List (List ℕ)) (n : ℕ) (best : List ℕ) : Type 0 where
  pub place : ℕ
  pub before : place < n
  pub there : slice_get lists place ≡ Some best
  pub shorter : (j : ℕ) (q : List ℕ) → j < place → slice_get lists j ≡ Some q → length q < length best

-- none of the first n is longer, and it is the first one as long, or empty
pub record IsBest (lists : List (List ℕ)) (n : ℕ) (best : List ℕ) : Type 0 where
  pub most : (j : ℕ) (q : List ℕ) → j < n → slice_get lists j ≡ Some q → length q ≤ length best
  pub found : (best ≡ []) ⊎ IsFirst lists n best

pub best_begun : (lists : List (List ℕ)) → IsBest lists 0 []
best_begun lists = record {
  most = λ j q less at. absurd (omega (arith, less));
  found = inl refl;
}

later : (lists : List (List ℕ)) (n : ℕ) (best : List ℕ) → (best ≡ []) ⊎ IsFirst lists n best
    → (best ≡ []) ⊎ IsFirst lists (n + 1) best
later lists n best is = elim is [
  | inl e ↦ inl e
  | inr f ↦ inr (record {
    place = f.place;
    before = let l = f.before in omega (arith, l);
    there = f.there;
    shorter = f.shorter;
  })
]

-- one list more that is not longer
pub best_kept : (lists : List (List ℕ)) (n : ℕ) (best : List ℕ) → IsBest lists n best
    → ((q : List ℕ) → slice_get lists n ≡ Some q → length q ≤ length best) → IsBest lists (n + 1) best
best_kept lists n best is below = record {
  most = λ j q less at. elim (cases_eq j n) [
    | inl e ↦ below q (subst (λ (k : ℕ). slice_get lists k ≡ Some q) e at)
    | inr ne ↦ is.most j q (omega (arith, less, ne)) at
  ];
  found = later lists n best is.found;
}

-- one list more that is longer
pub best_taken : (lists : List (List ℕ)) (n : ℕ) (best longer : List ℕ) → IsBest lists n best
    → slice_get lists n ≡ Some longer → length best < length longer → IsBest lists (n + 1) longer
best_taken lists n best longer is there more = record {
  most = λ j q less at. elim (cases_eq j n) [
    | inl e ↦ let same = ap (λ (l : List ℕ). length l) (one_item lists j n q longer e at there) in omega (arith, same)
    | inr ne ↦ let b = is.most j q (omega (arith, less, ne)) at in omega (arith, b, more)
  ];
  found = inr (record {
    place = n;
    before = omega arith;
    there = there;
    shorter = λ j q less at. let b = is.most j q less at in omega (arith, b, more);
  });
}

-- ---- the largest of all

-- a component of a graph is one of those that the crash of no node leaves
one_of : (g : LinkGraph) (lists : List (List ℕ)) (b : ℕ) (ys : List ℕ) → AreComponents g [] lists
    → whole.IsComponent g b ys → (j : ℕ) × (slice_get lists j ≡ Some ys)
one_of g lists b ys are is =
    let found = are.all b (is.node, λ none. none) in
    let q : List ℕ = found.0 in
    let among : Has lists q = found.1 in
    let there : Has q b = found.2 in
    let c : IsComponent g [] q = are.each q among in
    let same : q ≡ ys = same_ascending q ys c.ascends is.ascend
    (λ x m. (is.each x).1 ((c.joined b x there).0 m))
    (λ x m. (c.joined b x there).1 ((is.each x).0 m)) in
    place_got lists ys (subst (Has lists) same among)

member_of : (g : LinkGraph) (b : ℕ) (ys : List ℕ) → whole.IsComponent g b ys → Has ys b
member_of g b ys is = (is.each b).1 (joined_self g [] b (is.node, λ none. none))

of_first : (g : LinkGraph) (lists : List (List ℕ)) (n : ℕ) (best : List ℕ) → AreComponents g [] lists
    → IsBest lists n best → length lists ≤ n → IsFirst lists n best → IsLargest g best
of_first g lists n best are is end f =
    let c : IsComponent g [] best = are.each best (has_got lists f.place best f.there) in
    let least_id : ℕ = slice_index best 0 in
    let first : Has best least_id = has_place best 0 0 c.some_member in
    let within : (j : ℕ) (q : List ℕ) → slice_get lists j ≡ Some q → j < n =
    λ j q at. let l = slice_get_within lists j q at in omega (arith, l, end) in
    record {
      first = least_id;
      component = record {
        node = (joined_end g [] least_id least_id ((c.joined least_id least_id first).0 first)).0;
        ascend = c.ascends;
        each = λ b. c.joined least_id b first;
      };
      most = λ b ys ys_is. let at = one_of g lists b ys are ys_is in is.most at.0 ys (within at.0 ys at.1) at.1;
      least = λ b ys ys_is long.
          let at = one_of g lists b ys are ys_is in
          let j : ℕ = at.0 in
          let here : slice_get lists j ≡ Some ys = at.1 in
          let begins = head_least ys b ys_is.ascend (member_of g b ys ys_is) in
          elim (cases_lt j f.place) [
            | inl less ↦ let shorter = f.shorter j ys less here in absurd (omega (arith, shorter, long))
            | inr more ↦ elim (cases_eq j f.place) [
              | inl e ↦
                  let same : slice_index ys 0 ≡ least_id =
                  ap (λ (l : List ℕ). slice_index l 0) (one_item lists j f.place ys best e here f.there) in
                  omega (arith, begins, same)
              | inr ne ↦
                  let order : f.place < j = omega (arith, more, ne) in
                  let below : BeginsBelow (get_or lists f.place []) (get_or lists j []) =
                  ordered_at BeginsBelow lists f.place j [] are.order order (slice_get_within lists j ys here) in
                  let p = ap (λ (l : List ℕ). slice_index l 0) (get_or_from_slice_get lists f.place best [] f.there) in
                  let q = ap (λ (l : List ℕ). slice_index l 0) (get_or_from_slice_get lists j ys [] here) in
                  omega (arith, begins, below, p, q)
            ]
          ];
    }

-- all lists
pub best_all : (lists : List (List ℕ)) (n : ℕ) (best : List ℕ) → IsBest lists n best → length lists ≤ n
    → (g : LinkGraph) → HasNode g → AreComponents g [] lists → IsLargest g best
best_all lists n best is end g node are = elim is.found [
  | inl none ↦
      let x : ℕ = slice_index g.nodes 0 in
      let found = are.all x (has_place g.nodes 0 0 node, λ e. e) in
      let p : List ℕ = found.0 in
      let some = (are.each p found.1).some_member in
      let at = place_got lists p found.1 in
      let less = slice_get_within lists at.0 p at.1 in
      let most = is.most at.0 p (omega (arith, less, end)) at.1 in
      let empty = ap (λ (l : List ℕ). length l) none in
      absurd (omega (arith, most, empty, some))
  | inr f ↦ of_first g lists n best are is end f
]
