-- Seats are cut off and put together: the same workers, shared out among views in another way.
use Rattle.std.proofs.Common.{◌≡◌, ℕ, ◌+◌, List, [], ◌∷◌, ◌++◌, length, length-append, set, take, drop}
use Rattle.std.proofs.Common.{refl, sym, ap, ◌∙◌, subst, inl, inr, arith}
use Rattle.std.proofs.lemmas.List.{take-append-drop}
use Rattle.std.proofs.lemmas.List.Sums.{sum_by-append, sum_by_push}
use Rattle.std.specs.List.{sum_by}
use mathlib.Core.Option.{Option, none}
use Rattle.atomic_table.specs.Table.{Splits, Joins, Enters, step}
use Rattle.atomic_table.proofs.Lists.{at_set, at_snoc}
use Rattle.ov_ids.specs.Members.{Has}
use Rattle.ov_ids.proofs.Members.{has_append_cases}
use Rattle.ov_board.specs.Rule.{Numbered, times, ShowsClaims}
use Rattle.ov_board.specs.declared.ghost_views.BoardSize.{BoardSize}
use Rattle.ov_board.specs.declared.ghost_views.SeatView.{SeatView}
use Rattle.ov_board.specs.Code.Rule.{others_of, first_of, both_of, spent_view, Entered}
use Rattle.ov_board.proofs.Views.{IsAt, hit, sum_written}

-- a count of workers: of two lists put together it is the sum
pub record IsCount (f : List Numbered → ℕ) : Type 0 where
  pub none_is : f [] ≡ 0
  pub both_is : (xs ys : List Numbered) → f (xs ++ ys) ≡ f xs + f ys

pub times_counts : (w : ℕ) → IsCount (times w)
times_counts w = record { none_is = refl; both_is = λ xs ys. sum_by-append (hit w) xs ys }

pub length_counts : IsCount length
length_counts = record { none_is = refl; both_is = λ xs ys. length-append xs ys }

-- f of the workers of all views, added up
abbrev pub counted : (List Numbered → ℕ) → List SeatView → ℕ
counted f vs = sum_by (λ v. f v.seated) vs

-- the views us have the workers of the views vs
pub record IsSharedAnew (vs us : List SeatView) : Type 0 where
  pub from : (j : ℕ) (u : SeatView) (q : Numbered) → IsAt us j u → Has u.seated q
      → (i : ℕ) × (v : SeatView) × IsAt vs i v × Has v.seated q
  pub sums : (f : List Numbered → ℕ) → IsCount f → counted f us ≡ counted f vs

shared_anew : (p : BoardSize) (words : List ℕ) (homes : List (Option (Unit {0}))) (vs us : List SeatView)
    → IsSharedAnew vs us
    → ShowsClaims p record { words = words; homes = homes; views = vs }
    → ShowsClaims p record { words = words; homes = homes; views = us }
shared_anew p words homes vs us a k = record {
  claims = k.claims;
  words = k.words;
  sound = k.sound;
  total = k.total;
  workers = k.workers;
  seated = λ j u q at has. let o = a.from j u q at has in k.seated o.0 o.1 q o.2 o.3;
  once = λ w low. a.sums (times w) (times_counts w) ∙ k.once w low;
  all = a.sums length length_counts ∙ k.all;
}

-- the first worker and the others are all workers
cut : (f : List Numbered → ℕ) (qs : List Numbered) → IsCount f → f (take 1 qs) + f (drop 1 qs) ≡ f qs
cut f qs c = sym (c.both_is (take 1 qs) (drop 1 qs)) ∙ ap f (take-append-drop 1 qs)

has_first : (qs : List Numbered) (q : Numbered) → Has (take 1 qs) q → Has qs q
has_first [] q h = absurd h
has_first (x ∷ xs) q h = elim h [ inl e ↦ inl e | inr none_left ↦ absurd none_left ]

has_other : (qs : List Numbered) (q : Numbered) → Has (drop 1 qs) q → Has qs q
has_other [] q h = absurd h
has_other (x ∷ xs) q h = inr h

apart : (vs : List SeatView) (i : ℕ) (v : SeatView) → IsAt vs i v
    → IsSharedAnew vs (set vs i (others_of v) ++ first_of v ∷ [])
apart vs i v at = record {
  from = λ j u q found has. elim (at_snoc (set vs i (others_of v)) (first_of v) u j found) [
    | inl k ↦ elim (at_set vs i j (others_of v) u k) [
      | inl e ↦ (i, v, at, has_other v.seated q (subst (λ (y : SeatView). Has y.seated q) (sym e.1) has))
      | inr e ↦ (j, u, e.1, has)
    ]
    | inr e ↦ (i, v, at, has_first v.seated q (subst (λ (y : SeatView). Has y.seated q) (sym e) has))
  ];
  sums = λ f c.
      let g : SeatView → ℕ = λ u. f u.seated in
      let ws : List SeatView = set vs i (others_of v) in
      let more : sum_by g (ws ++ first_of v ∷ []) ≡ sum_by g ws + f (take 1 v.seated) = sum_by_push g ws (first_of v) in
      let less : sum_by g ws + f v.seated ≡ sum_by g vs + f (drop 1 v.seated) = sum_written g vs i v (others_of v) at in
      omega (arith, more, less, cut f v.seated c);
}

together : (vs : List SeatView) (i j : ℕ) (v w : SeatView) → IsAt vs i v → ¬ (j ≡ i) → IsAt (set vs i (both_of v w)) j w
    → IsSharedAnew vs (set (set vs i (both_of v w)) j spent_view)
together vs i j v w at far there = record {
  from = λ k u q found has. elim (at_set (set vs i (both_of v w)) j k spent_view u found) [
    | inl e ↦ absurd (subst (λ (y : SeatView). Has y.seated q) (sym e.1) has)
    | inr e ↦ elim (at_set vs i k (both_of v w) u e.1) [
      | inl m ↦
          let both : Has (v.seated ++ w.seated) q = subst (λ (y : SeatView). Has y.seated q) (sym m.1) has in
          elim (has_append_cases v.seated w.seated q both) [ inl a ↦ (i, v, at, a) | inr b ↦ (j, w, was, b) ]
      | inr m ↦ (k, u, m.1, has)
    ]
  ];
  sums = λ f c.
      let g : SeatView → ℕ = λ u. f u.seated in
      let ws : List SeatView = set vs i (both_of v w) in
      let one : sum_by g ws + f v.seated ≡ sum_by g vs + f (v.seated ++ w.seated) =
      sum_written g vs i v (both_of v w) at in
      let two : sum_by g (set ws j spent_view) + f w.seated ≡ sum_by g ws + f [] =
      sum_written g ws j w spent_view there in
      omega (arith, one, two, c.none_is, c.both_is v.seated w.seated);
}
  where
    was : IsAt vs j w
    was = elim (at_set vs i j (both_of v w) w there) [ inl e ↦ absurd (far e.0) | inr e ↦ e.1 ]

one_more : (vs : List SeatView) → IsSharedAnew vs (vs ++ spent_view ∷ [])
one_more vs = record {
  from = λ j u q found has. elim (at_snoc vs spent_view u j found) [
    | inl k ↦ (j, u, k, has)
    | inr e ↦ absurd (subst (λ (y : SeatView). Has y.seated q) (sym e) has)
  ];
  sums = λ f c.
      let more : counted f (vs ++ spent_view ∷ []) ≡ counted f vs + f [] =
      sum_by_push (λ u. f u.seated) vs spent_view in
      omega (arith, more, c.none_is);
}

pub splits : (p : BoardSize) (id : ℕ) (v : SeatView) → Splits (ShowsClaims p) id v (others_of v) (first_of v)
splits p id v t k at = shared_anew p t.words t.homes t.views _ (apart t.views id v at) k

pub joins : (p : BoardSize) (id : ℕ) (v : SeatView) (other : ℕ) (w : SeatView)
    → Joins (ShowsClaims p) id v other w (both_of v w) spent_view
joins p id v other w t k at far there =
    shared_anew p t.words t.homes t.views _ (together t.views id other v w at far there) k

pub enters : (p : BoardSize) (slots : ℕ) (v : SeatView)
    → Enters (ShowsClaims p) slots 0 (λ n w. Entered (step slots 0 0 0 none) (v, []) n (w, []))
enters p slots v t k _ _ = (spent_view, shared_anew p t.words t.homes t.views _ (one_more t.views) k, (refl, refl))
