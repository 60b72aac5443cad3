-- The views of all seats: sums over them, and which of them has a worker.
use Rattle.std.proofs.Common.{◌≡◌, ◌≢◌, ℕ, zero, suc, ◌+◌, ◌<◌, ◌≤◌, Bool, true, false, cond, eqb, List, [], ◌∷◌}
use Rattle.std.proofs.Common.{set, refl, sym, ap, ap₂, ◌∙◌, subst, inl, inr, arith}
use Rattle.std.proofs.lemmas.Bool.{eqb-true, eq-eqb}
use Rattle.std.proofs.lemmas.List.Sums.{sum_by-cons}
use Rattle.std.proofs.lemmas.Option.{slice_get_within}
use Rattle.std.specs.List.{sum_by}
use mathlib.Core.Option.{some, some-injective, some-ne-none}
use lib.ListN.{get_elem?}
use Rattle.atomic_table.specs.Table.{State}
use Rattle.ov_ids.specs.Members.{Has}
use Rattle.ov_board.specs.Claims.{WorkerState}
use Rattle.ov_board.specs.Rule.{Numbered, times, ShowsClaims}
use Rattle.ov_board.specs.declared.ghost_views.BoardSize.{BoardSize}
use Rattle.ov_board.specs.declared.ghost_views.SeatView.{SeatView}

-- this view stands at this place
abbrev pub IsAt : List SeatView → ℕ → SeatView → Type 0
IsAt vs i v = get_elem? vs i ≡ some v

-- a sum over the views after one view was written
pub sum_written : (f : SeatView → ℕ) (vs : List SeatView) (i : ℕ) (v u : SeatView) → IsAt vs i v
    → sum_by f (set vs i u) + f v ≡ sum_by f vs + f u
sum_written f [] i v u at = absurd (some-ne-none v (sym at))
sum_written f (x ∷ xs) zero v u at =
    let same : f x ≡ f v = ap f (some-injective x v at) in
    omega (arith, same, sum_by-cons f u xs, sum_by-cons f x xs)
sum_written f (x ∷ xs) (suc i) v u at =
    omega (arith, sum_by-cons f x (set xs i u), sum_by-cons f x xs, sum_written f xs i v u at)

-- one view counts for no more than all, and so do two views
pub one_of_sum : (f : SeatView → ℕ) (vs : List SeatView) (i : ℕ) (v : SeatView) → IsAt vs i v → f v ≤ sum_by f vs
one_of_sum f [] i v at = absurd (some-ne-none v (sym at))
one_of_sum f (x ∷ xs) zero v at =
    let same : f x ≡ f v = ap f (some-injective x v at) in omega (arith, same, sum_by-cons f x xs)
one_of_sum f (x ∷ xs) (suc i) v at = omega (arith, sum_by-cons f x xs, one_of_sum f xs i v at)

pub two_of_sum : (f : SeatView → ℕ) (vs : List SeatView) (i j : ℕ) (v w : SeatView) → j ≢ i → IsAt vs i v → IsAt vs j w
    → f v + f w ≤ sum_by f vs
two_of_sum f [] i j v w ne at there = absurd (some-ne-none v (sym at))
two_of_sum f (x ∷ xs) zero zero v w ne at there = absurd (ne refl)
two_of_sum f (x ∷ xs) zero (suc j) v w ne at there =
    let same : f x ≡ f v = ap f (some-injective x v at) in
    omega (arith, same, sum_by-cons f x xs, one_of_sum f xs j w there)
two_of_sum f (x ∷ xs) (suc i) zero v w ne at there =
    let same : f x ≡ f w = ap f (some-injective x w there) in
    omega (arith, same, sum_by-cons f x xs, one_of_sum f xs i v at)
two_of_sum f (x ∷ xs) (suc i) (suc j) v w ne at there =
    omega (arith, sum_by-cons f x xs, two_of_sum f xs i j v w (λ e. ne (ap suc e)) at there)

-- 1 where the number is w, else 0
abbrev pub hit : ℕ → Numbered → ℕ
hit w q = cond (eqb q.0 w) 1 0

-- a worker that is there counts
pub has_times : (qs : List Numbered) (q : Numbered) → Has qs q → 1 ≤ times q.0 qs
has_times [] q h = absurd h
has_times (x ∷ xs) q h = elim h [
  | inl e ↦
      let self : hit q.0 q ≡ 1 = ap (λ (b : Bool). cond b 1 0) (eq-eqb q.0 q.0 refl) in
      let same : hit q.0 x ≡ 1 = ap (hit q.0) e ∙ self in
      omega (arith, same, sum_by-cons (hit q.0) x xs)
  | inr k ↦ omega (arith, sum_by-cons (hit q.0) x xs, has_times xs q k)
]

-- who counts is there
counts_by : (w : ℕ) (q : Numbered) (qs : List Numbered) (b : Bool) → eqb q.0 w ≡ b → 1 ≤ times w (q ∷ qs)
    → (1 ≤ times w qs → (x : WorkerState) × Has qs (w, x)) → (x : WorkerState) × Has (q ∷ qs) (w, x)
counts_by w q qs true e h rest =
    (q.1, inl (ap₂ (λ (n : ℕ) (y : WorkerState). (n, y)) (eqb-true q.0 w e) (refl {a = q.1})))
counts_by w q qs false e h rest =
    let none_here : hit w q ≡ 0 = ap (λ (b : Bool). cond b 1 0) e in
    let r = rest (omega (arith, h, none_here, sum_by-cons (hit w) q qs)) in (r.0, inr r.1)

pub times_has : (w : ℕ) (qs : List Numbered) → 1 ≤ times w qs → (x : WorkerState) × Has qs (w, x)
times_has w [] h = absurd (omega arith)
times_has w (q ∷ qs) h = counts_by w q qs (eqb q.0 w) refl h (times_has w qs)

-- each worker of a view has a number below the number of workers
pub number_below : (p : BoardSize) (t : State (Unit {0}) SeatView) (i : ℕ) (v : SeatView) (q : Numbered)
    → ShowsClaims p t
    → IsAt t.views i v → Has v.seated q → q.0 < p.workers
number_below p t i v q k at has =
    let b = slice_get_within k.claims.workers q.0 q.1 (k.seated i v q at has) in omega (arith, b, k.workers)

-- another view has no worker with the same number
pub not_twice : (p : BoardSize) (t : State (Unit {0}) SeatView) (i j : ℕ) (v w : SeatView) (q r : Numbered)
    → ShowsClaims p t → j ≢ i
    → IsAt t.views i v → IsAt t.views j w → Has v.seated q → Has w.seated r → r.0 ≢ q.0
not_twice p t i j v w q r k ne at there has also e =
    let one : 1 ≤ times q.0 v.seated = has_times v.seated q has in
    let other : 1 ≤ times q.0 w.seated = subst (λ (n : ℕ). 1 ≤ times n w.seated) e (has_times w.seated r also) in
    let both = two_of_sum (λ (u : SeatView). times q.0 u.seated) t.views i j v w ne at there in
    let once = k.once q.0 (number_below p t i v q k at has) in
    absurd (omega (arith, one, other, both, once))
