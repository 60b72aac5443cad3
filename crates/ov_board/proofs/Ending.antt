-- If all workers have ended, the work is done.
use Rattle.std.proofs.Common.{◌≡◌, ◌⊎◌, ◌↔◌, ℕ, zero, suc, ◌<◌, ◌≤◌, Bool, true, IsTrue, List, [], ◌∷◌, length}
use Rattle.std.proofs.Common.{slice_get, Option, Some, None, refl, sym, ap, ◌∙◌, subst, inl, inr, arith}
use Rattle.std.specs.List.{list_all}
use Rattle.std.proofs.lemmas.Bool.{and_parts}
use Rattle.std.proofs.lemmas.Option.{none-some, same_Some}
use Rattle.ov_board.specs.Claims.{WorkerState, DeskState, HasWorker, IsLegal, AreSoundClaims}
use Rattle.ov_board.specs.Theorems.{AllEnded, IsDone, EndsDone}

-- the lowest failed number is at most the total
least_within : (s : DeskState) → IsLegal s → s.least ≤ s.total
least_within s l = elim l.least_failed [
  | inl f ↦
      let own = (l.workers f.0 f.1 f.2).failed_own s.least f.3 in
      let b = (l.claimed s.least).0 (f.0, (f.1, f.2, own)) in
      omega (arith, b.1)
  | inr e ↦ omega arith
]

skipped_or_not : (o : Option ℕ) → ((x : ℕ) × (o ≡ Some x)) ⊎ (o ≡ None)
skipped_or_not None = inr refl
skipped_or_not (Some x) = inl (x, refl)

-- if one worker has ended, all numbers below the lowest failed one were claimed
passed : (s : DeskState) (w : ℕ) (v : WorkerState) → IsLegal s → HasWorker s w v → v.ended ≡ true → s.least ≤ s.next
passed s w v l at e =
    let m = l.workers w v at in
    elim (skipped_or_not v.skipped) [
      | inl k ↦
          let above = m.skipped_above k.0 k.1 in
          let b = (l.claimed k.0).0 (w, (v, at, m.skipped_own k.0 k.1)) in
          omega (arith, above, b.0)
      | inr n ↦ let above = m.ended_above e n in omega (arith, above, least_within s l)
    ]

first_worker : (ws : List WorkerState) → 0 < length ws → (v : WorkerState) × (slice_get ws 0 ≡ Some v)
first_worker [] h = absurd (omega arith)
first_worker (v ∷ ws) h = (v, refl)

pub ends_done : EndsDone
ends_done s l some all =
    let v = first_worker s.workers some in
    let up = passed s 0 v.0 l v.1 (all 0 v.0 v.1) in
    let low = least_within s l in record {
      below = λ x h. (l.claimed x).1 (omega arith, omega arith);
      worked_on = λ x h w v at e. let above = (l.workers w v at).skipped_above x e in omega arith;
      least = l.least_failed;
      no_lower = l.least;
    }

-- whether all these workers have ended
abbrev pub have_ended : List WorkerState → Bool
have_ended ws = list_all (λ (v : WorkerState). v.ended) ws

all_from_test : (ws : List WorkerState) → have_ended ws ≡ true → (w : ℕ) (v : WorkerState) → slice_get ws w ≡ Some v
    → v.ended ≡ true
all_from_test [] e w v h = absurd (none-some v h)
all_from_test (y ∷ ws) e zero v h =
    ap (λ (u : WorkerState). u.ended) (sym (same_Some y v h)) ∙ (and_parts y.ended (have_ended ws) e).0
all_from_test (y ∷ ws) e (suc w) v h = all_from_test ws (and_parts y.ended (have_ended ws) e).1 w v h

test_from_all : (ws : List WorkerState) → ((w : ℕ) (v : WorkerState) → slice_get ws w ≡ Some v → v.ended ≡ true)
    → have_ended ws ≡ true
test_from_all [] h = refl
test_from_all (y ∷ ws) h = rw (h 0 y refl) (test_from_all ws (λ w v k. h (suc w) v k))

-- b is the test of the workers ws, whose claims are d, seen as s
pub ended_tested : (d s : DeskState) (ws : List WorkerState) (b : Bool) → d ≡ s → ws ≡ d.workers → b ≡ have_ended ws
    → IsTrue b ↔ AllEnded s
ended_tested d s ws b seen same e =
    let k : ws ≡ s.workers = same ∙ ap (λ (u : DeskState). u.workers) seen in
    let f : b ≡ have_ended s.workers = e ∙ ap have_ended k in
    ((λ t. all_from_test s.workers (sym f ∙ t)), (λ a. f ∙ test_from_all s.workers a))

pub done_tested : (d s : DeskState) (ws : List WorkerState) (b : Bool) → d ≡ s → AreSoundClaims d → ws ≡ d.workers
    → b ≡ have_ended ws → IsTrue b → IsDone s
done_tested d s ws b seen held same e t =
    let h : AreSoundClaims s = subst AreSoundClaims seen held in
    let some = h.may_work.0 in
    ends_done s h.legal (omega arith) ((ended_tested d s ws b seen same e).0 t)
