-- A turn at the desk: worker y becomes z.
use Rattle.std.proofs.Common.{◌≡◌, ℕ, suc, ◌+◌, ◌^◌, ◌<◌, ◌≤◌, min, false, List, [], ◌∷◌, ◌++◌, length, set, get_or}
use Rattle.std.proofs.Common.{refl, sym, ap, ◌∙◌, subst, inl, inr, arith}
use Rattle.std.specs.List.{AllByRecursion}
use Rattle.std.proofs.Math.ListN.{length-append, length-set}
use Rattle.std.proofs.lemmas.Option.{get_or_from_slice_get}
use Rattle.std.proofs.lemmas.List.Sums.{length-filter, count_by-le-length}
use Rattle.ov_ids.specs.Members.{Has, Ascends}
use Rattle.ov_ids.proofs.Members.{has_append_right}
use Rattle.ov_board.specs.Claims.{WorkerState, DeskState, HasWorker, IsLegal, count_ended, AreSoundClaims}
use Rattle.ov_ids.specs.Workers.{MayWork}
use Rattle.ov_board.specs.Steps.{claiming, looking, failing, IsLast, Claims, Looks, Fails}
use Rattle.ov_board.proofs.Changing.{is_ended, after}
use Rattle.ov_board.proofs.Staying.{stays_legal}

-- worker w, which is y, takes a turn at a desk with the fields d; contracts see s
pub record HasTurn (d s : DeskState) (w : ℕ) (y : WorkerState) : Type 0 where
  pub seen : d ≡ s
  pub held : AreSoundClaims d
  pub read : y ≡ get_or d.workers w y

-- the worker that takes the turn is the worker with that number
its_turn : (d s : DeskState) (w : ℕ) (y v : WorkerState) → HasTurn d s w y → HasWorker d w v → v ≡ y
its_turn d s w y v turn has = sym (get_or_from_slice_get d.workers w v y has) ∙ sym turn.read

-- what holds of the value that contracts see holds of the fields
of_fields : (d s : DeskState) (w : ℕ) (y : WorkerState) (P : DeskState → Type 0) → HasTurn d s w y → P s → P d
of_fields d s w y P turn = subst P (sym turn.seen)

-- the next number plus one fits in 64 bits
pub next_small : (d : DeskState) → AreSoundClaims d → d.next + 1 < 2 ^ 64
next_small d h =
    let next = h.legal.next in
    let total = h.total in
    let few = h.may_work.1 in
    let ended : count_ended d.workers ≤ length d.workers =
    omega (arith, length-filter is_ended d.workers, count_by-le-length is_ended d.workers) in
    omega (arith, next, total, few, ended)

-- a turn that leaves the claims legal keeps the invariant of the desk
still_held : (d : DeskState) (next least w : ℕ) (z : WorkerState) → AreSoundClaims d → IsLegal (after d next least w z)
    → AreSoundClaims (after d next least w z)
still_held d next least w z h l =
    let e : length (set d.workers w z) ≡ length d.workers = length-set d.workers w z in
    record { legal = l; total = h.total; may_work = subst MayWork (sym e) h.may_work }

-- the worker exists and has not ended
abbrev pub HasNotEnded : DeskState → ℕ → Type 0
HasNotEnded s w = (v : WorkerState) × HasWorker s w v × (v.ended ≡ false)

claims : (d s : DeskState) (w : ℕ) (y z : WorkerState) → HasTurn d s w y → HasNotEnded d w
    → z ≡ claiming d.total d.next y
    → Claims d w d.next (after d (d.next + 1) d.least w z)
claims d s w y z turn g e =
    let k = its_turn d s w y g.0 turn g.1 in record {
      worker = y;
      has = subst (HasWorker d w) k g.1;
      goes_on = subst (λ (v : WorkerState). v.ended ≡ false) k g.2;
      number = refl;
      after = ap (after d (d.next + 1) d.least w) e;
    }

pub claim_made : (d s : DeskState) (w : ℕ) (y z : WorkerState) → HasTurn d s w y → HasNotEnded s w
    → z ≡ claiming d.total d.next y → Claims s w d.next (after d (d.next + 1) d.least w z)
claim_made d s w y z turn g e =
    subst (λ (u : DeskState). Claims u w d.next (after d (d.next + 1) d.least w z)) turn.seen
    (claims d s w y z turn (of_fields d s w y (λ u. HasNotEnded u w) turn g) e)

pub claim_held : (d s : DeskState) (w : ℕ) (y z : WorkerState) → HasTurn d s w y → HasNotEnded s w
    → z ≡ claiming d.total d.next y → AreSoundClaims (after d (d.next + 1) d.least w z)
claim_held d s w y z turn g e =
    let step = claims d s w y z turn (of_fields d s w y (λ u. HasNotEnded u w) turn g) e in
    let h = turn.held in
    still_held d (d.next + 1) d.least w z h (stays_legal.claims d _ w d.next h.legal step)

-- a list has one last item
only_last : (xs ys : List ℕ) (x y : ℕ) → xs ++ x ∷ [] ≡ ys ++ y ∷ [] → x ≡ y
only_last [] [] x y e = cc e
only_last [] (b ∷ ys) x y e =
    let k : 1 ≡ suc (length (ys ++ y ∷ [])) = ap length e in absurd (omega (arith, k, length-append ys (y ∷ [])))
only_last (a ∷ xs) [] x y e =
    let k : suc (length (xs ++ x ∷ [])) ≡ 1 = ap length e in absurd (omega (arith, k, length-append xs (x ∷ [])))
only_last (a ∷ xs) (b ∷ ys) x y e = let rest : xs ++ x ∷ [] ≡ ys ++ y ∷ [] = cc e in only_last xs ys x y rest

one_last : (v : WorkerState) (x y : ℕ) → IsLast v x → IsLast v y → x ≡ y
one_last v x y a b = only_last a.0 b.0 x y (sym a.1 ∙ b.1)

-- the number that a worker claimed last is one of its numbers
pub own_last : (v : WorkerState) (x : ℕ) → IsLast v x → Has v.claimed x
own_last v x l = subst (λ (xs : List ℕ). Has xs x) (sym l.1) (has_append_right l.0 (x ∷ []) x (inl refl))

-- a worker may look if it has not ended and has claimed a number
abbrev pub MayLook : DeskState → ℕ → Type 0
MayLook s w = (v : WorkerState) × (x : ℕ) × HasWorker s w v × (v.ended ≡ false) × IsLast v x

-- the step of a look, for any number that the worker claimed last
abbrev pub LooksAtLast : DeskState → WorkerState → WorkerState → Type 0
LooksAtLast d y z = (x : ℕ) → IsLast y x → z ≡ looking d.least x y

looks : (d s : DeskState) (w : ℕ) (y z : WorkerState) → HasTurn d s w y → MayLook d w → LooksAtLast d y z
    → (v : WorkerState) (x : ℕ) → HasWorker d w v → IsLast v x → Looks d w x (after d d.next d.least w z)
looks d s w y z turn g e v x has last =
    let own : IsLast y x = subst (λ (u : WorkerState). IsLast u x) (its_turn d s w y v turn has) last in
    let k = its_turn d s w y g.0 turn g.2 in record {
      worker = y;
      has = subst (HasWorker d w) k g.2;
      goes_on = subst (λ (u : WorkerState). u.ended ≡ false) k g.3;
      own = own_last y x own;
      after = ap (after d d.next d.least w) (e x own);
    }

pub look_made : (d s : DeskState) (w : ℕ) (y z : WorkerState) → HasTurn d s w y → MayLook s w → LooksAtLast d y z
    → (v : WorkerState) (x : ℕ) → HasWorker s w v → IsLast v x → Looks s w x (after d d.next d.least w z)
look_made d s w y z turn g e v x has last =
    subst (λ (u : DeskState). Looks u w x (after d d.next d.least w z)) turn.seen
    (looks d s w y z turn (of_fields d s w y (λ u. MayLook u w) turn g) e v x
    (of_fields d s w y (λ u. HasWorker u w v) turn has) last)

pub look_held : (d s : DeskState) (w : ℕ) (y z : WorkerState) → HasTurn d s w y → MayLook s w → LooksAtLast d y z
    → AreSoundClaims (after d d.next d.least w z)
look_held d s w y z turn g e =
    let f : MayLook d w = of_fields d s w y (λ u. MayLook u w) turn g in
    let step = looks d s w y z turn f e f.0 f.1 f.2 f.4 in
    let h = turn.held in
    still_held d d.next d.least w z h (stays_legal.looks d _ w f.1 h.legal step)

-- a worker may fail if it has claimed a number
abbrev pub MayFail : DeskState → ℕ → Type 0
MayFail s w = (v : WorkerState) × (x : ℕ) × HasWorker s w v × IsLast v x

-- y fails at x, which it claimed last, and becomes z; `least` is the lowest failed number after that
pub record FailsAtLast (d : DeskState) (x least : ℕ) (y z : WorkerState) : Type 0 where
  pub last : IsLast y x
  pub became : z ≡ failing x y
  pub lowest : least ≡ min d.least x

fails : (d s : DeskState) (w x least : ℕ) (y z : WorkerState) → HasTurn d s w y → FailsAtLast d x least y z
    → (v : WorkerState) (n : ℕ) → HasWorker d w v → IsLast v n → Fails d w n (after d d.next least w z)
fails d s w x least y z turn f v n has last =
    let k = its_turn d s w y v turn has in
    let same : x ≡ n = one_last y x n f.last (subst (λ (u : WorkerState). IsLast u n) k last) in
    let low = f.lowest in
    let order : least ≡ min n d.least = omega arith in
    let became : z ≡ failing n y = f.became ∙ ap (λ (m : ℕ). failing m y) same in record {
      worker = y;
      has = subst (HasWorker d w) k has;
      own = own_last y n (subst (IsLast y) same f.last);
      after = λ i. after d d.next (order i) w (became i);
    }

pub fail_made : (d s : DeskState) (w x least : ℕ) (y z : WorkerState) → HasTurn d s w y → FailsAtLast d x least y z
    → (v : WorkerState) (n : ℕ) → HasWorker s w v → IsLast v n → Fails s w n (after d d.next least w z)
fail_made d s w x least y z turn f v n has last =
    subst (λ (u : DeskState). Fails u w n (after d d.next least w z)) turn.seen
    (fails d s w x least y z turn f v n (of_fields d s w y (λ u. HasWorker u w v) turn has) last)

pub fail_held : (d s : DeskState) (w x least : ℕ) (y z : WorkerState) → HasTurn d s w y → FailsAtLast d x least y z
    → MayFail s w → AreSoundClaims (after d d.next least w z)
fail_held d s w x least y z turn f may =
    let g : MayFail d w = of_fields d s w y (λ u. MayFail u w) turn may in
    let step = fails d s w x least y z turn f g.0 g.1 g.2 g.3 in
    let h = turn.held in
    still_held d d.next least w z h (stays_legal.fails d _ w g.1 h.legal step)

-- no number of an ascending list is above its last
last_top : (front : List ℕ) (n x : ℕ) → Ascends (front ++ n ∷ []) → Has (front ++ n ∷ []) x → x ≤ n
last_top [] n x a h = elim h [ inl e ↦ omega arith | inr k ↦ absurd k ]
last_top (y ∷ front) n x a h = elim h [
  | inl e ↦ let up = below front n y a.0 in omega arith
  | inr k ↦ last_top front n x a.1 k
]
  where
    below : (front : List ℕ) (n y : ℕ) → AllByRecursion (λ (z : ℕ). y < z) (front ++ n ∷ []) → y < n
    below [] n y a = a.0
    below (z ∷ front) n y a = below front n y a.1

-- no failed number of a worker is above the number that it claimed last
pub fail_asks : (d s : DeskState) (w n : ℕ) (y : WorkerState) → HasTurn d s w y → MayFail s w → IsLast y n
    → (x : ℕ) → Has y.failed x → x ≤ n
fail_asks d s w n y turn may last x h =
    let g : MayFail d w = of_fields d s w y (λ u. MayFail u w) turn may in
    let m = turn.held.legal.workers w y (subst (HasWorker d w) (its_turn d s w y g.0 turn g.2) g.2) in
    let own : Has (last.0 ++ n ∷ []) x = subst (λ (xs : List ℕ). Has xs x) last.1 (m.failed_own x h) in
    last_top last.0 n x (subst Ascends last.1 m.claimed_ascends) own
