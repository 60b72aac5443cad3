-- The state at the opening of a board, and at its closing.
use Rattle.std.proofs.Common.{◌≡◌, ◌⊎◌, ℕ, zero, suc, ◌+◌, ◌-◌, ◌^◌, ◌<◌, ◌≤◌, Bool, true, cond}
use Rattle.std.proofs.Common.{List, [], ◌∷◌, ◌++◌, length, map, set, replicate, slice_get, Some}
use Rattle.std.proofs.Common.{refl, sym, ap, ◌∙◌, subst, inl, inr, arith}
use Rattle.std.specs.Prelude.{All}
use Rattle.std.proofs.lemmas.Bool.{eq-eqb, ne_eqb}
use Rattle.std.proofs.lemmas.List.{length-replicate, get_or-replicate}
use Rattle.std.proofs.lemmas.List.Sums.{sum_by-cons}
use Rattle.std.proofs.lemmas.Option.{slice_get-get_or, slice_get_within}
use mathlib.Core.Option.{some, some-injective, some-ne-none}
use lib.ListN.{get_elem?}
use Rattle.atomic_table.specs.Table.{State, Final, Seen, opening}
use Rattle.ov_ids.specs.Members.{Has}
use Rattle.ov_board.specs.Claims.{WorkerState, HasWorker, fresh, opening_claims}
use Rattle.ov_ids.specs.Workers.{MayWork}
use Rattle.ov_board.proofs.Changing.{one_worker}
use Rattle.ov_board.proofs.Staying.{stays_legal}
use Rattle.ov_board.proofs.Ending.{ends_done}
use Rattle.ov_board.specs.Rule.{Numbered, times, ShowsClaims}
use Rattle.ov_board.specs.declared.ghost_views.BoardSize.{BoardSize}
use Rattle.ov_board.specs.declared.ghost_views.SeatView.{SeatView}
use Rattle.ov_board.specs.Board.{BoardState, SeatState, IsClosed}
use Rattle.ov_board.specs.Code.Rule.{fresh_from, opening_view, spent_view}
use Rattle.ov_board.proofs.Views.{IsAt, hit, sum_written, times_has}
use Rattle.ov_board.proofs.Sharing.{IsCount, times_counts, counted}

-- who is among the first workers
fresh_has : (i m : ℕ) (q : Numbered) → Has (fresh_from i m) q → (q.0 < i + m) × (q.1 ≡ fresh)
fresh_has i zero q h = absurd h
fresh_has i (suc m) q h = elim h [
  | inl e ↦ let at : i ≡ q.0 = ap (λ (r : Numbered). r.0) e in (omega arith, ap (λ (r : Numbered). r.1) (sym e))
  | inr k ↦ let r = fresh_has (i + 1) m q k in (omega (arith, r.0), r.1)
]

-- the first of the workers from i on, up to n
pub fresh_next : (i n : ℕ) → i < n → fresh_from i (n - i) ≡ (i, fresh) ∷ fresh_from (i + 1) (n - (i + 1))
fresh_next i n low = let m : n - i ≡ suc (n - (i + 1)) = omega arith in ap (fresh_from i) m

-- as many as were asked for
fresh_long : (i m : ℕ) → length (fresh_from i m) ≡ m
fresh_long i zero = refl
fresh_long i (suc m) = omega (arith, fresh_long (i + 1) m)

-- a number below the first is not there, and each other one is there once
fresh_none : (w i m : ℕ) → w < i → times w (fresh_from i m) ≡ 0
fresh_none w i zero low = refl
fresh_none w i (suc m) low =
    let other : hit w (i, fresh) ≡ 0 = ap (λ (b : Bool). cond b 1 0) (ne_eqb i w (λ e. omega arith)) in
    omega (arith, other, sum_by-cons (hit w) (i, fresh) (fresh_from (i + 1) m), fresh_none w (i + 1) m (omega arith))

fresh_once : (w i m : ℕ) → i ≤ w → w < i + m → times w (fresh_from i m) ≡ 1
fresh_once w i zero up low = absurd (omega arith)
fresh_once w i (suc m) up low = elim (first_or_later w i up) [
  | inl e ↦
      let same : hit w (i, fresh) ≡ 1 = ap (λ (b : Bool). cond b 1 0) (eq-eqb i w (sym e)) in
      let rest = fresh_none w (i + 1) m (omega arith) in
      omega (arith, same, sum_by-cons (hit w) (i, fresh) (fresh_from (i + 1) m), rest)
  | inr k ↦
      let other : hit w (i, fresh) ≡ 0 = ap (λ (b : Bool). cond b 1 0) (ne_eqb i w (λ e. omega arith)) in
      let rest = fresh_once w (i + 1) m k (omega arith) in
      omega (arith, other, sum_by-cons (hit w) (i, fresh) (fresh_from (i + 1) m), rest)
]
  where
    first_or_later : (w i : ℕ) → i ≤ w → (w ≡ i) ⊎ (i + 1 ≤ w)
    first_or_later w i up = grind arith

-- the state at the opening
pub opens : (p : BoardSize) → p.total < 2 ^ 62 → MayWork p.workers
    → ShowsClaims p (opening (0 ∷ p.total ∷ []) [] (opening_view p))
opens p small may =
    let n = p.workers in
    let long : length (replicate n fresh) ≡ n = length-replicate n fresh in
    record {
      claims = opening_claims p.total n;
      words = refl;
      sound = record {
        legal = stays_legal.opens p.total n;
        total = small;
        may_work = subst MayWork (sym long) may;
      };
      total = refl;
      workers = long;
      seated = λ i v q at has. stands n q (here i v q at has);
      once = λ w low. omega (arith, fresh_once w 0 n (omega arith) (omega arith));
      all = omega (arith, fresh_long 0 n);
    }
  where
    here : (i : ℕ) (v : SeatView) (q : Numbered) → IsAt (opening_view p ∷ []) i v → Has v.seated q
        → Has (fresh_from 0 p.workers) q
    here zero v q at has = subst (λ (y : SeatView). Has y.seated q) (sym (some-injective (opening_view p) v at)) has
    here (suc i) v q at has = absurd (some-ne-none v (sym at))

    stands : (n : ℕ) (q : Numbered) → Has (fresh_from 0 n) q → slice_get (replicate n fresh) q.0 ≡ Some q.1
    stands n q has =
        let r = fresh_has 0 n q has in
        let low : q.0 < length (replicate n fresh) = omega (arith, r.0, length-replicate n fresh) in
        slice_get-get_or (replicate n fresh) q.0 fresh low
        ∙ ap Some (get_or-replicate n q.0 fresh fresh (omega (arith, r.0)) ∙ sym r.1)

-- views with no worker count for nothing
counts_nothing : (f : List Numbered → ℕ) (vs : List SeatView) → IsCount f → counted length vs ≡ 0 → counted f vs ≡ 0
counts_nothing f [] c e = refl
counts_nothing f (v ∷ vs) c e =
    let long = sum_by-cons (λ (u : SeatView). length u.seated) v vs in
    let count = sum_by-cons (λ (u : SeatView). f u.seated) v vs in
    let none_here : f v.seated ≡ 0 = ap f (empty v.seated (omega (arith, long, e))) ∙ c.none_is in
    omega (arith, count, none_here, counts_nothing f vs c (omega (arith, long, e)))
  where
    empty : (qs : List Numbered) → length qs ≡ 0 → qs ≡ []
    empty [] e = refl
    empty (q ∷ qs) e = absurd (omega arith)

-- where one view has as many workers as all views, all that counts is in it
counts_all : (f : List Numbered → ℕ) (vs : List SeatView) (i : ℕ) (v : SeatView) → IsCount f → IsAt vs i v
    → counted length vs ≡ length v.seated → counted f vs ≡ f v.seated
counts_all f vs i v c at e =
    let long : counted length (set vs i spent_view) + length v.seated ≡ counted length vs + 0 =
    sum_written (λ u. length u.seated) vs i v spent_view at in
    let rest : counted f (set vs i spent_view) + f v.seated ≡ counted f vs + f [] =
    sum_written (λ u. f u.seated) vs i v spent_view at in
    let nothing = counts_nothing f (set vs i spent_view) c (omega (arith, long, e)) in
    omega (arith, rest, nothing, c.none_is)

-- each worker of the claims is in a view that has as many workers as all views
whole : (p : BoardSize) (t : State (Unit {0}) SeatView) (i : ℕ) (v : SeatView) (k : ShowsClaims p t) → IsAt t.views i v
    → length v.seated ≡ p.workers → (w : ℕ) (x : WorkerState) → HasWorker k.claims w x → Has v.seated (w, x)
whole p t i v k at all w x has =
    let low : w < p.workers = omega (arith, slice_get_within k.claims.workers w x has, k.workers) in
    let once = counts_all (times w) t.views i v (times_counts w) at (k.all ∙ sym all) in
    let found = times_has w v.seated (omega (arith, once, k.once w low)) in
    let there : HasWorker k.claims w found.0 = k.seated i v (w, found.0) at found.1 in
    subst (λ (y : WorkerState). Has v.seated (w, y)) (one_worker k.claims.workers w found.0 x there has) found.1

-- the worker of a seat with its number
abbrev pub numbered : SeatState → Numbered
numbered seat = (seat.number, seat.worker)

-- a seat has its numbered worker, and a numbered worker its seat
has_numbered : (seats : List SeatState) (seat : SeatState) → Has seats seat → Has (map numbered seats) (numbered seat)
has_numbered [] seat h = absurd h
has_numbered (x ∷ xs) seat h = elim h [ inl e ↦ inl (ap numbered e) | inr k ↦ inr (has_numbered xs seat k) ]

seat_of : (seats : List SeatState) (q : Numbered) → Has (map numbered seats) q
    → (seat : SeatState) × Has seats seat × (seat.number ≡ q.0) × (seat.worker ≡ q.1)
seat_of [] q h = absurd h
seat_of (x ∷ xs) q h = elim h [
  | inl e ↦ (x, inl refl, ap (λ (r : Numbered). r.0) e, ap (λ (r : Numbered). r.1) e)
  | inr k ↦ let o = seat_of xs q k in (o.0, inr o.1, o.2, o.3)
]

-- what holds of all holds of each
pub all_has : (P : SeatState → Type 0) (seats : List SeatState) (seat : SeatState) → All P seats → Has seats seat
    → P seat
all_has P [] seat all h = absurd h
all_has P (x ∷ xs) seat all h = elim h [
  | inl e ↦ subst P e (all 0 x (omega arith))
  | inr k ↦ all_has P xs seat (λ i d low. all (suc i) d (omega arith)) k
]

-- the state at the closing
pub closes : (p : BoardSize) (b : BoardState) (id : ℕ) (v : SeatView) (words : List ℕ) (slots : List (Unit {0}))
    (least : ℕ) (seats : List SeatState) → Final (Seen (ShowsClaims p) id v) words slots
    → get_elem? words 1 ≡ some least
    → p.total ≡ b.total → p.workers ≡ b.workers → v.seated ≡ map numbered seats → length seats ≡ p.workers
    → All (λ s. s.worker.ended ≡ true) seats → IsClosed b seats least
closes p b id v words slots least seats f found total workers is long ended =
    let t = f.0 in
    let k : ShowsClaims p t = f.1.0 in
    let at : IsAt t.views id v = f.1.1 in
    let s = k.claims in
    let all : length v.seated ≡ p.workers = ap length is ∙ (length_numbered seats ∙ long) in
    let each = λ (w : ℕ) (x : WorkerState) (has : HasWorker s w x). seat_of seats (w, x)
    (subst (λ (qs : List Numbered). Has qs (w, x)) is (whole p t id v k at all w x has)) in
    record {
      s = s;
      are = record { legal = k.sound.legal; total = k.total ∙ total; workers = k.workers ∙ workers };
      least = some-injective s.least least (ap (λ (ws : List ℕ). get_elem? ws 1) (sym k.words ∙ f.2) ∙ found);
      seated = λ seat has. k.seated id v (numbered seat) at
          (subst (λ (qs : List Numbered). Has qs (numbered seat)) (sym is) (has_numbered seats seat has));
      each = each;
      done = ends_done s k.sound.legal (k.sound.may_work.0) (λ w x has.
          let o = each w x has in
          ap (λ (y : WorkerState). y.ended) (sym o.3) ∙ all_has (λ seat. seat.worker.ended ≡ true) seats o.0 ended o.1);
    }
  where
    length_numbered : (seats : List SeatState) → length (map numbered seats) ≡ length seats
    length_numbered [] = refl
    length_numbered (x ∷ xs) = omega (arith, length_numbered xs)

-- a list of no items is empty
pub nothing_left : {X : Type 0} (xs : List X) → length xs ≡ 0 → xs ≡ []
nothing_left {X} [] e = refl
nothing_left {X} (x ∷ xs) e = absurd (omega arith)

-- one more item of a list whose items are those of f
pub pushed : {X : Type 0} (xs : List X) (n : ℕ) (f : ℕ → X) (y : X) → length xs ≡ n
    → ((i : ℕ) → i < n → slice_get xs i ≡ Some (f i)) → y ≡ f n
    → (i : ℕ) → i < n + 1 → slice_get (xs ++ y ∷ []) i ≡ Some (f i)
pushed {X} [] n f y long has is zero low = let e : 0 ≡ n = long in ap Some (is ∙ ap f (sym e))
pushed {X} [] n f y long has is (suc i) low = absurd (omega arith)
pushed {X} (x ∷ xs) zero f y long has is i low = absurd (omega arith)
pushed {X} (x ∷ xs) (suc n) f y long has is zero low = has 0 (omega arith)
pushed {X} (x ∷ xs) (suc n) f y long has is (suc i) low =
    pushed xs n (λ k. f (suc k)) y (omega arith) (λ k less. has (suc k) (omega arith)) is i (omega arith)
