-- Each exchange is a step of the claims, and keeps the rule.
use Rattle.std.proofs.Common.{◌≡◌, ℕ, ◌+◌, ◌%◌, ◌^◌, min, false, List, [], ◌∷◌, length, set, get_or}
use Rattle.std.proofs.Common.{refl, sym, ap, ◌∙◌, subst, inl, inr, arith}
use Rattle.std.proofs.lemmas.List.{length-set}
use mathlib.Core.Option.{none}
use Rattle.atomic_table.specs.Seated.{TableId}
use Rattle.atomic_table.specs.Table.{State, step, keeps, Allows}
use Rattle.atomic_table.proofs.Lists.{at_set}
use Rattle.ov_ids.specs.Members.{Has}
use Rattle.ov_board.specs.Claims.{WorkerState, DeskState, HasWorker, IsLegal}
use Rattle.ov_ids.specs.Workers.{MayWork}
use Rattle.ov_board.specs.Steps.{claiming, looking, failing, Claims, Looks, Fails}
use Rattle.ov_board.proofs.Changing.{after, here, elsewhere}
use Rattle.ov_board.proofs.Staying.{stays_legal}
use Rattle.ov_board.proofs.Turns.{next_small}
use Rattle.ov_board.specs.Rule.{Numbered, times, ShowsClaims}
use Rattle.ov_board.specs.declared.ghost_views.BoardSize.{BoardSize}
use Rattle.ov_board.specs.declared.ghost_views.SeatView.{SeatView}
use Rattle.ov_board.specs.Code.Rule.{Holder, with_seated, head_of, number_of, worker_of}
use Rattle.ov_board.specs.Board.{BoardState, SeatState, IsExchange}
use Rattle.ov_board.specs.Code.Rule.{seat_state, Exchanged, Claimed, Looked, Failed}
use Rattle.ov_board.proofs.Views.{IsAt, sum_written, not_twice}

-- the view of a seat of a board of this size: it has one worker
pub record IsSeat (p : BoardSize) (v : SeatView) : Type 0 where
  pub one : v.seated ≡ head_of v.seated ∷ []
  pub total : v.total ≡ p.total
  pub workers : v.workers ≡ p.workers

-- a seat, whose board contracts see with these fields
pub at_board : (p : BoardSize) (v : SeatView) (z y : TableId) (total : ℕ) → v.seated ≡ head_of v.seated ∷ []
    → (seat_state z v).board ≡ record { table = y; total = total; workers = p.workers } → total ≡ p.total → IsSeat p v
at_board p v z y total one same is = record {
  one = one;
  total = ap (λ (b : BoardState). b.total) same ∙ is;
  workers = ap (λ (b : BoardState). b.workers) same;
}

-- the step of an exchange, as contracts see the seat
pub told : (Step : ℕ → DeskState → DeskState → Type 0) (z y : TableId) (v w : SeatView) (seat : SeatState) → z ≡ y
    → seat_state y v ≡ seat
    → ((u : TableId) → IsExchange (Step (number_of v)) (seat_state u v) (seat_state u w))
    → IsExchange (Step seat.number) seat (seat_state z w)
told Step z y v w seat same is made =
    let was = ap (λ (u : TableId). seat_state u v) same ∙ is in
    subst (λ (u : SeatState). IsExchange (Step u.number) u (seat_state z w)) was (made z)

-- the view, where its worker has become x
abbrev becoming : SeatView → WorkerState → SeatView
becoming v x = with_seated v ((number_of v, x) ∷ [])

-- it is in its own view
own : (v : SeatView) → v.seated ≡ head_of v.seated ∷ [] → Has v.seated (head_of v.seated)
own v one = subst (λ (qs : List Numbered). Has qs (head_of v.seated)) (sym one) (inl refl)

-- the worker of a seat stands at its number
stands : (p : BoardSize) (t : State (Unit {0}) SeatView) (id : ℕ) (v : SeatView) (k : ShowsClaims p t) → IsSeat p v
    → IsAt t.views id v
    → HasWorker k.claims (number_of v) (worker_of v)
stands p t id v k seat at = k.seated id v (head_of v.seated) at (own v seat.one)

-- the rule holds after the worker of a seat has become x, if the claims stay legal
kept : (p : BoardSize) (t : State (Unit {0}) SeatView) (id : ℕ) (v : SeatView) (next least : ℕ) (x : WorkerState)
    (k : ShowsClaims p t)
    → IsSeat p v → IsAt t.views id v → IsLegal (after k.claims next least (number_of v) x)
    → (words : List ℕ) → words ≡ next ∷ least ∷ []
    → ShowsClaims p record { words = words; homes = t.homes; views = set t.views id (becoming v x) }
kept p t id v next least x k seat at legal words are =
    let n = number_of v in
    let ws = k.claims.workers in
    let d : DeskState = after k.claims next least n x in
    let new : SeatView = becoming v x in
    let long : length (set ws n x) ≡ length ws = length-set ws n x in
    let had = stands p t id v k seat at in
    let now : HasWorker d n x = here ws n (worker_of v) x had in
    record {
      claims = d;
      words = are;
      sound = record {
        legal = legal;
        total = k.sound.total;
        may_work = subst MayWork (sym long) k.sound.may_work;
      };
      total = k.total;
      workers = long ∙ k.workers;
      seated = λ j u q found has. elim (at_set t.views id j new u found) [
        | inl e ↦
            let mine : Has new.seated q = subst (λ (y : SeatView). Has y.seated q) (sym e.1) has in
            elim mine [
              | inl same ↦ subst (λ (r : Numbered). HasWorker d r.0 r.1) same now
              | inr none_left ↦ absurd none_left
            ]
        | inr e ↦
            let apart = not_twice p t id j v u (head_of v.seated) q k e.0 at e.1 (own v seat.one) has in
            elsewhere ws n q.0 x q.1 apart (k.seated j u q e.1 has)
      ];
      once = λ w low.
          let same : times w v.seated ≡ times w new.seated = ap (times w) seat.one in
          omega (arith, sum_written (λ (y : SeatView). times w y.seated) t.views id v new at, k.once w low, same);
      all =
          let same : length v.seated ≡ 1 = ap length seat.one in
          omega (arith, sum_written (λ (y : SeatView). length y.seated) t.views id v new at, k.all, same);
    }

-- the step that an exchange is
made : (p : BoardSize) (t : State (Unit {0}) SeatView) (id : ℕ) (me : Holder) (next least : ℕ) (x : WorkerState)
    (k : ShowsClaims p t) → IsSeat p me.0 → IsAt t.views id me.0
    → IsLegal (after k.claims next least (number_of me.0) x)
    → (Step : DeskState → DeskState → Type 0) → Step k.claims (after k.claims next least (number_of me.0) x)
    → Exchanged Step x me (becoming me.0 x, me.1)
made p t id me next least x k seat at legal Step step =
    let n = number_of me.0 in
    let had = stands p t id me.0 k seat at in
    record {
      became = refl;
      made = λ z. record {
        s = k.claims;
        t = after k.claims next least n x;
        were = record {
          legal = k.sound.legal;
          total = k.total ∙ sym seat.total;
          workers = k.workers ∙ sym seat.workers;
        };
        are = record {
          legal = legal;
          total = k.total ∙ sym seat.total;
          workers = length-set k.claims.workers n x ∙ (k.workers ∙ sym seat.workers);
        };
        had = had;
        has = here k.claims.workers n (worker_of me.0) x had;
        step = step;
      };
    }

-- the exchange of a claim
pub claim : (p : BoardSize) (slots id : ℕ) (me : Holder) → IsSeat p me.0 → (worker_of me.0).ended ≡ false
    → Allows (ShowsClaims p) slots id me 0 (λ n. (n + 1) % 2 ^ 64) (Claimed (step slots 0 1 0 none) me)
claim p slots id me seat on t k _ at _ =
    let s = k.claims in
    let n : ℕ = get_or t.words 0 0 in
    let is : n ≡ s.next = ap (λ (ws : List ℕ). get_or ws 0 0) k.words in
    let w = number_of me.0 in
    let y = worker_of me.0 in
    let x : WorkerState = claiming me.0.total n y in
    let turn : Claims s w n (after s (s.next + 1) s.least w x) = record {
      worker = y;
      has = stands p t id me.0 k seat at;
      goes_on = on;
      number = is;
      after = ap (λ (m : ℕ). after s (s.next + 1) s.least w (claiming m n y)) (seat.total ∙ sym k.total);
    } in
    let legal = stays_legal.claims s _ w n k.sound.legal turn in
    let wrap : (n + 1) % 2 ^ 64 ≡ s.next + 1 = omega (arith, is, next_small s k.sound) in (
      becoming me.0 x,
      keeps,
      tt,
      kept p t id me.0 (s.next + 1) s.least x k seat at legal _ (λ i. set (k.words i) 0 (wrap i)),
      made p t id me (s.next + 1) s.least x k seat at legal _ turn,
    )

-- the exchange of a look
pub look : (p : BoardSize) (slots id : ℕ) (me : Holder) (index : ℕ) → IsSeat p me.0 → (worker_of me.0).ended ≡ false
    → Has (worker_of me.0).claimed index
    → Allows (ShowsClaims p) slots id me 1 (λ n. n) (Looked index (step slots 1 0 0 none) me)
look p slots id me index seat on mine t k _ at _ =
    let s = k.claims in
    let n : ℕ = get_or t.words 1 0 in
    let is : n ≡ s.least = ap (λ (ws : List ℕ). get_or ws 1 0) k.words in
    let w = number_of me.0 in
    let y = worker_of me.0 in
    let x : WorkerState = looking n index y in
    let turn : Looks s w index (after s s.next s.least w x) = record {
      worker = y;
      has = stands p t id me.0 k seat at;
      goes_on = on;
      own = mine;
      after = ap (λ (m : ℕ). after s s.next s.least w (looking m index y)) is;
    } in
    let legal = stays_legal.looks s _ w index k.sound.legal turn in (
      becoming me.0 x,
      keeps,
      tt,
      kept p t id me.0 s.next s.least x k seat at legal _ (λ i. set (k.words i) 1 (is i)),
      made p t id me s.next s.least x k seat at legal _ (turn, is),
    )

-- the exchange of a failure
pub fail : (p : BoardSize) (slots id : ℕ) (me : Holder) (index : ℕ) → IsSeat p me.0 → Has (worker_of me.0).claimed index
    → Allows (ShowsClaims p) slots id me 1 (λ n. min n index) (Failed (step slots 1 index 0 none) me)
fail p slots id me index seat mine t k _ at _ =
    let s = k.claims in
    let n : ℕ = get_or t.words 1 0 in
    let is : n ≡ s.least = ap (λ (ws : List ℕ). get_or ws 1 0) k.words in
    let w = number_of me.0 in
    let x : WorkerState = failing index (worker_of me.0) in
    let turn : Fails s w index (after s s.next (min index s.least) w x) = record {
      worker = worker_of me.0;
      has = stands p t id me.0 k seat at;
      own = mine;
      after = refl;
    } in
    let legal = stays_legal.fails s _ w index k.sound.legal turn in
    let lower : min n index ≡ min index s.least = omega (arith, is) in (
      becoming me.0 x,
      keeps,
      tt,
      kept p t id me.0 s.next (min index s.least) x k seat at legal _ (λ i. set (k.words i) 1 (lower i)),
      made p t id me s.next (min index s.least) x k seat at legal _ turn,
    )
