-- Each step of the count keeps its rule.
use Rattle.std.proofs.Common.{◌≡◌, ◌≢◌, ◌⊎◌, ℕ, zero, suc, ◌+◌, ◌<◌, ◌≤◌, Bool, List, [], ◌∷◌, ◌++◌, set, get_or}
use Rattle.std.proofs.Common.{refl, sym, ap, ◌∙◌, subst, ⊎_elim, arith, append_assoc}
use Rattle.std.proofs.lemmas.Bool.Decides.{nat_tests}
use Rattle.std.proofs.lemmas.List.{append-nil}
use mathlib.Core.Option.{some, none}
use lib.ListN.{get_elem?}
use Rattle.atomic_table.specs.Table.{State, Me, step, keeps, Allows, Splits, Joins, opening}
use Rattle.ov_snap.specs.CoreState.{CoreState}
use Rattle.ov_snap.specs.declared.ghost_log_of_drivers.Mark.{Mark}
use Rattle.ov_snap.specs.declared.ghost_log_of_drivers.Ticket.{Ticket}
use Rattle.ov_hall.specs.declared.ghost_knowledge_of_driver_seat.View.{View}
use Rattle.ov_snap.specs.Parts.{Each, hit}
use Rattle.ov_snap.specs.Logs.{Begins, mark}
use Rattle.ov_hall.specs.Passes.{AllBegin, having_seen, seen_alike, standing_for}
use Rattle.ov_hall.specs.Code.Rules.{Grows, Kept, Written, both, keeper, kept_all, leaves, meeting, one, opening_view}
use Rattle.ov_hall.specs.Code.Rules.{others, spent, standing, stays, tickets_all}
use Rattle.ov_hall.proofs.Flat.{Shuffled, total-append, one_less, each-drop, each-take, alone, flat-set, flat-at}
use Rattle.ov_hall.proofs.Flat.{flat-rest, apart, together, alone-set}

abbrev St : Type 0
St = State (Unit {0}) View

abbrev kept_of : View → List (List Mark)
kept_of v = v.kept

abbrev tickets_of : View → List Ticket
tickets_of v = v.tickets

pub hits : (x y : ℕ) → ((x ≡ y) × (hit x y ≡ 1)) ⊎ ((x ≢ y) × (hit x y ≡ 0))
hits x y = grind (arith, nat_tests)

pub hits_self : (x : ℕ) → hit x x ≡ 1
hits_self x = ⊎_elim (λ (h : (x ≡ x) × (hit x x ≡ 1)). h.1) (λ (h : (x ≢ x) × (hit x x ≡ 0)). absurd (h.0 refl))
    (hits x x)

-- the same keeper and the same tickets, in another order
shuffled : (words : List ℕ) (homes : List (mathlib.Core.Option.Option (Unit {0}))) (vs us : List View)
    → Shuffled (kept_all vs) (kept_all us) → Shuffled (tickets_all vs) (tickets_all us)
    → Kept record { words = words; homes = homes; views = vs } → Kept record {
      words = words;
      homes = homes;
      views =
          us;
    }
shuffled words homes vs us s t k = record {
  log = k.log;
  one_keeper = alone (kept_all vs) (kept_all us) k.log s k.one_keeper;
  begins = t.each (λ u. Begins u.driver u.seen k.log) k.begins;
  apart = λ d. let a = k.apart d in omega (arith, t.sums (λ u. hit d u.driver));
}

pub splits_one : (id : ℕ) (v : View) → Splits Kept id v (others v) (one v)
splits_one id v s k at =
    shuffled s.words s.homes s.views (set s.views id (others v) ++ one v ∷ [])
    (apart kept_of s.views id v (others v) (one v) at (λ f. omega arith) (λ P a. (a, tt)))
    (apart tickets_of s.views id v (others v) (one v) at (λ f. one_less f v.tickets)
    (λ P a. (each-drop P v.tickets a, each-take P v.tickets a)))
    k

pub splits_all : (id : ℕ) (v : View) → Splits Kept id v (stays v) (leaves v)
splits_all id v s k at =
    shuffled s.words s.homes s.views (set s.views id (stays v) ++ leaves v ∷ [])
    (apart kept_of s.views id v (stays v) (leaves v) at (λ f. omega arith) (λ P a. (a, tt)))
    (apart tickets_of s.views id v (stays v) (leaves v) at (λ f. omega arith) (λ P a. (tt, a)))
    k

pub joins : (id : ℕ) (v : View) (other : ℕ) (w : View) → Joins Kept id v other w (both v w) spent
joins id v other w s k at far there =
    shuffled s.words s.homes s.views (set (set s.views id (both v w)) other spent)
    (together kept_of s.views id other v w (both v w) spent at far there refl refl)
    (together tickets_of s.views id other v w (both v w) spent at far there refl refl)
    k

-- what the drivers of some tickets add leaves what another has seen a beginning
begins_more : (ts : List Ticket) (x : ℕ) (seen log new : List Mark) → standing_for x ts ≡ 0 → Begins x seen log
    → Grows ts log new → Begins x seen new
begins_more ts x seen log new apart b g = (
  b.0 ++ g.0,
  g.1 ∙ (ap (λ l. l ++ g.0) b.1 ∙ append_assoc seen b.0 g.0),
  omega
      (arith, total-append (λ (m : Mark). hit x m.driver) b.0 g.0, b.2, g.2 x apart),
)

pub begins_all : (d : ℕ) (log : List Mark) → Begins d log log
begins_all d log = ([], sym (append-nil log), refl)

pub all_seen : (log : List Mark) (ts : List Ticket) → AllBegin (having_seen log ts) log
all_seen log [] = tt
all_seen log (t ∷ ts) = (begins_all t.driver log, all_seen log ts)

pub standing_same : (d : ℕ) (log : List Mark) (ts : List Ticket)
    → standing_for d (having_seen log ts) ≡ standing_for d ts
standing_same d log [] = refl
standing_same d log (t ∷ ts) = omega (arith, standing_same d log ts)

pub writes : (slots id : ℕ) (old new : List Mark) (ts : List Ticket) (me : Me (Unit {0}) View)
    → me ≡ (meeting old ts, []) → Grows ts old new
    → Allows Kept slots id me 0 (λ n. n) (Written new (step slots 0 0 0 none) me)
writes slots id old new ts me is g s k _ at _ =
    let at' : get_elem? s.views id ≡ some (meeting old ts) = at ∙ ap (λ m. some m.0) is in
    let u : View = meeting new (having_seen new ts) in
    let mine : old ≡ k.log = (flat-at kept_of (λ l. l ≡ k.log) s.views id (meeting old ts) at'
    (subst (Each (λ l. l ≡ k.log)) (sym k.one_keeper) (refl, tt))).0 in
    let grows : Grows ts k.log new = subst (λ l. Grows ts l new) mine g in
    let b : AllBegin ts k.log = flat-at tickets_of (λ t. Begins t.driver t.seen k.log) s.views id (meeting old ts) at'
    k.begins in (
      u,
      keeps,
      tt,
      record {
        log = new;
        one_keeper = alone-set kept_of s.views id (meeting old ts) u old new k.log at' refl refl k.one_keeper;
        begins = flat-rest tickets_of (λ a. Begins a.driver a.seen k.log) (λ a. Begins a.driver a.seen new) s.views id
            (meeting old ts) u at' k.begins
            (λ a h few.
            let none_here : standing_for a.driver ts ≡ 0 = let f = few (λ t. hit a.driver t.driver) in let q =
            k.apart a.driver in let self = hits_self a.driver in omega (arith, f, q, self) in
            begins_more ts a.driver a.seen k.log new none_here h grows)
            (all_seen new ts);
        apart = λ d. let a = k.apart d in let same = standing_same d new ts in
            omega (arith, same, flat-set tickets_of (λ a. hit d a.driver) s.views id (meeting old ts) u at');
      },
      λ o ys was.
          let two : meeting o ys ≡ meeting old ts = sym was ∙ ap (λ m. m.0) is in
          let logs : o ≡ old = ap (λ v. get_or v.kept 0 []) two in
          let same : ys ≡ ts = ap (λ v. v.tickets) two in (
            ap (λ l. meeting new (having_seen new l)) (sym same),
            refl,
            subst (λ l. AllBegin ys l) (sym (logs ∙ mine)) (subst (λ l. AllBegin l k.log) (sym same) b),
          ),
    )

-- the state at the start
new_each : (d n : ℕ) → AllBegin (seen_alike d n []) []
new_each d zero = tt
new_each d (suc n) = (begins_all d [], new_each (d + 1) n)

new_few : (x d n : ℕ) → ((x < d) → standing_for x (seen_alike d n []) ≡ 0) × (standing_for x (seen_alike d n []) ≤ 1)
new_few x d zero = ((λ h. refl), omega arith)
new_few x d (suc n) =
    let r = new_few x (d + 1) n in ⊎_elim
    (λ (h : (x ≡ d) × (hit x d ≡ 1)). let e = h.0 in let z = r.0 (omega arith) in
    ((λ low. absurd (omega arith)), omega (arith, h.1)))
    (λ (h : (x ≢ d) × (hit x d ≡ 0)). let ne = h.0 in (
      (λ low. let z = r.0 (omega arith) in
          omega (arith, h.1)),
      omega (arith, h.1, r.1),
    ))
    (hits x d)

pub opens : (n : ℕ) → Kept (opening (0 ∷ []) [] (opening_view n))
opens n = record {
  log = [];
  one_keeper = refl;
  begins = subst (λ l. AllBegin l []) (sym (append-nil (seen_alike 0 n []))) (new_each 0 n);
  apart = λ d. subst (λ l. standing_for d l ≤ 1) (sym (append-nil (seen_alike 0 n []))) (new_few d 0 n).1;
}

-- how a log grows
pub grows_same : (ts : List Ticket) (log : List Mark) → Grows ts log log
grows_same ts log = ([], sym (append-nil log), λ x n. refl)

pub grows_one : (ts : List Ticket) (old : List Mark) (d : ℕ) (filed : Bool) (core : CoreState) → 0 < standing_for d ts
    → Grows ts old (old ++ mark d filed core ∷ [])
grows_one ts old d filed core stands = (
  mark d filed core ∷ [],
  refl,
  λ x n. ⊎_elim
      (λ (h : (x ≡ d) × (hit x d ≡ 1)). absurd (let z : standing_for d ts ≡ 0 =
      subst (λ y. standing_for y ts ≡ 0) h.0 n in omega (arith, z, stands)))
      (λ (h : (x ≢ d) × (hit x d ≡ 0)). omega (arith, h.1))
      (hits x d),
)

-- the seats of a meeting: j is the keeper's with the drivers beside it, l after the step, and s is left when they have
-- gone
abbrev pub Seated : Type 0
Seated = Me (Unit {0}) View

pub at_meeting : (log : List Mark) (v : View) (a d j : Seated) → j ≡ (both a.0 d.0, a.1) → a ≡ (keeper log, [])
    → d ≡ (leaves v, []) → j ≡ (meeting log v.tickets, [])
at_meeting log v a d j is k l = is ∙ (λ i. (both (k i).0 (l i).0, (k i).1))

pub after_meeting : (log : List Mark) (ts : List Ticket) (j l s : Seated) → l.0 ≡ meeting log ts → l.1 ≡ j.1 → j.1 ≡ []
    → s ≡ (stays l.0, l.1) → s ≡ (keeper log, [])
after_meeting log ts j l s is same empty cut = cut ∙ (λ i. (stays (is i), (same ∙ empty) i))

pub back_home : (log : List Mark) (ts : List Ticket) (v l s d j : Seated) → v ≡ (standing v.0.tickets, [])
    → s ≡ (stays v.0, v.1) → l.0 ≡ meeting log ts → d ≡ (leaves l.0, []) → j ≡ (both s.0 d.0, s.1)
    → j ≡ (standing ts, [])
back_home log ts v l s d j was left is gone back =
    back ∙ ((λ i. (both (left i).0 (gone i).0, (left i).1)) ∙ (λ i.
    (both (stays (was i).0) (leaves (is i)), (was i).1)))
