-- What a log tells of the core under the lock, and what the seats keep of it.
use Rattle.std.proofs.Common.{◌≡◌, ◌≢◌, ℕ, ◌<◌, Bool, List, [], ◌∷◌, ◌++◌, refl, sym, ap, ◌∙◌, subst}
use Rattle.std.proofs.Common.{⊎_elim, arith}
use Rattle.std.specs.Prelude.{Result, Ok, Err, IfOk, IfErr}
use Rattle.ov_ids.specs.ParamsState.{ParamsState}
use Rattle.ov_snap.specs.CoreState.{CoreState, opening_core}
use Rattle.ov_snap.specs.declared.ghost_log_of_drivers.Mark.{Mark}
use Rattle.ov_snap.specs.declared.ghost_log_of_drivers.Ticket.{Ticket}
use Rattle.ov_snap.specs.Parts.{hit}
use Rattle.ov_snap.specs.Logs.{AreSteps, IsLog, IsStep, core_after, core_made, entry_drivers, mark}
use Rattle.ov_hall.specs.Histories.{IsHistory}
use Rattle.ov_snap.specs.Logs.{report_drivers}
use Rattle.ov_hall.specs.Passes.{AreOfHall, having_seen, standing_for}
use Rattle.ov_hall.specs.Code.Rules.{keeper, log_in, standing}
use Rattle.ov_hall.proofs.Flat.{each-append}
use Rattle.ov_hall.proofs.Counting.{hits, Seated}
use Rattle.ov_hall.proofs.Exact.{every_log_is_exact}
use Rattle.ov_hall.proofs.Seen.{filers_append, makers_append}

pub if_ok : {A E : Type 0} (r : Result A E) (P Q : A → Type 0) → ((v : A) → P v → Q v) → IfOk r P → IfOk r Q
if_ok (Ok v) P Q f h = f v h
if_ok (Err e) P Q f h = tt

pub if_err : {A E : Type 0} (r : Result A E) (P Q : E → Type 0) → ((e : E) → P e → Q e) → IfErr r P → IfErr r Q
if_err (Ok v) P Q f h = tt
if_err (Err e) P Q f h = f e h

pub if_err_and : {A E : Type 0} (r : Result A E) (P Q R : E → Type 0) → ((e : E) → P e → Q e → R e) → IfErr r P
    → IfErr r Q → IfErr r R
if_err_and (Ok v) P Q R f h k = tt
if_err_and (Err e) P Q R f h k = f e h k

pub core_snoc : (b : CoreState) (log : List Mark) (m : Mark) → core_after b (log ++ m ∷ []) ≡ m.after
core_snoc b [] m = refl
core_snoc b (x ∷ xs) m = core_snoc x.after xs m

steps_snoc : (b : CoreState) (log : List Mark) (m : Mark) → AreSteps b log → IsStep (core_after b log) m
    → AreSteps b (log ++ m ∷ [])
steps_snoc b [] m a s = (s, tt)
steps_snoc b (x ∷ xs) m a s = (a.0, steps_snoc x.after xs m a.1 s)

-- a history, by the facts that tell it
history_of : (params : ParamsState) (n : ℕ) (log : List Mark) (b : CoreState) (es rs : List ℕ)
    → b ≡ core_made params log
    → IsLog params n log → es ≡ entry_drivers log → rs ≡ report_drivers log → IsHistory params n log b es rs
history_of params n log b es rs core is e r = record {
  core = core;
  log_is = is;
  entries_are = e;
  reports_are = r;
  exact = rw (core, e, r) (every_log_is_exact params n log is);
}

-- the history in which nothing happened
pub history_begun : (params : ParamsState) (n : ℕ) → IsHistory params n [] (opening_core params) [] []
history_begun params n =
    history_of params n [] (opening_core params) [] [] refl (record { steps = tt; below = tt }) refl refl

-- one step more
pub log_more : (params : ParamsState) (n : ℕ) (log : List Mark) (d : ℕ) (filed : Bool) (u : CoreState)
    → IsLog params n log → d < n → IsStep (core_made params log) (mark d filed u)
    → IsLog params n (log ++ mark d filed u ∷ [])
log_more params n log d filed u h low s = record {
  steps = steps_snoc (opening_core params) log (mark d filed u) h.steps s;
  below = each-append (λ m. m.driver < n) log (mark d filed u ∷ []) h.below (low, tt);
}

pub history_more : (params : ParamsState) (n : ℕ) (log : List Mark) (b : CoreState) (es rs : List ℕ) (d : ℕ)
    (filed : Bool) (u : CoreState) (es' rs' : List ℕ) → IsHistory params n log b es rs → d < n
    → IsStep b (mark d filed u) → es' ≡ es ++ entry_drivers (mark d filed u ∷ [])
    → rs' ≡ rs ++ report_drivers (mark d filed u ∷ [])
    → IsHistory params n (log ++ mark d filed u ∷ []) u es' rs'
history_more params n log b es rs d filed u es' rs' h low s e r =
    history_of params n (log ++ mark d filed u ∷ []) u es' rs'
    (sym (core_snoc (opening_core params) log (mark d filed u)))
    (log_more params n log d filed u h.log_is low (subst (λ c. IsStep c (mark d filed u)) h.core s))
    (e ∙ (ap (λ l. l ++ entry_drivers (mark d filed u ∷ [])) h.entries_are
    ∙ sym (makers_append log (mark d filed u ∷ []))))
    (r ∙ (ap (λ l. l ++ report_drivers (mark d filed u ∷ [])) h.reports_are
    ∙ sym (filers_append log (mark d filed u ∷ []))))

-- a driver that stands somewhere is one of the hall
pub low_driver : (params : ParamsState) (n d : ℕ) (ts : List Ticket) → AreOfHall params n ts → 0 < standing_for d ts
    → d < n
low_driver params n d [] a s = absurd (omega arith)
low_driver params n d (t ∷ ts) a s = ⊎_elim
    (λ (h : (d ≡ t.driver) × (hit d t.driver ≡ 1)). let e = h.0 in let l = a.0.0 in omega (arith, e, l))
    (λ (h : (d ≢ t.driver) × (hit d t.driver ≡ 0)). low_driver params n d ts a.1 (omega (arith, h.1, s)))
    (hits d t.driver)

pub of_hall_seen : (params : ParamsState) (n : ℕ) (log : List Mark) (ts : List Ticket) → AreOfHall params n ts
    → AreSteps (opening_core params) log → AreOfHall params n (having_seen log ts)
of_hall_seen params n log [] a s = tt
of_hall_seen params n log (t ∷ ts) a s = ((a.0.0, s), of_hall_seen params n log ts a.1 s)

-- a seat that stands for these drivers
pub stands_as : (params : ParamsState) (n : ℕ) (ts : List Ticket) (me : Seated) → me ≡ (standing ts, [])
    → AreOfHall params n ts → (me ≡ (standing me.0.tickets, [])) × AreOfHall params n me.0.tickets
stands_as params n ts me is a =
    let same : me.0.tickets ≡ ts = ap (λ m. m.0.tickets) is in
    (is ∙ ap (λ l. (standing l, [])) (sym same), subst (AreOfHall params n) (sym same) a)

-- a seat that keeps this log
pub keeps_as : (params : ParamsState) (n : ℕ) (log : List Mark) (me : Seated) (b : CoreState) (es rs : List ℕ)
    → me ≡ (keeper log, []) → IsHistory params n log b es rs
    → (me ≡ (keeper (log_in me.0), [])) × IsHistory params n (log_in me.0) b es rs
keeps_as params n log me b es rs is h =
    let same : log_in me.0 ≡ log = ap (λ m. log_in m.0) is in
    (is ∙ ap (λ l. (keeper l, [])) (sym same), subst (λ l. IsHistory params n l b es rs) (sym same) h)
