-- What the drivers of a block did, all together.
use Rattle.std.proofs.Common.{◌≡◌, ◌≢◌, ◌⊎◌, append_assoc, ℕ, zero, suc, ◌+◌, ◌<◌, ◌≤◌, List, [], ◌∷◌, ◌++◌, length}
use Rattle.std.proofs.Common.{map, refl, sym, ap, ◌∙◌, subst, ⊎_elim, arith}
use Rattle.ov_ids.specs.ParamsState.{ParamsState}
use Rattle.ov_snap.specs.CoreState.{CoreState}
use Rattle.ov_snap.specs.Logs.{AreBelow, Begins, IsLog, core_made, of_driver}
use Rattle.ov_snap.specs.Parts.{hit}
use Rattle.ov_hall.specs.Passes.{AllBegin, numbers_from, seen_alike}
use Rattle.ov_snap.specs.DriverSteps.{ticket}
use Rattle.ov_snap.specs.declared.ghost_log_of_drivers.Mark.{Mark}
use Rattle.ov_snap.specs.declared.ghost_log_of_drivers.Ticket.{Ticket}
use Rattle.ov_hall.proofs.Alike.{same_rest}
use Rattle.ov_hall.proofs.Counting.{hits}
use Rattle.ov_run_meaning.specs.Sections.{RunSections, RunTogether, ToldLine}
use Rattle.ov_run.specs.Code.Jobs.{HaveRun, Job, Ran, jobs_of, joined}
use Rattle.ov_scenario.specs.Sections.{SectionLine}
use Rattle.ov_run.proofs.Blocks.SectionLines.{Extends, section_on}

-- the drivers from d on, n of them, ran these sections
abbrev pub DriversRan : ParamsState → List Mark → ℕ → ℕ → List (List SectionLine) → List Ran → Type 0
DriversRan params seen d n sections rs = HaveRun params (jobs_of (seen_alike d n seen) sections) rs

-- all drivers ran them: each job had the pass of its driver and its section
pub drivers_ran : (params : ParamsState) (seen : List Mark) (n : ℕ) (sections : List (List SectionLine))
    (ps : List Ticket) (js : List Job) (rs : List Ran) → ps ≡ seen_alike 0 n seen → js ≡ jobs_of ps sections
    → HaveRun params js rs → DriversRan params seen 0 n sections rs
drivers_ran params seen n sections ps js rs alike jobs ran =
    subst (λ l. HaveRun params (jobs_of l sections) rs) alike (subst (λ l. HaveRun params l rs) jobs ran)

-- the passes that are back are those of all drivers, in order
pub in_order : (params : ParamsState) (seen : List Mark) (d n : ℕ) (sections : List (List SectionLine)) (rs : List Ran)
    → DriversRan params seen d n sections rs → map (λ t. t.driver) (map (λ r. r.0) rs) ≡ numbers_from d n
in_order params seen d zero sections [] ran = refl
in_order params seen d zero sections (r ∷ rs) ran = absurd ran
in_order params seen d (suc n) [] [] ran = absurd ran
in_order params seen d (suc n) (s ∷ ss) [] ran = absurd ran
in_order params seen d (suc n) [] (r ∷ rs) ran =
    let own = section_on params (ticket d seen) [] r.1 r.0 ran.0 in
    (λ i. (own.0 i) ∷ in_order params seen (d + 1) n [] rs ran.1 i)
in_order params seen d (suc n) (s ∷ ss) (r ∷ rs) ran =
    let own = section_on params (ticket d seen) s r.1 r.0 ran.0 in
    (λ i. (own.0 i) ∷ in_order params seen (d + 1) n ss rs ran.1 i)

-- what is told of the lines of all drivers
abbrev pub told_by : List Ran → List ToldLine
told_by rs = joined (map (λ r. r.1) rs)

-- drivers without a section have no lines
idle : (params : ParamsState) (seen : List Mark) (d n : ℕ) (rs : List Ran) → DriversRan params seen d n [] rs
    → told_by rs ≡ []
idle params seen d zero [] ran = refl
idle params seen d zero (r ∷ rs) ran = absurd ran
idle params seen d (suc n) [] ran = absurd ran
idle params seen d (suc n) (r ∷ rs) ran = (λ i. ran.0.1 i ++ idle params seen (d + 1) n rs ran.1 i)

-- what the drivers with sections did
pub sections_ran : (params : ParamsState) (seen log : List Mark) (d n : ℕ) (sections : List (List SectionLine))
    (rs : List Ran) → length sections ≤ n → DriversRan params seen d n sections rs
    → AllBegin (map (λ r. r.0) rs) log → RunSections params seen log d sections (told_by rs)
sections_ran params seen log d n [] rs few ran begin = idle params seen d n rs ran
sections_ran params seen log d zero (s ∷ ss) rs few ran begin = absurd (omega (arith, few))
sections_ran params seen log d (suc n) (s ∷ ss) [] few ran begin = absurd ran
sections_ran params seen log d (suc n) (s ∷ ss) (r ∷ rs) few ran begin =
    let own = section_on params (ticket d seen) s r.1 r.0 ran.0 in (
      r.0,
      r.1,
      told_by rs,
      ran.0,
      subst (λ x. Begins x r.0.seen log) own.0 begin.0,
      sections_ran params seen log (d + 1) n ss rs (omega (arith, few)) ran.1 begin.1,
      refl,
    )

-- what a driver without a section had seen has all that it did
idle_begins : (params : ParamsState) (seen log : List Mark) (x d n : ℕ) (sections : List (List SectionLine))
    (rs : List Ran) → length sections + d ≤ x → x < d + n → DriversRan params seen d n sections rs
    → AllBegin (map (λ r. r.0) rs) log → Begins x seen log
idle_begins params seen log x d zero sections rs low high ran begin = absurd (omega (arith, low, high))
idle_begins params seen log x d (suc n) [] [] low high ran begin = absurd ran
idle_begins params seen log x d (suc n) (s ∷ ss) [] low high ran begin = absurd ran
idle_begins params seen log x d (suc n) [] (r ∷ rs) low high ran begin = ⊎_elim
    (λ (h : (x ≡ d) × (hit x d ≡ 1)).
    let mine : Begins d seen log = subst (λ (t : Ticket). Begins t.driver t.seen log) ran.0.0 begin.0 in
    subst (λ y. Begins y seen log) (sym h.0) mine)
    (λ (h : (x ≢ d) × (hit x d ≡ 0)). let ne = h.0 in
    idle_begins params seen log x (d + 1) n [] rs (omega (arith, low, ne)) (omega (arith, high)) ran.1 begin.1)
    (hits x d)
idle_begins params seen log x d (suc n) (s ∷ ss) (r ∷ rs) low high ran begin =
    idle_begins params seen log x (d + 1) n ss rs (omega (arith, low)) (omega (arith, high)) ran.1 begin.1

below_rest : (n : ℕ) (seen rest : List Mark) → AreBelow n (seen ++ rest) → AreBelow n rest
below_rest n [] rest a = a
below_rest n (x ∷ xs) rest a = below_rest n xs rest a.1

-- nobody beyond the drivers did anything
beyond : (n x : ℕ) (ms : List Mark) → n ≤ x → AreBelow n ms → of_driver x ms ≡ 0
beyond n x [] high below = refl
beyond n x (m ∷ ms) high below = ⊎_elim
    (λ (h : (x ≡ m.driver) × (hit x m.driver ≡ 1)).
    absurd (let e = h.0 in let b = below.0 in omega (arith, e, b, high)))
    (λ (h : (x ≢ m.driver) × (hit x m.driver ≡ 0)). let none = h.1 in omega (arith, none, beyond n x ms high below.1))
    (hits x m.driver)

after : (seen log : List Mark) (q : Ticket) → Extends (ticket 0 seen) q → Begins q.driver q.seen log
    → (more : List Mark) × (log ≡ seen ++ more)
after seen log q own begin =
    (own.1.0 ++ begin.0, begin.1 ∙ (ap (λ l. l ++ begin.0) own.1.1 ∙ append_assoc seen own.1.0 begin.0))

-- the log goes on from what was seen
pub goes_on : (params : ParamsState) (seen log : List Mark) (n : ℕ) (sections : List (List SectionLine))
    (rs : List Ran) → 0 < n → DriversRan params seen 0 n sections rs → AllBegin (map (λ r. r.0) rs) log
    → (more : List Mark) × (log ≡ seen ++ more)
goes_on params seen log zero sections rs some ran begin = absurd (omega (arith, some))
goes_on params seen log (suc n) [] [] some ran begin = absurd ran
goes_on params seen log (suc n) (s ∷ ss) [] some ran begin = absurd ran
goes_on params seen log (suc n) [] (r ∷ rs) some ran begin =
    after seen log r.0 (section_on params (ticket 0 seen) [] r.1 r.0 ran.0) begin.0
goes_on params seen log (suc n) (s ∷ ss) (r ∷ rs) some ran begin =
    after seen log r.0 (section_on params (ticket 0 seen) s r.1 r.0 ran.0) begin.0

-- the whole block
pub ran_together : (params : ParamsState) (n : ℕ) (seen log : List Mark) (b u : CoreState)
    (sections : List (List SectionLine)) (rs : List Ran) (told : List (List ToldLine)) → 0 < n → length sections ≤ n
    → core_made params seen ≡ b → core_made params log ≡ u → IsLog params n log
    → DriversRan params seen 0 n sections rs → AllBegin (map (λ r. r.0) rs) log → told ≡ map (λ r. r.1) rs
    → RunTogether b sections u (joined told)
ran_together params n seen log b u sections rs told some few at to is ran begin is_told =
    let on = goes_on params seen log n sections rs some ran begin in
    let below : AreBelow n on.0 = below_rest n seen on.0 (subst (AreBelow n) on.1 is.below) in
    record {
      params = params;
      drivers = n;
      seen = seen;
      log = log;
      more = on.0;
      before = at;
      after = to;
      is_log = is;
      goes_on = on.1;
      ran = subst (λ l. RunSections params seen log 0 sections (joined l)) (sym is_told)
          (sections_ran params seen log 0 n sections rs few ran begin);
      no_others = λ x high. ⊎_elim (λ (far : n ≤ x). beyond n x on.0 far below) (λ (low : x < n). mine x high low)
          (within n x);
    } where
      within : (n x : ℕ) → (n ≤ x) ⊎ (x < n)
      within n x = grind (arith)

      mine : (x : ℕ) → length sections ≤ x → x < n
          → of_driver x (goes_on params seen log n sections rs some ran begin).0 ≡ 0
      mine x high low =
          let on = goes_on params seen log n sections rs some ran begin in
          let b = idle_begins params seen log x 0 n sections rs (omega (arith, high)) (omega (arith, low)) ran begin in
          let same : b.0 ≡ on.0 = same_rest seen b.0 on.0 (sym b.1 ∙ on.1) in
          subst (λ l. of_driver x l ≡ 0) same b.2
