-- The jobs of a block: each was done, and what is left of them while they are made and their results are taken.
use Rattle.std.proofs.Common.{◌≡◌, ◌∙◌, ◌+◌, ℕ, suc, ◌<◌, List, [], ◌∷◌, ◌++◌, length, slice_index_or, ap, refl}
use Rattle.std.proofs.Common.{append_assoc, flat_map, map, sym, subst, arith}
use Rattle.std.proofs.Common.{MatchOption, Option, None, Some, unwrap_or}
use Rattle.std.proofs.lemmas.List.{append-nil}
use Rattle.ov_ids.specs.ParamsState.{ParamsState}
use Rattle.ov_snap.specs.declared.ghost_log_of_drivers.Ticket.{Ticket}
use Rattle.ov_run.specs.Code.Jobs.{HasRun, HaveAllRun, HaveRun, Job, Ran, jobs_of}
use Rattle.ov_scenario.specs.Sections.{SectionLine}

-- there is a result for each job
pub ran_length : (params : ParamsState) (js : List Job) (rs : List Ran) → HaveRun params js rs → length rs ≡ length js
ran_length params [] [] ran = refl
ran_length params [] (r ∷ rs) ran = absurd ran
ran_length params (j ∷ js) [] ran = absurd ran
ran_length params (j ∷ js) (r ∷ rs) ran = omega (arith, ran_length params js rs ran.1)

pub nothing_left : {A : Type 0} (xs : List A) → length xs ≡ 0 → xs ≡ []
nothing_left [] e = refl
nothing_left (x ∷ xs) e = absurd (omega (arith, e))

-- the job of the next driver has the next section, if there is one
pub job_next : (p : Ticket) (ps : List Ticket) (ss next : List (List SectionLine)) (ls ln : ℕ)
    (o : Option (List SectionLine)) → length ss ≡ ls → length next ≡ ln
    → MatchOption o ((ls ≡ 0) × (ln ≡ 0)) (λ x. (ss ≡ x ∷ next) × (ln + 1 ≡ ls))
    → jobs_of (p ∷ ps) ss ≡ (p, unwrap_or o []) ∷ jobs_of ps next
job_next p ps ss next ls ln None here there (none, left) =
    ap (jobs_of (p ∷ ps)) (nothing_left ss (here ∙ none))
    ∙ ap (λ l. (p, []) ∷ jobs_of ps l) (sym (nothing_left next (there ∙ left)))
job_next p ps ss next ls ln (Some x) here there (is, less) = ap (jobs_of (p ∷ ps)) is

-- ---- in shifts

-- jobs and others behind them
pub both_ran : (params : ParamsState) (js ks : List Job) (rs ss : List Ran) → HaveRun params js rs
    → HaveRun params ks ss → HaveRun params (js ++ ks) (rs ++ ss)
both_ran params [] ks [] ss these those = those
both_ran params [] ks (r ∷ rs) ss these those = absurd these
both_ran params (j ∷ js) ks [] ss these those = absurd these
both_ran params (j ∷ js) ks (r ∷ rs) ss these those = (these.0, both_ran params js ks rs ss these.1 those)

-- the jobs so far were done, and these are left
pub record ShiftSoFar (params : ParamsState) (jobs left : List Job) (ran : List Ran) : Type 0 where
  pub done : List Job
  pub whole : done ++ left ≡ jobs
  pub ran_all : HaveRun params done ran

pub shift_begun : (params : ParamsState) (jobs left : List Job) (ran : List Ran) → left ≡ jobs → ran ≡ []
    → ShiftSoFar params jobs left ran
shift_begun params jobs left ran same none = record {
  done = [];
  whole = same;
  ran_all = subst (HaveRun params []) (sym none) tt;
}

pub shift_more : (params : ParamsState) (jobs left : List Job) (j : Job) (r : Ran) (ran : List Ran)
    → ShiftSoFar params jobs (j ∷ left) ran → HasRun params j r
    → ShiftSoFar params jobs left (ran ++ r ∷ [])
shift_more params jobs left j r ran so_far own = record {
  done = so_far.done ++ j ∷ [];
  whole = append_assoc so_far.done (j ∷ []) left ∙ so_far.whole;
  ran_all = both_ran params so_far.done (j ∷ []) ran (r ∷ []) so_far.ran_all (own, tt);
}

pub shift_ended : (params : ParamsState) (jobs left : List Job) (ran : List Ran) → left ≡ []
    → ShiftSoFar params jobs left ran → HaveRun params jobs ran
shift_ended params jobs left ran none so_far =
    subst (λ js. HaveRun params js ran)
    (sym (append-nil so_far.done) ∙ ap (λ l. so_far.done ++ l) (sym none) ∙ so_far.whole)
    so_far.ran_all

-- the jobs of all shifts
pub all_ran : {S R : Type 0} (params : ParamsState) (jobs : S → List Job) (told : R → List Ran) (shifts : List S)
    (done : List R) → HaveAllRun params (map jobs shifts) (map told done)
    → HaveRun params (flat_map jobs shifts) (flat_map told done)
all_ran params jobs told [] [] ran = tt
all_ran params jobs told [] (own ∷ done) ran = absurd ran
all_ran params jobs told (shift ∷ shifts) [] ran = absurd ran
all_ran params jobs told (shift ∷ shifts) (own ∷ done) ran =
    both_ran params (jobs shift) (flat_map jobs shifts) (told own) (flat_map told done) ran.0
    (all_ran params jobs told shifts done ran.1)

-- each result is what a shift gave
pub each_shift_ran : {S R : Type 0} (params : ParamsState) (jobs : S → List Job) (told : R → List Ran)
    (shifts : List S) (done : List R) → length done ≡ length shifts
    → ((k : ℕ) (shift : S) (own : R) → k < length shifts
    → HaveRun params (jobs (slice_index_or shifts k shift)) (told (slice_index_or done k own)))
    → HaveAllRun params (map jobs shifts) (map told done)
each_shift_ran params jobs told [] [] long f = tt
each_shift_ran params jobs told [] (own ∷ done) long f = absurd (omega (arith, long))
each_shift_ran params jobs told (shift ∷ shifts) [] long f = absurd (omega (arith, long))
each_shift_ran params jobs told (shift ∷ shifts) (own ∷ done) long f = (
  f 0 shift own (omega arith),
  each_shift_ran params jobs told shifts done (omega (arith, long))
      (λ k s o low. f (suc k) s o (omega (arith, low))),
)

-- the jobs of shifts, and of one more
pub shifts_more : {S A : Type 0} (jobs : S → List A) (shifts : List S) (shift : S)
    → flat_map jobs (shifts ++ shift ∷ []) ≡ flat_map jobs shifts ++ jobs shift
shifts_more jobs [] shift = append-nil (jobs shift)
shifts_more jobs (s ∷ shifts) shift =
    ap (λ l. jobs s ++ l) (shifts_more jobs shifts shift)
    ∙ sym (append_assoc (jobs s) (flat_map jobs shifts) (jobs shift))
