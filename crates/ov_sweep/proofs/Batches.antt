-- Batches of runs, one after the other, are one sweep.
use Rattle.std.proofs.Common.{◌≡◌, ◌∙◌, ◌+◌, ◌-◌, ℕ, List, [], ◌∷◌, ◌++◌, length, take, drop, slice_get}
use Rattle.std.proofs.Common.{Option, Some, None, inl, inr, refl, sym, ap, ap₂, subst, arith, length-append}
use Rattle.std.proofs.Common.{append_assoc}
use Rattle.std.specs.Prelude.{Result, Ok, Err, IsErrAnd}
use Rattle.std.specs.Iterator.{Yields}
use Rattle.std.proofs.lemmas.Bool.{cases_lt}
use Rattle.std.proofs.lemmas.List.{append-nil, take-append-drop}
use Rattle.std.proofs.lemmas.Option.{none-some}
use Rattle.ov_even.proofs.PieceOrder.InOrder.{at_left, at_right}
use Rattle.ov_grow_options.specs.declared.options.GrowOptions.{GrowOptions}
use Rattle.ov_net.proofs.Steps.Places.{at_prefix}
use Rattle.ov_sweep_rows.specs.declared.measures.Measures.{Measures}
use Rattle.ov_sweep_rows.specs.declared.row.Row.{Row}
use Rattle.ov_sweep.specs.Sweeps.{AreFirstRowsOf, AreRowsOf, EndsAt, IsOutcomeAt, IsSweepOf, AreSwept, WereGiven}
use Rattle.ov_sweep.specs.Sweeps.{WereTaken}
use Rattle.ov_grow.specs.declared.fault.GrowFault.{GrowFault}
use Rattle.ov_sweep.specs.declared.overlay_batch_growing.RefusedRun.{RefusedRun}
use Rattle.ov_sweep.specs.declared.sweep_fault.SweepFault.{SweepFault}
use Rattle.ov_sweep.specs.declared.sweep_fault.SweepFault.TheVariants.{Run, Write, OutOfMemory}

-- what came of a run, if more runs stand behind it
outcome_before : (m : Measures) (runs later : List GrowOptions) (i : ℕ) (x : Result Row GrowFault)
    → IsOutcomeAt m runs i x
    → IsOutcomeAt m (runs ++ later) i x
outcome_before m runs later i x (o, read, is, refused) = (o, at_prefix runs later i o read, is, refused)

-- and if more runs stand before it
outcome_behind : (m : Measures) (earlier runs : List GrowOptions) (i j : ℕ) (x : Result Row GrowFault)
    → i ≡ length earlier + j
    → IsOutcomeAt m runs j x → IsOutcomeAt m (earlier ++ runs) i x
outcome_behind m earlier runs i j x at (o, read, is, refused) = (o, at_right earlier runs i j at ∙ read, is, refused)

-- the rows of some first runs are so if more runs stand behind these
pub rows_before : (m : Measures) (runs later : List GrowOptions) (rows : List Row) → AreFirstRowsOf m runs rows
    → AreFirstRowsOf m (runs ++ later) rows
rows_before m runs later rows are i row at = outcome_before m runs later i (Ok row) (are i row at)

-- the rows of runs, and then those of the runs behind them
rows_more : (m : Measures) (runs later : List GrowOptions) (rows more : List Row) → length rows ≡ length runs
    → AreFirstRowsOf m runs rows → AreFirstRowsOf m later more → AreFirstRowsOf m (runs ++ later) (rows ++ more)
rows_more m runs later rows more count are behind i row at = elim (cases_lt i (length rows)) [
  | inl low ↦ outcome_before m runs later i (Ok row) (are i row (sym (at_left rows more i low) ∙ at))
  | inr high ↦
      (let place : i ≡ length rows + (i - length rows) = omega (arith, high) in
      outcome_behind m runs later i (i - length rows) (Ok row) (omega (arith, count, high))
      (behind (i - length rows) row (sym (at_right rows more i (i - length rows) place) ∙ at)))
]

ends_more : (m : Measures) (runs later : List GrowOptions) (rows more : List Row) (refused : Option RefusedRun)
    → length rows ≡ length runs → EndsAt m later more refused → EndsAt m (runs ++ later) (rows ++ more) refused
ends_more m runs later rows more None count ends =
    length-append rows more ∙ (ap₂ (λ a b. a + b) count ends ∙ sym (length-append runs later))
ends_more m runs later rows more (Some refused) count (at, is) = (
  at_right runs later (length (rows ++ more)) (length more)
      (length-append rows more ∙ ap (λ n. n + length more) count) ∙ at,
  is,
)

-- no rows were taken yet
taken_none : (old : Option (List Row)) → WereTaken [] old old
taken_none None = tt
taken_none (Some rows) = sym (append-nil rows)

-- rows were taken, and then more
taken_more : (rows more : List Row) (old mid new : Option (List Row)) → WereTaken rows old mid → WereTaken more mid new
    → WereTaken (rows ++ more) old new
taken_more rows more None mid new taken then = tt
taken_more rows more (Some old) None new taken then = absurd taken
taken_more rows more (Some old) (Some mid) None taken then = absurd then
taken_more rows more (Some old) (Some mid) (Some new) taken then =
    then ∙ (ap (λ xs. xs ++ more) taken ∙ append_assoc old rows more)

-- a sweep of no runs
pub swept_none : (m : Measures) (old : Option (List Row)) → AreSwept m [] old old (Ok tt)
swept_none m old = ([], record { each = λ i row at. absurd (none-some row at); ends = refl }, taken_none old)

-- runs were swept, and then those behind them
swept_on : (m : Measures) (runs later : List GrowOptions) (old mid new : Option (List Row)) (result : Result (Unit
    {0}) SweepFault)
    → AreSwept m runs old mid (Ok tt) → AreSwept m later mid new result → AreSwept m (runs ++ later) old new result
swept_on m runs later old mid new (Ok done) (rows, are, taken) (more, all, then) = (
  rows ++ more,
  record {
    each = rows_more m runs later rows more are.ends are.each all.each;
    ends = ends_more m runs later rows more None are.ends all.ends;
  },
  taken_more rows more old mid new taken then,
)
swept_on m runs later old mid new (Err (Run refused)) (rows, are, taken) (more, all, then) = (
  rows ++ more,
  record {
    each = rows_more m runs later rows more are.ends are.each all.each;
    ends = ends_more m runs later rows more (Some refused) are.ends all.ends;
  },
  taken_more rows more old mid new taken then,
)
swept_on m runs later old mid new (Err Write) (rows, are, taken) (more, all, then) =
    (rows ++ more, rows_more m runs later rows more are.ends are.each all, taken_more rows more old mid new taken then)
swept_on m runs later old mid new (Err OutOfMemory) (rows, are, taken) (more, all, then) =
    (rows ++ more, rows_more m runs later rows more are.ends are.each all, taken_more rows more old mid new taken then)

-- so all of these were
pub swept_more : (m : Measures) (runs later all : List GrowOptions) (old mid new : Option (List Row))
    (result : Result (Unit {0}) SweepFault) → all ≡ runs ++ later → AreSwept m runs old mid (Ok tt)
    → AreSwept m later mid new result → AreSwept m all old new result
swept_more m runs later all old mid new result parts swept more =
    subst (λ (rs : List GrowOptions). AreSwept m rs old new result) (sym parts)
    (swept_on m runs later old mid new result swept more)

-- runs were swept, and memory ran out before the next ones
pub swept_short : (m : Measures) (runs later all : List GrowOptions) (old new : Option (List Row)) → all ≡ runs ++ later
    → AreSwept m runs old new (Ok tt) → AreSwept m all old new (Err OutOfMemory)
swept_short m runs later all old new parts (rows, are, taken) =
    subst (λ (rs : List GrowOptions). AreSwept m rs old new (Err OutOfMemory)) (sym parts)
    (rows, rows_before m runs later rows are.each, taken)

-- some first of these rows are the rows of some first runs
rows_first : (m : Measures) (runs : List GrowOptions) (rows : List Row) (n : ℕ) → AreFirstRowsOf m runs rows
    → AreFirstRowsOf m runs (take n rows)
rows_first m runs rows n are i row at =
    are i row (subst (λ (xs : List Row). slice_get xs i ≡ Some row) (take-append-drop n rows)
    (at_prefix (take n rows) (drop n rows) i row at))

-- the rows of a batch were not all taken
swept_until : (m : Measures) (runs : List GrowOptions) (rows : List Row) (refused : Option RefusedRun) (old new :
    Option (List Row))
    (fault : SweepFault) → AreRowsOf m runs rows refused → WereGiven rows old new (Err fault)
    → AreSwept m runs old new (Err fault)
swept_until m runs rows refused old new (Run run) are given = absurd given
swept_until m runs rows refused old new Write are (n, taken) = (take n rows, rows_first m runs rows n are.each, taken)
swept_until m runs rows refused old new OutOfMemory are (n, taken) = (
  take n rows,
  rows_first m runs rows n are.each,
  taken,
)

-- and the batch ends with that fault
pub swept_fault : (m : Measures) (runs : List GrowOptions) (rows given : List Row) (refused : Option RefusedRun)
    (old new : Option (List Row)) (result : Result (Unit {0}) SweepFault) (fault : SweepFault) → given ≡ rows
    → AreRowsOf m runs rows refused → WereGiven given old new (Err fault) → IsErrAnd result (λ e. e ≡ fault)
    → AreSwept m runs old new result
swept_fault m runs rows given refused old new (Ok done) fault same are were is = absurd is
swept_fault m runs rows given refused old new (Err e) fault same are were is =
    subst (λ (f : SweepFault). AreSwept m runs old new (Err f)) (sym is)
    (swept_until m runs rows refused old new fault are
    (subst (λ (xs : List Row). WereGiven xs old new (Err fault)) same were))

-- one run more of a batch
pub one_more : {X : Type 0} (earlier batch pushed next all : List X) (x : X) → all ≡ earlier ++ batch
    → pushed ≡ batch ++ x ∷ [] → next ≡ pushed → all ++ x ∷ [] ≡ earlier ++ next
one_more earlier batch pushed next all x parts longer same =
    ap (λ xs. xs ++ x ∷ []) parts
    ∙ (append_assoc earlier batch (x ∷ []) ∙ ap (λ xs. earlier ++ xs) (sym longer ∙ sym same))

-- all runs again, after the batch was emptied
pub none_left : {X : Type 0} (all batch : List X) → batch ≡ [] → all ≡ all ++ batch
none_left all batch empty = sym (append-nil all) ∙ ap (λ xs. all ++ xs) (sym empty)

module _ {I : Type 0} (gives : I → Option GrowOptions → I → Type 0) where
  -- a sweep that ended with a fault had got these runs from the iterator
  pub ended : (m : Measures) (it start left : I) (runs : List GrowOptions) (old new : Option (List Row))
      (result : Result (Unit {0}) SweepFault) (fault : SweepFault) → start ≡ it → Yields gives start runs left
      → AreSwept m runs old new (Err fault) → IsErrAnd result (λ e. e ≡ fault) → IsSweepOf m gives it old new result
  ended m it start left runs old new (Ok done) fault same got swept is = absurd is
  ended m it start left runs old new (Err e) fault same got swept is = (
    runs,
    (left, subst (λ (s : I). Yields gives s runs left) same got),
    subst (λ (f : SweepFault). AreSwept m runs old new (Err f)) (sym is) swept,
  )

  -- a sweep that came to the end of the iterator
  pub ended_at : (m : Measures) (it start left end : I) (runs : List GrowOptions) (old new : Option (List Row))
      (result : Result (Unit {0}) SweepFault) → start ≡ it → Yields gives start runs left → gives left None end
      → AreSwept m runs old new result → IsSweepOf m gives it old new result
  ended_at m it start left end runs old new (Ok done) same got none swept =
      (runs, (end, (left, subst (λ (s : I). Yields gives s runs left) same got, none)), swept)
  ended_at m it start left end runs old new (Err fault) same got none swept =
      (runs, (left, subst (λ (s : I). Yields gives s runs left) same got), swept)
