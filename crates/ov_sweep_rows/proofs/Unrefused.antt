-- What is written of rows is refused for nothing but memory.
use Rattle.std.proofs.Common.{◌≡◌, ◌∙◌, ℕ, List, [], ◌∷◌, ◌++◌, drop, None, refl, sym, ap, ap₂, subst, append_assoc}
use Rattle.std.specs.Prelude.{Err, IfErr, IfOk, Ok, Result, get_or, unwrap_or}
use Rattle.csv.specs.Machine.{next_record}
use Rattle.csv.specs.Reading.{Reached, default_config, strip_bom}
use Rattle.csv.specs.declared.parser.Config.{Config}
use Rattle.csv.specs.declared.parser.State.{State}
use Rattle.csv.specs.declared.parser.State.TheVariants as st
use Rattle.ov_sweep_rows.specs.declared.row.Row.{Row}
use Rattle.ov_sweep_rows.specs.declared.row_fault.RowFault.{RowFault}
use Rattle.ov_sweep_rows.specs.declared.row_fault.RowFault.TheVariants.{Header, FieldCount, Field, OutOfMemory}
use Rattle.ov_sweep_rows.specs.declared.row_form.RowForm.{RowForm}
use Rattle.ov_sweep_rows.specs.Columns.{columns}
use Rattle.ov_sweep_rows.specs.Fields.{SayRow}
use Rattle.ov_sweep_rows.specs.Reading.{AreRowsOf}
use Rattle.ov_sweep_rows.specs.Refusals.{ComesAfterRows, IsRowRefusal}
use Rattle.ov_sweep_rows.specs.Writing.{IsReadBack, IsRefusedForMemory, IsWrittenOf, header_line}
use Rattle.csv.proofs.RoundTrip.{read-write}
use Rattle.ov_sweep_rows.proofs.OneRow.{one_form, one_reading}
use Rattle.ov_sweep_rows.proofs.RoundTrip.{header_first, lines_read, no_record_left, unmarked, written_read}

-- what is so of a result, if something else is
pub ok_leads : {A E : Type 0} (r : Result A E) (First Second : A → Type 0) → ((a : A) → First a → Second a)
    → IfOk r First → IfOk r Second
ok_leads (Ok a) First Second leads is = leads a is
ok_leads (Err e) First Second leads is = tt

pub err_leads : {A E : Type 0} (r : Result A E) (First Second : E → Type 0) → ((e : E) → First e → Second e)
    → IfErr r First → IfErr r Second
err_leads (Ok a) First Second leads is = tt
err_leads (Err e) First Second leads is = leads e is

-- records that come first are the first of all
all_begin : (cfg : Config) (s a b : State) (xs ys zs : List ℕ) (front whole : List (List (List ℕ)))
    → Reached cfg s xs front a ys → Reached cfg s xs whole b zs → next_record cfg b [] [] zs ≡ None
    → (more : List (List (List ℕ))) × (whole ≡ front ++ more)
unfolding Reached
all_begin cfg s a b xs ys zs [] whole first all none = (whole, refl)
all_begin cfg s a b xs ys zs (r ∷ front) [] first all none =
    cc (sym first.1 ∙ ap₂ (λ (t : State) (us : List ℕ). next_record cfg t [] [] us) all.0 all.1 ∙ none)
all_begin cfg s a b xs ys zs (r ∷ front) (t ∷ whole) first all none =
    let same : first.0 ≡ all.0 = ap (λ o. unwrap_or o first.0) (sym first.1 ∙ all.1) in
    let (more, is) = all_begin cfg all.0.1 a b all.0.2 ys zs front whole
    (subst (λ (k : List (List ℕ) × State × List ℕ). Reached cfg k.1 k.2 front a ys) same first.3) all.3 none in (
      more,
      ap₂ (λ (one : List (List ℕ)) (l : List (List (List ℕ))). one ∷ l)
          (all.2 ∙ sym (ap (λ k. k.0) same) ∙ sym first.2) is,
    )

-- a record of what was written says a row
record_said : (f g : RowForm) (rows : List Row) (text : List ℕ) (fields : List (List ℕ)) → IsWrittenOf f rows text
    → ComesAfterRows text g fields → (row : Row) × SayRow g fields row
unfolding Reached
record_said f g rows text fields (lines, are, is) comes =
    let read = lines_read f rows lines are in
    let marked : strip_bom text ≡ header_line f ++ lines = ap strip_bom is ∙ unmarked f lines in
    let all : Reached default_config st.StartRecord (strip_bom text) (columns f ∷ read.records) st.StartRecord [] =
    rw marked ((columns f, st.StartRecord, lines), read-write (columns f) lines, refl, read.reached) in
    let (more, begins) = all_begin default_config st.StartRecord comes.state st.StartRecord
    (strip_bom text) comes.rest []
    (columns g ∷ (comes.records ++ (fields ∷ []))) (columns f ∷ read.records) comes.are_first all no_record_left in
    let headers : columns f ≡ columns g = ap (λ l. get_or l 0 (columns f)) begins in
    let rest : read.records ≡ comes.records ++ (fields ∷ more) =
    ap (λ l. drop 1 l) begins ∙ append_assoc comes.records (fields ∷ []) more in
    subst (λ (h : RowForm). (row : Row) × SayRow h fields row) (one_form f g headers)
    (read.each comes.records more fields rest)

pub only_memory : (text : List ℕ) (fault : RowFault) → IsRowRefusal text fault → IsRefusedForMemory text fault
only_memory text Header is f rows (lines, are, written) = absurd (is f (header_first f lines text written))
only_memory text (FieldCount line number needed) (g, fields, comes, long, all, other) f rows written =
    let (row, says) = record_said f g rows text fields written comes in
    absurd (other (sym long ∙ says.whole ∙ sym all))
only_memory text (Field line field) (g, fields, comes, none, told) f rows written =
    let (row, says) = record_said f g rows text fields written comes in
    absurd (none.unsaid row says)
only_memory text OutOfMemory is f rows written = refl

pub read_again : (text : List ℕ) (read : List Row) → AreRowsOf text read → IsReadBack text read
read_again text read are f rows written = one_reading text read rows are (written_read f rows text written)
