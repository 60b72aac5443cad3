-- Why a text of rows is refused.
use Rattle.std.proofs.Common.{Bor, ◌≡◌, ℕ, List, [], ◌∷◌, ◌++◌, length, Option, Some, None, Ok}
use Rattle.std.proofs.Common.{true, false, refl, sym, ap, ap₂, ◌∙◌}
use Rattle.std.specs.Prelude.{Err, IfErr, Result, option_map, unwrap_or}
use Rattle.std.specs.Result.{IsErrAnd}
use Rattle.csv.specs.Machine.{Read, next_record}
use Rattle.csv.specs.Reading.{ExplainsRead, NextIs, Reached, ReadsNext, RowStep, TookRecord, default_config, strip_bom}
use Rattle.csv.specs.Records.{Row as Fields, fields_of}
use Rattle.csv.specs.declared.error.ErrorKind.{ErrorKind}
use Rattle.csv.specs.declared.error.ErrorKind.TheVariants as kind
use Rattle.csv.specs.declared.parser.Config.{Config}
use Rattle.csv.specs.declared.parser.State.{State}
use Rattle.csv.specs.declared.parser.State.TheVariants as st
use Rattle.csv.specs.declared.reader.Reader.{Reader}
use Rattle.csv.proofs.ReadFacts.{reached-more, rows-end}
use Rattle.ov_sweep_rows.specs.declared.row.Row.{Row}
use Rattle.ov_sweep_rows.specs.declared.row_form.RowForm.{RowForm}
use Rattle.ov_sweep_rows.specs.declared.row_fault.RowFault.{RowFault}
use Rattle.ov_sweep_rows.specs.declared.row_fault.RowFault.TheVariants.{Header, FieldCount, Field, OutOfMemory}
use Rattle.ov_sweep_rows.specs.Columns.{columns}
use Rattle.ov_sweep_rows.specs.Refusals.{ComesAfterRows, IsRowRefusal, first_record}
use Rattle.ov_sweep_rows.specs.Code.Taking.{IsFaultOf, IsNoHeader, IsTakeFault}
use Rattle.ov_sweep_rows.specs.Code.Standing.{IsUnread, Stands, text_left}
use Rattle.ov_sweep_rows.proofs.RowByRow.{Reads}

-- what is known of the fault of a result
pub fault_tells : {A : Type 0} (Known Told : RowFault → Type 0) (r : Result A RowFault)
    → ((fault : RowFault) → Known fault → Told fault) → IsErrAnd r Known → IfErr r Told
fault_tells Known Told (Ok value) tells is = tt
fault_tells Known Told (Err fault) tells is = tells fault is

took_some : (cfg : Config) (s0 a b : State) (xs y z : List ℕ) (records : List (List (List ℕ))) (fields : List (List ℕ))
    (next : Option Read) → next_record cfg a [] [] y ≡ next → NextIs next true fields b z
    → Reached cfg s0 xs records a y → Reached cfg s0 xs (records ++ (fields ∷ [])) b z
took_some cfg s0 a b xs y z records fields None found is reached = cc is
took_some cfg s0 a b xs y z records fields (Some p) found is reached =
    rw (is.1, is.2, is.3) (reached-more cfg s0 a xs y records p reached found)

took_next : (cfg : Config) (s0 a b : State) (xs y : List ℕ) (records : List (List (List ℕ))) (fields : List (List ℕ))
    (left : Option (List ℕ)) → ReadsNext cfg a (Some y) left true fields b → Reached cfg s0 xs records a y
    → (z : List ℕ) × Reached cfg s0 xs (records ++ (fields ∷ [])) b z
took_next cfg s0 a b xs y records fields None reads reached = absurd reads
took_next cfg s0 a b xs y records fields (Some z) reads reached =
    (z, took_some cfg s0 a b xs y z records fields (next_record cfg a [] [] y) refl reads reached)

-- a record comes after rows
comes_next : (form : RowForm) (text : List ℕ) (a b : Reader (Bor (List ℕ))) (left : ℕ) (rows : List Row) (fields :
    List (List ℕ))
    → Reads form text a left rows → TookRecord text_left a b fields → ComesAfterRows text form fields
comes_next form text a b left rows fields reads took =
    let next = took_next default_config st.StartRecord a.state b.state (strip_bom text) reads.stands.rest
    (columns form ∷ reads.records) fields _ (rw (reads.stands.set, reads.stands.source) at took) reads.stands.reached in
    record {
      records = reads.records;
      rows = rows;
      state = b.state;
      rest = next.0;
      are_first = next.1;
      are_said = reads.said;
    }

-- it can't be read
pub next_unread : (form : RowForm) (text : List ℕ) (a b : Reader (Bor (List ℕ))) (left : ℕ) (rows : List Row) (why :
    ErrorKind)
    (fault : RowFault) → Reads form text a left rows → ExplainsRead text_left a b false why → IsFaultOf why fault
    → IsRowRefusal text fault
next_unread form text a b left rows (kind.UnequalLengths pos expected len) fault reads explains is =
    let (flexible, expects, other, fields, took, long) = explains in
    let n = length (columns form) in
    let same : n ≡ expected = ap (λ (o : Option ℕ). unwrap_or o n) (sym reads.lengths ∙ expects) in
    rw is.1 (
      form,
      fields,
      comes_next form text a b left rows fields reads took,
      long,
      sym same,
      λ all. other (sym all),
    )
next_unread form text a b left rows (kind.Io e) fault reads explains is = rw is tt
next_unread form text a b left rows (kind.Utf8 pos err) fault reads explains is = rw is tt
next_unread form text a b left rows kind.OutOfMemory fault reads explains is = rw is tt
next_unread form text a b left rows (kind.Serialize told) fault reads explains is = rw is tt
next_unread form text a b left rows (kind.Deserialize pos err) fault reads explains is = rw is tt

-- it says no row
pub next_untaken : (form : RowForm) (text : List ℕ) (a b : Reader (Bor (List ℕ))) (left next : ℕ) (rows : List Row)
    (row : Fields)
    (fault : RowFault) → Reads form text a left rows → RowStep text_left a b next (Some (Ok row))
    → IsTakeFault form (fields_of row) fault → IsRowRefusal text fault
next_untaken form text a b left next rows row Header reads step untaken = absurd untaken
next_untaken form text a b left next rows row (FieldCount line number needed) reads step untaken = absurd untaken
next_untaken form text a b left next rows row (Field line field) reads step untaken =
    (form, fields_of row, comes_next form text a b left rows (fields_of row) reads step.0.0, untaken.0, untaken.1)
next_untaken form text a b left next rows row OutOfMemory reads step untaken = tt

-- the first record of a text
found_first : (cfg : Config) (s b : State) (xs : List ℕ) (fields : List (List ℕ)) (left : Option (List ℕ))
    → ReadsNext cfg s (Some xs) left true fields b
    → option_map (λ p. p.0) (next_record cfg s [] [] xs) ≡ Some fields
found_first cfg s b xs fields None reads = absurd reads
found_first cfg s b xs fields (Some ys) reads = by (next_record cfg s [] [] xs) reads where
  by : (o : Option Read) → NextIs o true fields b ys → option_map (λ p. p.0) o ≡ Some fields
  by None is = cc is
  by (Some p) is = ap Some (sym is.1)

pub first_found : (text : List ℕ) (a b : Reader (Bor (List ℕ))) (left next : ℕ) (row : Fields) → Stands text a left []
    → RowStep text_left a b next (Some (Ok row)) → first_record text ≡ Some (fields_of row)
unfolding Reached
first_found text a b left next row stands step =
    let reads = rw (stands.set, stands.source, sym stands.reached.0, sym stands.reached.1) at step.0.0 in
    found_first default_config st.StartRecord b.state (strip_bom text) (fields_of row) _ reads

-- the first record is no header
pub unheaded : (text : List ℕ) (a b : Reader (Bor (List ℕ))) (left next : ℕ) (row : Fields) (fault : RowFault)
    → Stands text a left [] → RowStep text_left a b next (Some (Ok row)) → IsNoHeader (fields_of row) fault
    → IsRowRefusal text fault
unheaded text a b left next row Header stands step is = λ f same.
    is f (ap (λ o. unwrap_or o (fields_of row)) (sym (first_found text a b left next row stands step) ∙ same))
unheaded text a b left next row (FieldCount line number needed) stands step is = absurd is
unheaded text a b left next row (Field line field) stands step is = absurd is
unheaded text a b left next row OutOfMemory stands step is = tt

-- there is no first record
pub unbegun : (text : List ℕ) (a b : Reader (Bor (List ℕ))) (left next : ℕ) → Stands text a left []
    → RowStep text_left a b next None → IsRowRefusal text Header
unfolding Reached
unbegun text a b left next stands step = λ f same.
    let none = rows-end text_left a b [] default_config stands.rest stands.set stands.source step in
    let here : next_record default_config st.StartRecord [] [] (strip_bom text) ≡ None =
    ap₂ (λ (s : State) (xs : List ℕ). next_record default_config s [] [] xs) stands.reached.0 stands.reached.1 ∙ none in
    cc (sym (ap (option_map (λ p. p.0)) here) ∙ same)

-- the first record can't be read
pub first_unread : (text : List ℕ) (a b : Reader (Bor (List ℕ))) (left : ℕ) (why : ErrorKind) (fault : RowFault)
    → IsUnread text a left → ExplainsRead text_left a b false why → IsFaultOf why fault → IsRowRefusal text fault
first_unread text a b left (kind.UnequalLengths pos expected len) fault begun explains is =
    let (flexible, expects, other, fields, took, long) = explains in
    cc (sym begun.free ∙ expects)
first_unread text a b left (kind.Io e) fault begun explains is = rw is tt
first_unread text a b left (kind.Utf8 pos err) fault begun explains is = rw is tt
first_unread text a b left kind.OutOfMemory fault begun explains is = rw is tt
first_unread text a b left (kind.Serialize told) fault begun explains is = rw is tt
first_unread text a b left (kind.Deserialize pos err) fault begun explains is = rw is tt
