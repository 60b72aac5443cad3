-- A text is read record by record.
use Rattle.std.proofs.Common.{Bor, ◌≡◌, ◌∙◌, ◌<◌, ℕ, false, List, [], ◌∷◌, ◌++◌, length, Some, None}
use Rattle.std.proofs.Common.{Ok, refl, sym, inl, inr}
use Rattle.std.specs.Prelude.{IfSome}
use Rattle.csv.specs.Reading.{AreRecords, Reached, RowStep, default_config, is_flexible, source_of, strip_bom}
use Rattle.csv.specs.Records.{Row, fields_of}
use Rattle.csv.specs.declared.parser.State.TheVariants as st
use Rattle.csv.specs.declared.reader.Reader.{Reader}
use Rattle.csv.specs.declared.reader.Trim.TheVariants as trim
use Rattle.ov_sweep_rows.specs.Code.Standing.{Stands, text_left}
use Rattle.csv.proofs.ReadFacts.{rows-end, rows-more}

-- none was given yet
pub stands_first : (text : List ℕ) (reader : Reader (Bor (List ℕ))) (left : ℕ) → reader.trim ≡ trim.None
    → reader.has_headers ≡ false → reader.headers ≡ None → 0 < left → reader.config ≡ default_config
    → is_flexible reader ≡ false → source_of text_left reader ≡ Some (strip_bom text)
    → reader.state ≡ st.StartRecord → Stands text reader left []
unfolding Reached
stands_first text reader left plain unnamed none turns set strict source begins = record {
  plain = plain;
  ready = inr (inr (unnamed, none));
  turns = turns;
  set = set;
  strict = strict;
  rest = strip_bom text;
  source = source;
  reached = (sym begins, refl);
}

-- one more record
pub stands_more : (text : List ℕ) (a b : Reader (Bor (List ℕ))) (left next : ℕ) (records : List (List (List ℕ)))
    (row : Row) → Stands text a left records → RowStep text_left a b next (Some (Ok row))
    → is_flexible b ≡ is_flexible a → Stands text b next (records ++ (fields_of row ∷ []))
stands_more text a b left next records row stands step flexible =
    let more = rows-more text_left a b (fields_of row) default_config st.StartRecord (strip_bom text) stands.rest
    records stands.set stands.source stands.reached step.0 in
    record {
      plain = step.0.3 ∙ stands.plain;
      ready = inl step.1;
      turns = step.2;
      set = step.0.2 ∙ stands.set;
      strict = flexible ∙ stands.strict;
      rest = more.0;
      source = more.1;
      reached = more.2;
    }

-- how many fields the record behind this one must have
pub fields_next : (text : List ℕ) (a b : Reader (Bor (List ℕ))) (left next : ℕ) (records : List (List (List ℕ)))
    (row : Row) → Stands text a left records → RowStep text_left a b next (Some (Ok row))
    → IfSome a.expected (λ e. b.expected ≡ Some e) × (b.expected ≡ Some (length (fields_of row)))
fields_next text a b left next records row stands step = step.0.5 refl stands.strict

-- no record more
pub stands_last : (text : List ℕ) (a b : Reader (Bor (List ℕ))) (left next : ℕ) (records : List (List (List ℕ)))
    → Stands text a left records → RowStep text_left a b next None
    → AreRecords default_config st.StartRecord (strip_bom text) records
stands_last text a b left next records stands step = (
  a.state,
  stands.rest,
  stands.reached,
  rows-end text_left a b [] default_config stands.rest stands.set stands.source step,
)
