-- How far a reader is in a text.
use denote.Ref.{Bor}
use Rattle.std.specs.Prelude.{◌≡◌, ◌<◌, ℕ, false, List, [], Option, Some, None}
use Rattle.csv.specs.Reading.{Reached, Ready, default_config, is_flexible, source_of, strip_bom}
use Rattle.csv.specs.declared.parser.State.TheVariants as st
use Rattle.csv.specs.declared.reader.Reader.{Reader}
use Rattle.csv.specs.declared.reader.Trim.TheVariants as trim

-- what a text has, of which a slice is read
abbrev pub text_left : Bor (List ℕ) → Option (List ℕ)
text_left s = Some s.now

-- a reader has given these records of a text, and goes on
pub record Stands (text : List ℕ) (reader : Reader (Bor (List ℕ))) (left : ℕ) (records : List (List (List ℕ)))
    : Type 0 where
  pub plain : reader.trim ≡ trim.None
  pub ready : Ready reader
  pub turns : 0 < left
  pub set : reader.config ≡ default_config
  pub strict : is_flexible reader ≡ false
  pub rest : List ℕ
  pub source : source_of text_left reader ≡ Some rest
  pub reached : Reached default_config st.StartRecord (strip_bom text) records reader.state rest

-- a reader begins with a text, and no record says how many fields another one must have
pub record IsUnread (text : List ℕ) (reader : Reader (Bor (List ℕ))) (left : ℕ) : Type 0 where
  pub stands : Stands text reader left []
  pub free : reader.expected ≡ None
