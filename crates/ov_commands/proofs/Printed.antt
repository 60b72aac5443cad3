-- What came of the parts of a command is what came of the command.
use Rattle.std.proofs.Common.{◌≡◌, ◌≢◌, ℕ, Bool, List, Option, Some, None, Result, Ok, Err, inl, inr, refl, sym, subst}
use Rattle.ov_ids.specs.FaultOrder.{IsRefusedBy}
use Rattle.ov_ids.proofs.Stepping.{step_none}
use Rattle.ov_cert.specs.declared.cert.Cert.{Cert}
use Rattle.ov_certfile.specs.declared.reading.Filed.{Filed}
use Rattle.ov_certfile.specs.declared.version.Version.{Version}
use Rattle.ov_certfile.specs.declared.version.Version.TheVariants.{Two}
use Rattle.ov_check.specs.Outcome.{IsOutcome}
use Rattle.ov_check.specs.declared.outcome_of_file_bytes.Outcome.TheVariants.{Holds}
use Rattle.ov_drawing.specs.Chosen.{shown_paths}
use Rattle.ov_drawing.specs.Faults.{PictureJudged}
use Rattle.ov_drawing.specs.declared.chosen_entry.ChosenEntry.{ChosenEntry}
use Rattle.ov_drawing.specs.declared.fault.PictureFault.{PictureFault}
use Rattle.ov_drawing.specs.declared.fault.PictureFault.TheVariants as drawing
use Rattle.ov_commands.specs.Printing.{IsGraphTextOf, WasGraphPrinted}
use Rattle.ov_commands.specs.Pictures.{EndsAsAsked, IsDrawable, WasPicturePrinted}
use Rattle.ov_commands.specs.Code.Endings.{IsNotNamed, WasWritten}
use Rattle.ov_commands.specs.declared.conversion_fault.ConversionFault.{ConversionFault}
use Rattle.ov_commands.specs.declared.conversion_fault.ConversionFault.TheVariants.{Refused, Write, OutOfMemory}

pub graph_written : {W : Type 0} (newest : Version) (bytes text : List ℕ) (contents : W → Option (List ℕ)) (old new : W)
    (result : Result (Unit {0}) ConversionFault) → IsGraphTextOf newest bytes text
    → WasWritten text contents old new result → WasGraphPrinted newest bytes contents old new result
graph_written newest bytes text contents old new (Ok done) is it = (text, is, it)
graph_written newest bytes text contents old new (Err Write) is it = (text, is, it)
graph_written newest bytes text contents old new (Err (Refused number)) is it = absurd it
graph_written newest bytes text contents old new (Err OutOfMemory) is it = absurd it

pub picture_written : {W : Type 0} (bytes : List ℕ) (names : Option (List ℕ)) (entry : Option ChosenEntry)
    (dot : Bool) (text : List ℕ) (contents : W → Option (List ℕ)) (old new : W)
    (result : Result (Unit {0}) ConversionFault)
    → IsDrawable bytes names entry → EndsAsAsked dot text → WasWritten text contents old new result
    → WasPicturePrinted bytes names entry dot contents old new result
picture_written bytes names entry dot text contents old new (Ok done) is ends it = (is, (text, ends, it))
picture_written bytes names entry dot text contents old new (Err Write) is ends it = (is, (text, ends, it))
picture_written bytes names entry dot text contents old new (Err (Refused number)) is ends it = absurd it
picture_written bytes names entry dot text contents old new (Err OutOfMemory) is ends it = absurd it

-- ---- the entry

-- what was drawn has the entry
pub has_entry : (cert : Cert) (entry : Option ChosenEntry) → PictureJudged cert entry None
    → shown_paths cert entry ≢ None
has_entry cert entry judged =
    (step_none (shown_paths cert entry ≢ None) drawing.NoSuchEntry (λ x. x ≡ None) judged).0

none_of : {T : Type 0} (x : Option T) → ¬ (x ≢ None) → x ≡ None
none_of None never = refl
none_of (Some y) never = absurd (never (λ (e : Some y ≡ None). absurd (cc)))

lacks_entry : (cert : Cert) (entry : Option ChosenEntry)
    → IsRefusedBy drawing.OutOfMemory (PictureJudged cert entry) drawing.NoSuchEntry
    → shown_paths cert entry ≡ None
lacks_entry cert entry judged = elim judged [
  | inl step ↦ elim step [
    | inl passed ↦ let h : Some drawing.NoSuchEntry ≡ None = passed.1 in absurd (cc)
    | inr failed ↦ none_of (shown_paths cert entry) failed.0
  ]
  | inr memory ↦ let h : drawing.NoSuchEntry ≡ drawing.OutOfMemory = memory.0 in absurd (cc)
]

-- ---- the refusals

pub undrawn : {W : Type 0} (bytes : List ℕ) (names : Option (List ℕ)) (entry : Option ChosenEntry) (dot : Bool)
    (contents : W → Option (List ℕ)) (old : W) (f : Filed) (fault : PictureFault) (result : ConversionFault)
    → IsOutcome Two bytes (Holds f) → IsRefusedBy drawing.OutOfMemory (PictureJudged f.cert entry) fault
    → (fault ≡ drawing.OutOfMemory → result ≡ OutOfMemory) → (fault ≡ drawing.NoSuchEntry → result ≡ Refused 86)
    → WasPicturePrinted bytes names entry dot contents old old (Err result)
undrawn bytes names entry dot contents old f drawing.OutOfMemory result holds judged memory missing =
    subst (λ r. WasPicturePrinted bytes names entry dot contents old old (Err r)) (sym (memory refl)) refl
undrawn bytes names entry dot contents old f drawing.NoSuchEntry result holds judged memory missing =
    subst (λ r. WasPicturePrinted bytes names entry dot contents old old (Err r)) (sym (missing refl))
    (inr (f, holds, inl (lacks_entry f.cert entry judged, refl)), refl)

pub unnamed : {W : Type 0} (bytes : List ℕ) (names : Option (List ℕ)) (entry : Option ChosenEntry) (dot : Bool)
    (contents : W → Option (List ℕ)) (old : W) (f : Filed) (fault : ConversionFault)
    → IsOutcome Two bytes (Holds f) → shown_paths f.cert entry ≢ None → IsNotNamed names f.graph fault
    → WasPicturePrinted bytes names entry dot contents old old (Err fault)
unnamed bytes names entry dot contents old f (Refused number) holds has it = (inr (f, holds, inr (has, it)), refl)
unnamed bytes names entry dot contents old f Write holds has it = absurd it
unnamed bytes names entry dot contents old f OutOfMemory holds has it = refl
