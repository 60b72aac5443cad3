-- Why a picture is refused.
use Rattle.std.specs.Prelude.{◌≢◌, ℕ, Option, None}
use Rattle.ov_ids.specs.FaultOrder.{HoldsThen, Passed}
use Rattle.ov_cert.specs.declared.cert.Cert.{Cert}
use Rattle.ov_drawing.specs.declared.chosen_entry.ChosenEntry.{ChosenEntry}
use Rattle.ov_drawing.specs.declared.fault.PictureFault.{PictureFault}
use Rattle.ov_drawing.specs.declared.fault.PictureFault.TheVariants.{NoSuchEntry, OutOfMemory}
use Rattle.ov_drawing.specs.Chosen.{shown_paths}

-- the number of each fault
abbrev pub number_of : PictureFault → ℕ
number_of NoSuchEntry = 86
number_of OutOfMemory = 99

-- a picture is refused if the certificate does not have the entry that is chosen
abbrev pub PictureJudged : Cert → Option ChosenEntry → Option PictureFault → Type 0
PictureJudged c entry = HoldsThen (shown_paths c entry ≢ None) NoSuchEntry Passed
