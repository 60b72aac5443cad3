-- The status of a program that judges what it reads.
use Rattle.std.specs.Prelude.{◌≡◌, ◌⊎◌, ℕ, List, Option}
use Rattle.ov_certfile.specs.declared.version.Version.{Version}
use Rattle.ov_check.specs.declared.outcome_of_file_bytes.Outcome.{Outcome}
use Rattle.ov_check.specs.Outcome.{SaysExactNumber, status_of}
use Rattle.ov_check.specs.Run.{Judgement}

-- The bytes that a reader had were judged. The status is that of their outcome, and if it is 0, the number of the file
-- is exact. `remaining` are the bytes that a reader has, if they are known.
pub record IsStatusOfRead {R : Type 0} (remaining : R → Option (List ℕ)) (newest : Version) (status : ℕ) : Type 0 where
  pub reader : R
  pub outcome : Outcome
  pub judgement : Judgement newest (remaining reader) outcome
  pub answer : status ≡ status_of outcome
  pub exact : status ≡ 0 → SaysExactNumber newest judgement.bytes

-- standard input or a file was judged, and this is the status of its outcome
abbrev pub IsJudged : {I F : Type 0} → (I → Option (List ℕ)) → (F → Option (List ℕ)) → Version → ℕ → Type 0
IsJudged input file newest status = IsStatusOfRead input newest status ⊎ IsStatusOfRead file newest status

-- The status of a program: that of what it judged, standard input or a file. Without an outcome it is 2, since there
-- are too many arguments, or 1.
abbrev pub IsStatus : {I F : Type 0} → (I → Option (List ℕ)) → (F → Option (List ℕ)) → Version → ℕ → Type 0
IsStatus input file newest status = IsJudged input file newest status ⊎ ((status ≡ 1) ⊎ (status ≡ 2))
