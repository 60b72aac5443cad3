-- The outcome of the bytes of a certificate file, where files up to a newest version are read.
use Rattle.std.specs.Prelude.{◌≡◌, ◌⊎◌, ℕ, List, Some, None, MatchOption, Result, Ok, Err, IsUtf8}
use Rattle.serde_json.specs.Read.{read}
use Rattle.serde_json.specs.View.{view}
use Rattle.ov_graph.specs.Joined.{FewestForGroup}
use Rattle.ov_cert.specs.Valid.{IsValidForGroup, k_of}
use Rattle.ov_cert.specs.Verdict.{JudgedForGroup}
use Rattle.ov_certfile.specs.declared.reading.Filed.{Filed}
use Rattle.ov_certfile.specs.declared.reading.RefusedFile.{RefusedFile}
use Rattle.ov_certfile.specs.declared.fault.FileFault.{FileFault}
use Rattle.ov_certfile.specs.FaultKinds.{NotJson, kind_of, kind_in}
use Rattle.ov_certfile.specs.Says.{SaysText}
use Rattle.ov_certfile.specs.declared.version.Version.{Version}
use Rattle.ov_check.specs.declared.outcome_of_file_bytes.Outcome.{Outcome}
use Rattle.ov_check.specs.declared.outcome_of_file_bytes.Outcome.TheVariants.{Holds, Fails, Refused}

-- what the bytes say as a certificate file, or their first fault; bytes that are not text are not JSON
abbrev pub BytesSay : Version → List ℕ → Result Filed FileFault → Type 0
BytesSay newest bytes answer =
    (IsUtf8 bytes × SaysText newest bytes answer) ⊎ ((¬ IsUtf8 bytes) × (kind_in answer ≡ Err NotJson))

-- no JSON value is in the bytes: they are not text, or the text is not JSON
abbrev pub HasNoJson : List ℕ → Type 0
HasNoJson bytes = (¬ IsUtf8 bytes) ⊎ (read bytes ≡ None)

-- the bytes are refused with their first fault. The JSON value in them is kept, if there is one
pub record IsRefused (newest : Version) (bytes : List ℕ) (r : RefusedFile) : Type 0 where
  pub says : BytesSay newest bytes (Err r.fault)
  pub value : MatchOption r.value (HasNoJson bytes) (λ value. read bytes ≡ Some (view value))

-- The bytes are a certificate file, and its certificate is valid for its group; or the certificate has this first
-- fault. Bytes that are not a certificate file are refused with their first fault.
abbrev pub IsOutcome : Version → List ℕ → Outcome → Type 0
IsOutcome newest bytes (Holds f) = BytesSay newest bytes (Ok f) × IsValidForGroup f.graph f.group f.cert
IsOutcome newest bytes (Fails f fault) =
    BytesSay newest bytes (Ok f) × JudgedForGroup f.graph f.group f.cert (Some fault)
IsOutcome newest bytes (Refused r) = IsRefused newest bytes r

-- two outcomes are alike: the same file and the same fault of its certificate, or faults of a file of one kind
abbrev pub AreAlike : Outcome → Outcome → Type 0
AreAlike (Holds f) (Holds h) = f ≡ h
AreAlike (Fails f e) (Fails h u) = (f ≡ h) × (e ≡ u)
AreAlike (Refused r) (Refused s) = kind_of r.fault ≡ kind_of s.fault
AreAlike o u = ⊥

-- The number of the file is exact: the size of the smallest set of nodes that splits the group, or one less than the
-- number of its members if every two are linked.
abbrev pub SaysExactNumber : Version → List ℕ → Type 0
SaysExactNumber newest bytes =
    (f : Filed) × BytesSay newest bytes (Ok f) × FewestForGroup f.graph f.group (k_of f.cert)

-- the program's status
abbrev pub status_of : Outcome → ℕ
status_of (Holds f) = 0
status_of (Fails f fault) = 1
status_of (Refused r) = 1
