-- The results of the functions that read a file.
use Rattle.std.specs.Prelude.{◌≡◌, ℕ, true, List, codes, is_some, MatchBool, Option, Some, None, Result, Ok}
use Rattle.std.specs.Prelude.{Err}
use Rattle.serde_json.specs.Data.{Data}
use Rattle.serde_json.specs.Find.{as_object}
use Rattle.ov_graph.specs.Links.{LinkGraph}
use Rattle.ov_cert.specs.declared.cert.Cert.{Cert}
use Rattle.ov_certfile.specs.Keys.{has_no_other, said}
use Rattle.ov_certfile.specs.Forms.{count_in, moment_in, ids_in, links_in}
use Rattle.ov_certfile.specs.Kinds.{version_in, version_up_to, verdict_in, verdict_keys, keys_of, names_of}
use Rattle.ov_certfile.specs.Kinds.{names_group}
use Rattle.ov_certfile.specs.FaultKinds as kind
use Rattle.ov_certfile.specs.Demands.{missing, misformed, FileGraphJudged}
use Rattle.ov_certfile.specs.Says.{SaysCert}
use Rattle.ov_certfile.specs.declared.file_keys.Key.{Key}
use Rattle.ov_certfile.specs.declared.value_fault.ValueFault.{ValueFault}
use Rattle.ov_certfile.specs.declared.value_fault.ValueFault.TheVariants as value
use Rattle.ov_certfile.specs.declared.fault.FileFault.{FileFault}
use Rattle.ov_certfile.specs.declared.fault.FileFault.TheVariants.{NotJson, MissingKey, UnknownKey, BadValue}
use Rattle.ov_certfile.specs.declared.fault.FileFault.TheVariants.{BadVersion, Graph, OutOfMemory}
use Rattle.ov_certfile.specs.declared.version.Version.{Version}
use Rattle.ov_certfile.specs.declared.linked_or_split.Verdict.{Verdict}
use Rattle.ov_certfile.specs.declared.reading.Listed.{Listed}

-- the fault is that the value lacks the form, and P holds; or it is out of memory
abbrev pub IsMisfit : Type 0 → ValueFault → Type 0
IsMisfit P (value.Misfit m) = P
IsMisfit P value.OutOfMemory = Unit {0}

-- the value read, seen by `view`, is the one that was found; a misfit only if none was found
abbrev pub Reads : {X Y : Type 0} → (X → Y) → Result X ValueFault → Option Y → Type 0
Reads view (Ok x) found = found ≡ Some (view x)
Reads view (Err e) found = IsMisfit (found ≡ None) e

-- the fault is a bad value at this key, and P holds; or it is out of memory
abbrev pub IsBadAt : Key → Type 0 → FileFault → Type 0
IsBadAt key P (BadValue bad) = (bad.key ≡ Some key) × P
IsBadAt key P OutOfMemory = Unit {0}
IsBadAt key P (NotJson place) = ⊥
IsBadAt key P (MissingKey other) = ⊥
IsBadAt key P (UnknownKey at v w) = ⊥
IsBadAt key P (BadVersion newest) = ⊥
IsBadAt key P (Graph f) = ⊥

-- the value read at a key, seen by `view`, is the one that was found; a bad value at that key only if none was found
abbrev pub ReadsAt : {X Y : Type 0} → Key → (X → Y) → Result X FileFault → Option Y → Type 0
ReadsAt key view (Ok x) found = found ≡ Some (view x)
ReadsAt key view (Err e) found = IsBadAt key (found ≡ None) e

-- the heading of a file: the value is an object of this version, which is read, and verdict, with exactly their keys
pub record IsHeaded (newest version : Version) (verdict : Verdict) (d : Data) : Type 0 where
  pub an_object : is_some (as_object d) ≡ true
  pub version_said : said version_in (codes "version") d ≡ Some version
  pub version_read : said (version_up_to newest) (codes "version") d ≡ Some version
  pub verdict_said : said verdict_in (codes "verdict") d ≡ Some verdict
  pub all : missing (keys_of version verdict) d ≡ None
  pub no_other : has_no_other (names_of (keys_of version verdict)) d ≡ true

-- the value at the first of these keys that lacks its form is the bad one; or the fault is out of memory
abbrev pub LacksForm : List Key → Data → FileFault → Type 0
LacksForm keys d (BadValue bad) = misformed keys d ≡ Some (kind.BadValue bad.key)
LacksForm keys d OutOfMemory = Unit {0}
LacksForm keys d (NotJson place) = ⊥
LacksForm keys d (MissingKey key) = ⊥
LacksForm keys d (UnknownKey at v w) = ⊥
LacksForm keys d (BadVersion newest) = ⊥
LacksForm keys d (Graph f) = ⊥

-- the moment of this version, the nodes and the links in the value
pub record IsListed (version : Version) (d : Data) (listed : Listed) : Type 0 where
  pub links : said links_in (codes "links") d ≡ Some listed.links
  pub moment : said (moment_in version) (codes "moment") d ≡ Some listed.moment
  pub nodes : said ids_in (codes "nodes") d ≡ Some listed.nodes

-- the group that is named, if the version names one
abbrev pub IsNamed : Version → Data → Option (List ℕ) → Type 0
IsNamed version d named =
    MatchBool (names_group version) ((said ids_in (codes "group") d ≡ named) × (is_some named ≡ true)) (named ≡ None)

-- the certificate, if the file has this verdict and this k
pub record IsCert (verdict : Verdict) (k : ℕ) (d : Data) (c : Cert) : Type 0 where
  pub forms : misformed (verdict_keys verdict) d ≡ None
  pub says : said verdict_in (codes "verdict") d ≡ Some verdict → said count_in (codes "k") d ≡ Some k → SaysCert d c

-- the fault is the first fault of the nodes and links as a graph; or it is out of memory
abbrev pub IsGraphFault : Version → LinkGraph → FileFault → Type 0
IsGraphFault version g (Graph f) = FileGraphJudged version g (Some f)
IsGraphFault version g OutOfMemory = Unit {0}
IsGraphFault version g (NotJson place) = ⊥
IsGraphFault version g (MissingKey key) = ⊥
IsGraphFault version g (UnknownKey at v w) = ⊥
IsGraphFault version g (BadValue bad) = ⊥
IsGraphFault version g (BadVersion newest) = ⊥
