-- The demands on a JSON value that is read as a certificate file, in the order in which they are checked.
use Rattle.std.specs.Prelude.{Bool, true, false, List, [], ◌∷◌, codes, is_some, Option, Some, None}
use Rattle.std.specs.Prelude.{option_map, unwrap_or}
use Rattle.serde_json.specs.Data.{Data}
use Rattle.serde_json.specs.Find.{as_object}
use Rattle.ov_graph.specs.Links.{LinkGraph}
use Rattle.ov_graph.specs.Faults.{JudgedWithin}
use Rattle.ov_graph.specs.declared.fault.GraphFault.{GraphFault}
use Rattle.ov_ids.specs.Options.{◌>>=◌}
use Rattle.ov_certfile.specs.Keys.{has_key, has_no_other, said, first_failing}
use Rattle.ov_certfile.specs.Kinds.{version_in, version_up_to, verdict_in, most_nodes_of, name_of, names_of, has_form}
use Rattle.ov_certfile.specs.Kinds.{keys_of}
use Rattle.ov_certfile.specs.FaultKinds.{Kind, MissingKey, UnknownKey, BadValue, BadVersion}
use Rattle.ov_certfile.specs.declared.file_keys.Key.{Key}
use Rattle.ov_certfile.specs.declared.file_keys.Key.TheVariants as key
use Rattle.ov_certfile.specs.declared.version.Version.{Version}

-- the keys of a file with the version and the verdict of the value; None if the value lacks either
abbrev pub keys_said : Data → Option (List Key)
keys_said d =
    said version_in (codes "version") d >>= λ version.
    said verdict_in (codes "verdict") d >>= λ verdict.
    Some (keys_of version verdict)

-- the keys that the value must have; none if it lacks a version or a verdict
abbrev pub wanted_keys : Data → List Key
wanted_keys d = unwrap_or (keys_said d) []

-- a fault of this kind, unless the test passes
abbrev pub unless : Bool → Kind → Option Kind
unless true kind = None
unless false kind = Some kind

-- the first of these keys that the value lacks, as a fault
abbrev pub missing : List Key → Data → Option Kind
missing keys d = option_map MissingKey (first_failing (λ key. has_key (name_of key) d) keys)

-- the first of these keys whose value lacks its form, as a fault
abbrev pub misformed : List Key → Data → Option Kind
misformed keys d = option_map (λ key. BadValue (Some key)) (first_failing (has_form d) keys)

-- the demands where this is the newest version that is read: for each the kind of the fault if it is unmet, and None if
-- it is met
unfoldable pub demands : Version → Data → List (Option Kind)
demands newest d =
    unless (is_some (as_object d)) (BadValue None)
    ∷ missing (key.Version ∷ []) d
    ∷ unless (is_some (said (version_up_to newest) (codes "version") d)) BadVersion
    ∷ missing (key.Verdict ∷ []) d
    ∷ misformed (key.Verdict ∷ []) d
    ∷ missing (wanted_keys d) d
    ∷ unless (has_no_other (names_of (wanted_keys d)) d) UnknownKey
    ∷ misformed (wanted_keys d) d
    ∷ []

-- the kind of fault of the first unmet demand, if there is one
abbrev pub first_unmet : List (Option Kind) → Option Kind
first_unmet [] = None
first_unmet (None ∷ rest) = first_unmet rest
first_unmet (Some kind ∷ rest) = Some kind

-- after the demands, the nodes and links must be a graph, of no more nodes than the version allows
abbrev pub FileGraphJudged : Version → LinkGraph → Option GraphFault → Type 0
FileGraphJudged version g answer = JudgedWithin (most_nodes_of version) g.nodes g.links answer
