-- The texts that the functions append that write a file, and that what is written is read back.
use Rattle.std.specs.Prelude.{◌≡◌, ◌++◌, ℕ, Bool, true, List, MatchBool, Some}
use Rattle.serde_json.specs.Data.{Data, Members}
use Rattle.serde_json.specs.Written.{compact_text, members_text}
use Rattle.ov_graph.specs.Links.{LinkGraph, IsGraph, IsWithinLimit}
use Rattle.ov_cert.specs.declared.cert.Cert.{Cert}
use Rattle.ov_cert.specs.declared.cert.Cert.TheVariants as cert
use Rattle.ov_cert.specs.declared.cert.Split.{Split}
use Rattle.ov_certfile.specs.Forms.{count_in, id_in, ids_in, links_in, pairs_in, fans_in}
use Rattle.ov_certfile.specs.Kinds.{names_group}
use Rattle.ov_certfile.specs.DataOf.{whole_data, ids_data, list_data, link_data, pair_data, fan_data}
use Rattle.ov_certfile.specs.declared.version.Version.{Version}

-- the text of a value was appended
abbrev pub WritesValue : Data → List ℕ → List ℕ → Type 0
WritesValue d old new = new ≡ old ++ compact_text d

-- Members were appended, the first of them with a comma before it if `later` is true. `add` puts them before other
-- members: whatever members follow, with their text the whole is the old text and that of all of them.
pub record WritesMembers (later : Bool) (add : Members → Members) (old : List ℕ) (new : List ℕ) : Type 0 where
  pub followed : (ms : Members) → new ++ members_text true ms ≡ old ++ members_text later (add ms)

-- g is a graph within the limit of all graphs, and the values written for its nodes and links read back
pub record GraphReadsBack (g : LinkGraph) : Type 0 where
  pub is_graph : IsGraph g
  pub within : IsWithinLimit g
  pub nodes : ids_in (ids_data g.nodes) ≡ Some g.nodes
  pub links : links_in (list_data link_data g.links) ≡ Some g.links

-- the values written for the cut and its side read back
pub record CutReadsBack (c : Split) : Type 0 where
  pub cut : ids_in (ids_data c.cut) ≡ Some c.cut
  pub near : id_in (whole_data c.near) ≡ Some c.near
  pub far : id_in (whole_data c.far) ≡ Some c.far
  pub side : ids_in (ids_data c.side) ≡ Some c.side

-- the values written for the entries read back
pub record EntriesReadBack (c : Split) : Type 0 where
  pub pairs : pairs_in (list_data pair_data c.pairs) ≡ Some c.pairs
  pub fans : fans_in (list_data fan_data c.fans) ≡ Some c.fans

-- the values written for a certificate read back
abbrev pub CertReadsBack : Cert → Type 0
CertReadsBack (cert.Linked k) = count_in (whole_data k) ≡ Some k
CertReadsBack (cert.Split c) = (count_in (whole_data c.k) ≡ Some c.k) × CutReadsBack c × EntriesReadBack c

-- the value written for a group reads back, if the version names one
abbrev pub GroupReadsBack : Version → List ℕ → Type 0
GroupReadsBack version group = MatchBool (names_group version) (ids_in (ids_data group) ≡ Some group) (Unit {0})

-- the values written in a file of this version read back
pub record FileReadsBack (version : Version) (c : Cert) (g : LinkGraph) (group : List ℕ) : Type 0 where
  pub graph : GraphReadsBack g
  pub cert : CertReadsBack c
  pub named : GroupReadsBack version group
