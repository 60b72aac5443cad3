-- The JSON object that is written for a certificate. Its keys are in the order of their bytes.
use Rattle.std.specs.Prelude.{ℕ, ◌&&◌, ◌||◌, Bool, List, [], ◌∷◌, length, map, codes, nat_le, if◌then◌else◌}
use Rattle.serde_json.specs.View.{items_of}
use Rattle.serde_json.specs.Data.{Data, number, string, array, object, unsigned, Members, no_members, member}
use Rattle.ov_graph.specs.Links.{LinkGraph}
use Rattle.ov_cert.specs.declared.cert.Cert.{Cert}
use Rattle.ov_cert.specs.declared.cert.Cert.TheVariants as cert
use Rattle.ov_cert.specs.declared.cert.Split.{Split}
use Rattle.ov_cert.specs.declared.cert.PairPaths.{PairPaths}
use Rattle.ov_cert.specs.declared.cert.FanPaths.{FanPaths}
use Rattle.ov_certfile.specs.Common.{are_same}
use Rattle.ov_certfile.specs.Forms.{last_moment_of}
use Rattle.ov_certfile.specs.Kinds.{version_number, verdict_text, most_nodes_of, names_group}
use Rattle.ov_certfile.specs.declared.version.Version.{Version}
use Rattle.ov_certfile.specs.declared.version.Version.TheVariants.{One, Two, Three}
use Rattle.ov_certfile.specs.declared.linked_or_split.Verdict.TheVariants.{Linked, Split as VerdictSplit}

-- a whole number as JSON
abbrev pub whole_data : ℕ → Data
whole_data n = number (unsigned n)

-- a list as a JSON array, each item written by `as_data`
abbrev pub list_data : {X : Type 0} → (X → Data) → List X → Data
list_data as_data xs = array (items_of (map as_data xs))

-- a list of ids as JSON
abbrev pub ids_data : List ℕ → Data
ids_data ids = list_data whole_data ids

-- a link as JSON: an array of its two ids
abbrev pub link_data : ℕ × ℕ → Data
link_data l = ids_data (l.0 ∷ l.1 ∷ [])

-- paths as JSON: an array of arrays of ids
abbrev pub paths_data : List (List ℕ) → Data
paths_data paths = list_data ids_data paths

-- the entry of a pair as JSON
unfoldable pub pair_data : PairPaths → Data
pair_data p = object
    (member (codes "i") (whole_data p.i)
    (member (codes "j") (whole_data p.j)
    (member (codes "paths") (paths_data p.paths) no_members)))

-- the entry of a fan as JSON
unfoldable pub fan_data : FanPaths → Data
fan_data p = object
    (member (codes "j") (whole_data p.j)
    (member (codes "paths") (paths_data p.paths) no_members))

-- a file of this version can say this: it names the group, or the group is all nodes; there are no more nodes than it
-- allows, and the moment is none that is too late for it
abbrev pub can_say : Version → LinkGraph → List ℕ → ℕ → Bool
can_say version g group moment =
    (names_group version || are_same group g.nodes) && (nat_le (length g.nodes) (most_nodes_of version)
    && nat_le moment (last_moment_of version))

-- the version that is written: 1 where it can say this, else 2 where this can, and 3 exactly where neither can
unfoldable pub version_for : LinkGraph → List ℕ → ℕ → Version
version_for g group moment =
    if can_say One g group moment then One else (if can_say Two g group moment then Two else Three)

-- the members, with the group before them if the version names one
abbrev pub group_then : Version → List ℕ → Members → Members
group_then version group members =
    if names_group version then member (codes "group") (ids_data group) members else members

-- the members of a file with verdict linked
abbrev pub linked_members : Version → ℕ → LinkGraph → List ℕ → ℕ → Members
linked_members version k g group moment =
    group_then version group
    (member (codes "k") (whole_data k)
    (member (codes "links") (list_data link_data g.links)
    (member (codes "moment") (whole_data moment)
    (member (codes "nodes") (ids_data g.nodes)
    (member (codes "verdict") (string (verdict_text Linked))
    (member (codes "version") (whole_data (version_number version)) no_members))))))

-- the members of a file with verdict split
abbrev pub split_members : Version → Split → LinkGraph → List ℕ → ℕ → Members
split_members version c g group moment =
    member (codes "cut") (ids_data c.cut)
    (member (codes "fans") (list_data fan_data c.fans)
    (member (codes "far") (whole_data c.far)
    (group_then version group
    (member (codes "k") (whole_data c.k)
    (member (codes "links") (list_data link_data g.links)
    (member (codes "moment") (whole_data moment)
    (member (codes "near") (whole_data c.near)
    (member (codes "nodes") (ids_data g.nodes)
    (member (codes "pairs") (list_data pair_data c.pairs)
    (member (codes "side") (ids_data c.side)
    (member (codes "verdict") (string (verdict_text VerdictSplit))
    (member (codes "version") (whole_data (version_number version)) no_members))))))))))))

-- the members of the file of a certificate
abbrev pub cert_members : Version → Cert → LinkGraph → List ℕ → ℕ → Members
cert_members version (cert.Linked k) g group moment = linked_members version k g group moment
cert_members version (cert.Split c) g group moment = split_members version c g group moment

-- the object of a file of this version
unfoldable pub data_in : Version → Cert → LinkGraph → List ℕ → ℕ → Data
data_in version c g group moment = object (cert_members version c g group moment)

-- the object of a file, given the certificate, the graph, the group and the moment
unfoldable pub data_of : Cert → LinkGraph → List ℕ → ℕ → Data
data_of c g group moment = data_in (version_for g group moment) c g group moment
