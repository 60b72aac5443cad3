-- What is taken off the tokens of a file.
use Rattle.std.specs.Prelude.{◌≡◌, ◌≤◌, ◌++◌, ℕ, Bool, List, length, codes, is_some, Option, Some, None, unwrap_or}
use Rattle.json.specs.Token.{Token}
use Rattle.json.specs.Tree.{members_tokens}
use Rattle.serde_json.specs.Data.{Members, member}
use Rattle.serde_json.specs.Written.{members_outline}
use Rattle.ov_graph.specs.Links.{LinkGraph, IsGraph, IsWithinLimit}
use Rattle.ov_certfile.specs.Forms.{ids_in, links_in, last_moment_of}
use Rattle.ov_certfile.specs.Kinds.{most_nodes_of, version_number, names_group}
use Rattle.ov_certfile.specs.DataOf.{ids_data, list_data, link_data, cert_members}
use Rattle.ov_certfile.specs.Code.Writing.{CertReadsBack}
use Rattle.ov_certfile.specs.declared.version.Version.{Version}
use Rattle.ov_certfile.specs.declared.reading.Filed.{Filed}
use Rattle.ov_certfile.specs.declared.token_reading.Content.{Content}

-- files of this version are read, name a group if one is named, and may have this moment
pub record Suits (newest : Version) (is_named : Bool) (moment : ℕ) (version : Version) : Type 0 where
  pub read : version_number version ≤ version_number newest
  pub named : names_group version ≡ is_named
  pub within : moment ≤ last_moment_of version

-- the members, with the group before them if it is named
abbrev pub named_then : Option (List ℕ) → Members → Members
named_then None ms = ms
named_then (Some group) ms = member (codes "group") (ids_data group) ms

-- the value written for a group that is named reads back
abbrev pub NamedReadsBack : Option (List ℕ) → Type 0
NamedReadsBack None = Unit {0}
NamedReadsBack (Some group) = ids_in (ids_data group) ≡ Some group

-- the nodes and links of a file, as a graph
abbrev pub graph_in : Content → LinkGraph
graph_in c = record { nodes = c.nodes; links = c.links }

-- the group of a file: all nodes if none is named
abbrev pub group_in : Content → List ℕ
group_in c = unwrap_or c.group c.nodes

-- what a file says
abbrev pub filed_in : Content → Filed
filed_in c = record { moment = c.moment; graph = graph_in c; group = group_in c; cert = c.cert }

-- the members of a file are taken off, with the brace that closes it, and the values written for them read back
pub record TakesContent (newest : Version) (c : Content) (old new : List Token) : Type 0 where
  pub members : old
      ≡ members_tokens (members_outline (cert_members c.version c.cert (graph_in c) (group_in c) c.moment)) ++ new
  pub cert : CertReadsBack c.cert
  pub nodes : ids_in (ids_data c.nodes) ≡ Some c.nodes
  pub links : links_in (list_data link_data c.links) ≡ Some c.links
  pub named : NamedReadsBack c.group
  pub suits : Suits newest (is_some c.group) c.moment c.version

-- the nodes and links are a graph within the limits of all graphs and of the version
pub record IsGraphWithin (version : Version) (g : LinkGraph) : Type 0 where
  pub is_graph : IsGraph g
  pub within : IsWithinLimit g
  pub few : length g.nodes ≤ most_nodes_of version
