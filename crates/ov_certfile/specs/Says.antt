-- The meaning of a JSON value and of a text as a certificate file, or their first fault. Each of these depends on the
-- newest version that is read.
use Rattle.std.specs.Prelude.{◌≡◌, ℕ, List, codes, IfSome, IfNone, MatchBool, Some, None, Result, Ok, Err}
use Rattle.serde_json.specs.Data.{Data}
use Rattle.serde_json.specs.Read.{read}
use Rattle.ov_graph.specs.Links.{LinkGraph}
use Rattle.ov_graph.specs.declared.fault.GraphFault.{GraphFault}
use Rattle.ov_cert.specs.declared.cert.Cert.{Cert}
use Rattle.ov_cert.specs.declared.cert.Cert.TheVariants as cert
use Rattle.ov_cert.specs.declared.cert.Split.{Split}
use Rattle.ov_certfile.specs.Keys.{said}
use Rattle.ov_certfile.specs.Forms.{count_in, id_in, ids_in, links_in, pairs_in, fans_in}
use Rattle.ov_certfile.specs.Kinds.{version_in, verdict_in, moment_said, names_group}
use Rattle.ov_certfile.specs.Demands.{demands, first_unmet, FileGraphJudged}
use Rattle.ov_certfile.specs.FaultKinds.{NotJson, kind_of, kind_in}
use Rattle.ov_certfile.specs.declared.fault.FileFault.{FileFault}
use Rattle.ov_certfile.specs.declared.fault.FileFault.TheVariants.{Graph}
use Rattle.ov_certfile.specs.declared.version.Version.{Version}
use Rattle.ov_certfile.specs.declared.linked_or_split.Verdict.TheVariants.{Linked, Split as VerdictSplit}
use Rattle.ov_certfile.specs.declared.reading.Filed.{Filed}

-- the nodes and links in the value are those of g, whether or not g is a graph
pub record SaysGraph (d : Data) (g : LinkGraph) : Type 0 where
  pub nodes : said ids_in (codes "nodes") d ≡ Some g.nodes
  pub links : said links_in (codes "links") d ≡ Some g.links

-- the group in the value: the named group if the version names one, and else all nodes
abbrev pub SaysGroup : Data → Version → LinkGraph → List ℕ → Type 0
SaysGroup d version g group =
    MatchBool (names_group version) (said ids_in (codes "group") d ≡ Some group) (group ≡ g.nodes)

-- the certificate in the value has verdict linked and this k
pub record SaysLinked (d : Data) (k : ℕ) : Type 0 where
  pub verdict : said verdict_in (codes "verdict") d ≡ Some Linked
  pub count : said count_in (codes "k") d ≡ Some k

-- the certificate in the value has verdict split, with this cut, side and entries
pub record SaysSplit (d : Data) (c : Split) : Type 0 where
  pub verdict : said verdict_in (codes "verdict") d ≡ Some VerdictSplit
  pub k : said count_in (codes "k") d ≡ Some c.k
  pub cut : said ids_in (codes "cut") d ≡ Some c.cut
  pub near : said id_in (codes "near") d ≡ Some c.near
  pub far : said id_in (codes "far") d ≡ Some c.far
  pub side : said ids_in (codes "side") d ≡ Some c.side
  pub pairs : said pairs_in (codes "pairs") d ≡ Some c.pairs
  pub fans : said fans_in (codes "fans") d ≡ Some c.fans

-- the value has this certificate
abbrev pub SaysCert : Data → Cert → Type 0
SaysCert d (cert.Linked k) = SaysLinked d k
SaysCert d (cert.Split c) = SaysSplit d c

-- the value meets all demands, its nodes and links are a graph, and its meaning is f
pub record Says (newest : Version) (d : Data) (f : Filed) : Type 0 where
  pub met : first_unmet (demands newest d) ≡ None
  pub version : Version
  pub version_said : said version_in (codes "version") d ≡ Some version
  pub graph : SaysGraph d f.graph
  pub judged : FileGraphJudged version f.graph None
  pub moment : moment_said d ≡ Some f.moment
  pub group : SaysGroup d version f.graph f.group
  pub cert : SaysCert d f.cert

-- the value meets all demands, but its nodes and links are no graph, and this is their first fault
pub record IsNoGraph (newest : Version) (d : Data) (fault : GraphFault) : Type 0 where
  pub met : first_unmet (demands newest d) ≡ None
  pub version : Version
  pub version_said : said version_in (codes "version") d ≡ Some version
  pub given : LinkGraph
  pub graph : SaysGraph d given
  pub judged : FileGraphJudged version given (Some fault)

-- the first fault of the value: the nodes and links are no graph, or a demand is unmet, and the fault is of its kind
abbrev pub IsFault : Version → Data → FileFault → Type 0
IsFault newest d (Graph fault) = IsNoGraph newest d fault
IsFault newest d fault = first_unmet (demands newest d) ≡ Some (kind_of fault)

-- the meaning of a value, or its first fault
abbrev pub SaysFile : Version → Data → Result Filed FileFault → Type 0
SaysFile newest d (Ok f) = Says newest d f
SaysFile newest d (Err fault) = IsFault newest d fault

-- the meaning of a text: that of the JSON value in it, or a fault of the kind NotJson if it is no JSON
pub record SaysText (newest : Version) (text : List ℕ) (answer : Result Filed FileFault) : Type 0 where
  pub json : IfSome (read text) (λ d. SaysFile newest d answer)
  pub no_json : IfNone (read text) (kind_in answer ≡ Err NotJson)
