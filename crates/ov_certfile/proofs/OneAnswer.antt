-- A value has one meaning only, and so has a text.
use Rattle.std.proofs.Common.{◌≡◌, ◌∙◌, ◌⊎◌, inl, inr, ℕ, suc, ◌<◌, ◌≤◌, List, [], ◌∷◌, length, Option, Some, None}
use Rattle.std.proofs.Common.{Result, Ok, Err, refl, sym, subst, ap, codes, IfSome, IfNone}
use Rattle.serde_json.specs.Data.{Data}
use Rattle.serde_json.specs.Read.{read}
use Rattle.ov_ids.specs.Members.{Has}
use Rattle.ov_ids.specs.FaultOrder.{HoldsThen, Passed}
use Rattle.ov_graph.specs.Links.{LinkGraph, Precedes}
use Rattle.ov_graph.specs.Faults.{JudgedWithin, NodesJudged, LinksJudged, LinkJoins, LinkComesAfter}
use Rattle.ov_graph.specs.declared.fault.GraphFault.{GraphFault}
use Rattle.ov_graph.specs.declared.fault.GraphFault.TheVariants.{TooManyNodes, UnorderedNode, BadLink}
use Rattle.ov_graph.specs.declared.fault.GraphFault.TheVariants.{UnorderedLink}
use Rattle.ov_graph.specs.declared.fault.LinkFlaw.TheVariants.{NotUpward, NoNode}
use Rattle.ov_cert.specs.declared.cert.Cert.{Cert}
use Rattle.ov_cert.specs.declared.cert.Cert.TheVariants as cert
use Rattle.ov_cert.specs.declared.cert.Split.{Split}
use Rattle.ov_certfile.specs.Keys.{said}
use Rattle.ov_certfile.specs.Kinds.{version_in, most_nodes_of}
use Rattle.ov_certfile.specs.Demands.{demands, first_unmet, FileGraphJudged}
use Rattle.ov_certfile.specs.Says.{SaysGraph, SaysGroup, SaysCert, Says, IsNoGraph, IsFault, SaysFile, SaysText}
use Rattle.ov_certfile.specs.FaultKinds as kind
use Rattle.ov_certfile.specs.FaultKinds.{kind_of, kind_in}
use Rattle.ov_certfile.specs.declared.fault.FileFault.{FileFault}
use Rattle.ov_certfile.specs.declared.fault.FileFault.TheVariants.{NotJson, MissingKey, UnknownKey, BadValue}
use Rattle.ov_certfile.specs.declared.fault.FileFault.TheVariants.{BadVersion, Graph, OutOfMemory}
use Rattle.ov_certfile.specs.declared.version.Version.{Version}
use Rattle.ov_certfile.specs.declared.version.Version.TheVariants.{One, Two, Three}
use Rattle.ov_certfile.specs.declared.linked_or_split.Verdict.TheVariants.{Linked, Split as VerdictSplit}
use Rattle.ov_certfile.specs.declared.reading.Filed.{Filed}

-- at most one answer satisfies the predicate
abbrev pub IsOne : {E : Type 0} → (Option E → Type 0) → Type 0
IsOne {E = E} P = (x y : Option E) → P x → P y → x ≡ y

pub passed_one : {E : Type 0} → IsOne (Passed {E = E})
passed_one x y p q = p ∙ sym q

pub step_one : {E : Type 0} (P : Type 0) (fault : E) (After : Option E → Type 0) → IsOne After
    → IsOne (HoldsThen P fault After)
step_one P fault After one x y (inl p) (inl q) = one x y p.1 q.1
step_one P fault After one x y (inl p) (inr q) = absurd (q.0 p.0)
step_one P fault After one x y (inr p) (inl q) = absurd (p.0 q.0)
step_one P fault After one x y (inr p) (inr q) = p.1 ∙ sym q.1

nodes_one : (at : ℕ) (before : Option ℕ) (nodes : List ℕ) (After : Option GraphFault → Type 0) → IsOne After
    → IsOne (NodesJudged at before nodes After)
nodes_one at before [] After one = one
nodes_one at None (node ∷ nodes) After one = nodes_one (suc at) (Some node) nodes After one
nodes_one at (Some before) (node ∷ nodes) After one =
    step_one (before < node) (UnorderedNode at node before) (NodesJudged (suc at) (Some node) nodes After)
    (nodes_one (suc at) (Some node) nodes After one)

comes_one : (at : ℕ) (before : Option (ℕ × ℕ)) (l : ℕ × ℕ) (After : Option GraphFault → Type 0) → IsOne After
    → IsOne (LinkComesAfter at before l After)
comes_one at None l After one = one
comes_one at (Some before) l After one = step_one (Precedes before l) (UnorderedLink at l before) After one

joins_one : (nodes : List ℕ) (at : ℕ) (l : ℕ × ℕ) (After : Option GraphFault → Type 0) → IsOne After
    → IsOne (LinkJoins nodes at l After)
joins_one nodes at l After one =
    step_one (l.0 < l.1) (BadLink at l NotUpward)
    (HoldsThen (Has nodes l.0) (BadLink at l (NoNode l.0))
    (HoldsThen (Has nodes l.1) (BadLink at l (NoNode l.1)) After))
    (step_one (Has nodes l.0) (BadLink at l (NoNode l.0)) (HoldsThen (Has nodes l.1) (BadLink at l (NoNode l.1)) After)
    (step_one (Has nodes l.1) (BadLink at l (NoNode l.1)) After one))

links_one : (nodes : List ℕ) (at : ℕ) (before : Option (ℕ × ℕ)) (links : List (ℕ × ℕ))
    → IsOne (LinksJudged nodes at before links)
links_one nodes at before [] = passed_one
links_one nodes at before (l ∷ links) =
    joins_one nodes at l (LinkComesAfter at before l (LinksJudged nodes (suc at) (Some l) links))
    (comes_one at before l (LinksJudged nodes (suc at) (Some l) links) (links_one nodes (suc at) (Some l) links))

graph_one : (most : ℕ) (nodes : List ℕ) (links : List (ℕ × ℕ)) → IsOne (JudgedWithin most nodes links)
graph_one most nodes links =
    step_one (length nodes ≤ most) (TooManyNodes (length nodes) most)
    (NodesJudged 0 None nodes (LinksJudged nodes 0 None links))
    (nodes_one 0 None nodes (LinksJudged nodes 0 None links) (links_one nodes 0 None links))

-- a key has one value
same : {X : Type 0} (o : Option X) (x y : X) → o ≡ Some x → o ≡ Some y → x ≡ y
same o x y p q = let e : Some x ≡ Some y = sym p ∙ q in cc

graph_same : (d : Data) (g h : LinkGraph) → SaysGraph d g → SaysGraph d h → g ≡ h
graph_same d g h p q =
    let nodes : g.nodes ≡ h.nodes = same _ _ _ p.nodes q.nodes in
    let links : g.links ≡ h.links = same _ _ _ p.links q.links in
    let e : record { nodes = g.nodes; links = g.links } ≡ h = rw (nodes, links) refl in e

group_same : (d : Data) (version : Version) (g : LinkGraph) (a b : List ℕ) → SaysGroup d version g a
    → SaysGroup d version g b → a ≡ b
group_same d One g a b p q = p ∙ sym q
group_same d Two g a b p q = same _ _ _ p q
group_same d Three g a b p q = same _ _ _ p q

split_same : (a b : Split) → a.k ≡ b.k → a.cut ≡ b.cut → a.near ≡ b.near → a.far ≡ b.far → a.side ≡ b.side
    → a.pairs ≡ b.pairs → a.fans ≡ b.fans → a ≡ b
split_same a b k cut near far side pairs fans =
    let e
    : record { k = a.k; cut = a.cut; near = a.near; far = a.far; side = a.side; pairs = a.pairs; fans = a.fans } ≡ b =
    rw (k, cut, near, far, side, pairs, fans) refl in e

cert_same : (d : Data) (a b : Cert) → SaysCert d a → SaysCert d b → a ≡ b
cert_same d (cert.Linked k) (cert.Linked l) p q = ap (λ n. cert.Linked n) (same _ _ _ p.count q.count)
cert_same d (cert.Linked k) (cert.Split c) p q =
    let e : Linked ≡ VerdictSplit = same _ _ _ p.verdict q.verdict in absurd (cc)
cert_same d (cert.Split c) (cert.Linked k) p q =
    let e : VerdictSplit ≡ Linked = same _ _ _ p.verdict q.verdict in absurd (cc)
cert_same d (cert.Split a) (cert.Split b) p q =
    ap (λ c. cert.Split c)
    (split_same a b (same _ _ _ p.k q.k) (same _ _ _ p.cut q.cut) (same _ _ _ p.near q.near) (same _ _ _ p.far q.far)
    (same _ _ _ p.side q.side) (same _ _ _ p.pairs q.pairs) (same _ _ _ p.fans q.fans))

file_same : (newest : Version) (d : Data) (f h : Filed) → Says newest d f → Says newest d h → f ≡ h
file_same newest d f h p q =
    let version : p.version ≡ q.version = same _ _ _ p.version_said q.version_said in
    let graph : f.graph ≡ h.graph = graph_same d f.graph h.graph p.graph q.graph in
    let there : SaysGroup d q.version h.graph f.group =
    subst (λ v. SaysGroup d v h.graph f.group) version
    (subst (λ g. SaysGroup d p.version g f.group) graph p.group) in
    let group : f.group ≡ h.group = group_same d q.version h.graph f.group h.group there q.group in
    let moment : f.moment ≡ h.moment = same _ _ _ p.moment q.moment in
    let cert : f.cert ≡ h.cert = cert_same d f.cert h.cert p.cert q.cert in
    let e : record { moment = f.moment; graph = f.graph; group = f.group; cert = f.cert } ≡ h =
    rw (moment, graph, group, cert) refl in e

-- the verdict on the nodes and links in a value as a graph
abbrev GraphComesTo : Data → Option GraphFault → Type 0
GraphComesTo d x =
    (version : Version) × (g : LinkGraph) × (said version_in (codes "version") d ≡ Some version)
    × SaysGraph d g × FileGraphJudged version g x

comes_same : (d : Data) (x y : Option GraphFault) → GraphComesTo d x → GraphComesTo d y → x ≡ y
comes_same d x y p q =
    let version : p.0 ≡ q.0 = same _ _ _ p.2 q.2 in
    let graph : p.1 ≡ q.1 = graph_same d p.1 q.1 p.3 q.3 in
    graph_one (most_nodes_of q.0) q.1.nodes q.1.links x y
    (subst (λ v. FileGraphJudged v q.1 x) version (subst (λ g. FileGraphJudged p.0 g x) graph p.4)) q.4

-- a fault is of a demand's kind, or of the graph
cases : (newest : Version) (d : Data) (e : FileFault) → IsFault newest d e
    → (first_unmet (demands newest d) ≡ Some (kind_of e)) ⊎ ((f : GraphFault) × (e ≡ Graph f) × IsNoGraph newest d f)
cases newest d (NotJson p) h = inl h
cases newest d (MissingKey k) h = inl h
cases newest d (UnknownKey at v w) h = inl h
cases newest d (BadValue b) h = inl h
cases newest d (BadVersion v) h = inl h
cases newest d (Graph f) h = inr (f, refl, h)
cases newest d OutOfMemory h = inl h

no_graph_comes : (newest : Version) (d : Data) (f : GraphFault) → IsNoGraph newest d f → GraphComesTo d (Some f)
no_graph_comes newest d f h = (h.version, h.given, h.version_said, h.graph, h.judged)

graph_comes : (newest : Version) (d : Data) (f : Filed) → Says newest d f → GraphComesTo d None
graph_comes newest d f h = (h.version, f.graph, h.version_said, h.graph, h.judged)

fault_same : (newest : Version) (d : Data) (e u : FileFault) → IsFault newest d e → IsFault newest d u
    → kind_of e ≡ kind_of u
fault_same newest d e u p q = elim (cases newest d e p) [
  | inl a ↦ elim (cases newest d u q) [
    | inl b ↦ same _ _ _ a b
    | inr b ↦ let x : Some (kind_of e) ≡ None = sym a ∙ b.2.met in absurd (cc)
  ]
  | inr a ↦ elim (cases newest d u q) [
    | inl b ↦ let x : Some (kind_of u) ≡ None = sym b ∙ a.2.met in absurd (cc)
    | inr b ↦
        let x : Some a.0 ≡ Some b.0 =
        comes_same d (Some a.0) (Some b.0) (no_graph_comes newest d a.0 a.2) (no_graph_comes newest d b.0 b.2) in
        let y : a.0 ≡ b.0 = cc in
        ap kind_of (a.1 ∙ ap (λ f. Graph f) y ∙ sym b.1)
  ]
]

says_no_fault : (newest : Version) (d : Data) (f : Filed) (e : FileFault) → Says newest d f → IsFault newest d e → ⊥
says_no_fault newest d f e p q = elim (cases newest d e q) [
  | inl a ↦ let x : Some (kind_of e) ≡ None = sym a ∙ p.met in cc
  | inr a ↦ let x : None ≡ Some a.0 = comes_same d None (Some a.0) (graph_comes newest d f p)
      (no_graph_comes newest d a.0 a.2) in cc
]

pub file_one : (newest : Version) (d : Data) (a b : Result Filed FileFault) → SaysFile newest d a → SaysFile newest d b
    → kind_in a ≡ kind_in b
file_one newest d (Ok f) (Ok h) p q = ap (λ f. Ok f) (file_same newest d f h p q)
file_one newest d (Ok f) (Err e) p q = absurd (says_no_fault newest d f e p q)
file_one newest d (Err e) (Ok f) p q = absurd (says_no_fault newest d f e q p)
file_one newest d (Err e) (Err u) p q = ap (λ k. Err k) (fault_same newest d e u p q)

read_one : (newest : Version) (o : Option Data) (a b : Result Filed FileFault) → IfSome o (λ d. SaysFile newest d a)
    → IfNone o (kind_in a ≡ Err kind.NotJson) → IfSome o (λ d. SaysFile newest d b)
    → IfNone o (kind_in b ≡ Err kind.NotJson) → kind_in a ≡ kind_in b
read_one newest None a b p n q m = n ∙ sym m
read_one newest (Some d) a b p n q m = file_one newest d a b p q

pub text_one : (newest : Version) (text : List ℕ) (a b : Result Filed FileFault) → SaysText newest text a
    → SaysText newest text b → kind_in a ≡ kind_in b
text_one newest text a b p q = read_one newest (read text) a b p.json p.no_json q.json q.no_json
