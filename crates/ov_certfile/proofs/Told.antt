-- The results of reading the parts of a file, put together to the result for the file.
use Rattle.std.proofs.Common.{◌≡◌, ◌≢◌, ◌∙◌, ℕ, List, [], ◌∷◌, ◌++◌, true, false, Bool, Option, Some, None, Result, Err}
use Rattle.std.proofs.Common.{codes, refl, ap, sym, if◌then◌else◌, option_map, unwrap_or, subst}
use Rattle.serde_json.specs.Data.{Data}
use Rattle.ov_graph.specs.Links.{LinkGraph}
use Rattle.ov_cert.specs.declared.cert.Cert.{Cert}
use Rattle.ov_certfile.specs.Keys.{said, first_failing}
use Rattle.ov_certfile.specs.Forms.{count_in}
use Rattle.ov_certfile.specs.Kinds.{has_form, keys_of, version_keys, verdict_keys}
use Rattle.ov_certfile.specs.FaultKinds as kind
use Rattle.ov_certfile.specs.FaultKinds.{Kind}
use Rattle.ov_certfile.specs.Demands.{demands, first_unmet, misformed, FileGraphJudged}
use Rattle.ov_certfile.specs.Says.{SaysGroup, Says, IsFault}
use Rattle.ov_certfile.specs.Code.Reading.{IsHeaded, IsBadAt, LacksForm, IsListed, IsNamed, IsCert, IsGraphFault}
use Rattle.ov_certfile.proofs.Headed.{headed}
use Rattle.ov_certfile.specs.declared.file_keys.Key.{Key}
use Rattle.ov_certfile.specs.declared.file_keys.Key.TheVariants as key
use Rattle.ov_certfile.specs.declared.fault.FileFault.{FileFault}
use Rattle.ov_certfile.specs.declared.fault.FileFault.TheVariants.{NotJson, MissingKey, UnknownKey, BadValue}
use Rattle.ov_certfile.specs.declared.fault.FileFault.TheVariants.{BadVersion, Graph, OutOfMemory}
use Rattle.ov_certfile.specs.declared.version.Version.{Version}
use Rattle.ov_certfile.specs.declared.version.Version.TheVariants.{One, Two, Three}
use Rattle.ov_certfile.specs.declared.linked_or_split.Verdict.{Verdict}
use Rattle.ov_certfile.specs.declared.reading.Filed.{Filed}
use Rattle.ov_certfile.specs.declared.reading.Listed.{Listed}

-- the fault is not out of memory
abbrev pub IsTold : FileFault → Type 0
IsTold e = ◌≢◌ {A = Result Filed FileFault} (Err e) (Err OutOfMemory)

-- the first misformed key of a list is that of a longer one
front : (keys more : List Key) (d : Data) (k : Kind) → misformed keys d ≡ Some k → misformed (keys ++ more) d ≡ Some k
front [] more d k h = absurd cc
front (key ∷ keys) more d k h =
    elim (has_form d key) as (λ (b : Bool).
    option_map (λ key. kind.BadValue (Some key)) (if b then first_failing (has_form d) keys else Some key) ≡ Some k
    → option_map (λ key. kind.BadValue (Some key)) (if b then first_failing (has_form d) (keys ++ more) else Some key)
    ≡ Some k) [ true ↦ λ e. front keys more d k e | false ↦ λ e. e ] h

-- the group is the one that is named, or all nodes
says_group : (version : Version) (d : Data) (named : Option (List ℕ)) (nodes group : List ℕ) (g : LinkGraph)
    → IsNamed version d named → group ≡ unwrap_or named nodes → nodes ≡ g.nodes → SaysGroup d version g group
says_group One d named nodes group g n q e = rw (q, n) e
says_group Two d None nodes group g n q e = absurd (let none = n.1 in cc)
says_group Two d (Some named) nodes group g n q e = n.0 ∙ ap Some (sym q)
says_group Three d None nodes group g n q e = absurd (let none = n.1 in cc)
says_group Three d (Some named) nodes group g n q e = n.0 ∙ ap Some (sym q)

-- the nodes and links that were handed over are those that were read
pub same_graph : (listed : Listed) (nodes : List ℕ) (links : List (ℕ × ℕ)) → nodes ≡ listed.nodes
    → links ≡ listed.links
    → ◌≡◌ {A = LinkGraph} (record { nodes = nodes; links = links })
    (record { nodes = listed.nodes; links = listed.links })
same_graph listed nodes links a b = rw (a, b) refl

module _ (newest version : Version) (verdict : Verdict) (d : Data) (h : IsHeaded newest version verdict d) where
  -- a bad value is the first one
  bad : (keys : List Key) → ((k : Kind) → misformed keys d ≡ Some k → misformed (keys_of version verdict) d ≡ Some k)
      → (e : FileFault) → LacksForm keys d e → IsTold e → IsFault newest d e
  bad keys whole OutOfMemory l n = absurd (n refl)
  bad keys whole (BadValue b) l n = headed newest version verdict d h ∙ whole _ l
  bad keys whole (NotJson p) l n = absurd l
  bad keys whole (MissingKey k) l n = absurd l
  bad keys whole (UnknownKey at v w) l n = absurd l
  bad keys whole (BadVersion v) l n = absurd l
  bad keys whole (Graph f) l n = absurd l

  pub count_told : (e : FileFault) → IsBadAt key.K (said count_in (codes "k") d ≡ None) e → IsTold e
      → IsFault newest d e
  count_told OutOfMemory l n = absurd (n refl)
  count_told (BadValue b) l n = headed newest version verdict d h ∙ rw (l.1, l.0) refl
  count_told (NotJson p) l n = absurd l
  count_told (MissingKey k) l n = absurd l
  count_told (UnknownKey at v w) l n = absurd l
  count_told (BadVersion v) l n = absurd l
  count_told (Graph f) l n = absurd l

  pub listed_told : (k : ℕ) (e : FileFault) → said count_in (codes "k") d ≡ Some k
      → LacksForm (key.Links ∷ key.Moment ∷ key.Nodes ∷ []) d e → IsTold e → IsFault newest d e
  listed_told k e c =
      bad (key.Links ∷ key.Moment ∷ key.Nodes ∷ [])
      (λ m l. rw c (front (key.Links ∷ key.Moment ∷ key.Nodes ∷ [])
      (key.Verdict ∷ key.Version ∷ (version_keys version ++ verdict_keys verdict)) d m l)) e

  -- the keys that every file has have values of their forms
  common : (k : ℕ) (listed : Listed) (more : List Key) → said count_in (codes "k") d ≡ Some k
      → IsListed version d listed
      → misformed (key.K ∷ key.Links ∷ key.Moment ∷ key.Nodes ∷ key.Verdict ∷ key.Version ∷ more) d ≡ misformed more d
  common k listed more c l = rw (c, l.links, h.version_said, l.moment, l.nodes, h.verdict_said) refl

  pub group_told : (k : ℕ) (listed : Listed) (e : FileFault) → said count_in (codes "k") d ≡ Some k
      → IsListed version d listed
      → LacksForm (version_keys version) d e → IsTold e → IsFault newest d e
  group_told k listed e c l =
      bad (version_keys version)
      (λ m f. common k listed (version_keys version ++ verdict_keys verdict) c l
      ∙ front (version_keys version) (verdict_keys verdict) d m f) e

  -- the key of the group, if there is one, has a value of its form
  grouped : (version : Version) (group : Option (List ℕ)) (more : List Key) → IsNamed version d group
      → misformed (version_keys version ++ more) d ≡ misformed more d
  grouped One group more n = refl
  grouped Two None more n = absurd (let e = n.1 in cc)
  grouped Two (Some q) more n = rw n.0 refl
  grouped Three None more n = absurd (let e = n.1 in cc)
  grouped Three (Some q) more n = rw n.0 refl

  pub cert_told : (k : ℕ) (listed : Listed) (group : Option (List ℕ)) (e : FileFault)
      → said count_in (codes "k") d ≡ Some k → IsListed version d listed → IsNamed version d group
      → LacksForm (verdict_keys verdict) d e → IsTold e → IsFault newest d e
  cert_told k listed group e c l n =
      bad (verdict_keys verdict)
      (λ m f. common k listed (version_keys version ++ verdict_keys verdict) c l
      ∙ (grouped version group (verdict_keys verdict) n ∙ f)) e

  -- all demands are met
  met : (k : ℕ) (listed : Listed) (group : Option (List ℕ)) (c : Cert) → said count_in (codes "k") d ≡ Some k
      → IsListed version d listed → IsNamed version d group → IsCert verdict k d c
      → first_unmet (demands newest d) ≡ None
  met k listed group c s l n i =
      headed newest version verdict d h
      ∙ (common k listed (version_keys version ++ verdict_keys verdict) s l
      ∙ (grouped version group (verdict_keys verdict) n ∙ i.forms))

  pub graph_told : (k : ℕ) (listed : Listed) (group : Option (List ℕ)) (c : Cert) (g : LinkGraph) (e : FileFault)
      → said count_in (codes "k") d ≡ Some k → IsListed version d listed → IsNamed version d group
      → IsCert verdict k d c
      → g ≡ record { nodes = listed.nodes; links = listed.links } → IsGraphFault version g e → IsTold e
      → IsFault newest d e
  graph_told k listed group c g OutOfMemory s l n i same j t = absurd (t refl)
  graph_told k listed group c g (Graph f) s l n i same j t = record {
    met = met k listed group c s l n i;
    version = version;
    version_said = h.version_said;
    given = g;
    graph = rw same (record { nodes = l.nodes; links = l.links });
    judged = j;
  }
  graph_told k listed group c g (NotJson p) s l n i same j t = absurd j
  graph_told k listed group c g (MissingKey m) s l n i same j t = absurd j
  graph_told k listed group c g (UnknownKey at v w) s l n i same j t = absurd j
  graph_told k listed group c g (BadValue b) s l n i same j t = absurd j
  graph_told k listed group c g (BadVersion v) s l n i same j t = absurd j

  pub says : (k : ℕ) (listed : Listed) (named : Option (List ℕ)) (c : Cert) (g given : LinkGraph) (group : List ℕ)
      → said count_in (codes "k") d ≡ Some k → IsListed version d listed → IsNamed version d named
      → IsCert verdict k d c
      → g ≡ given → given ≡ record { nodes = listed.nodes; links = listed.links } → FileGraphJudged version given None
      → group ≡ unwrap_or named listed.nodes
      → Says newest d (record { moment = listed.moment; graph = g; group = group; cert = c })
  says k listed named c g given group s l n i e same j q = record {
    met = met k listed named c s l n i;
    version = version;
    version_said = h.version_said;
    graph = rw (e, same) (record { nodes = l.nodes; links = l.links });
    judged = subst (λ g. FileGraphJudged version g None) (sym e) j;
    moment = rw (h.version_said, l.moment) refl;
    group = says_group version d named listed.nodes group g n q (rw (e, same) refl);
    cert = i.says h.verdict_said s;
  }
