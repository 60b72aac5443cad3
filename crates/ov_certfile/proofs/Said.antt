-- A file whose members were taken off the tokens of a text is what the text says.
use Rattle.std.proofs.Common.{◌≡◌, ◌∙◌, ◌<◌, ◌≤◌, ℕ, List, [], ◌∷◌, ◌++◌, Option, Some, None, Ok, refl, sym, ap, subst}
use Rattle.std.proofs.Common.{append-nil, unwrap_or, is_some, arith}
use Rattle.std.proofs.lemmas.Bool.{le-leb}
use Rattle.json.specs.Token.{Token}
use Rattle.json.specs.Lex.{tokens}
use Rattle.json.specs.Tree.{members_tokens}
use Rattle.serde_json.specs.Data.{Members, member}
use Rattle.serde_json.specs.Written.{members_outline}
use Rattle.ov_ids.specs.Limits.{number_limit}
use Rattle.ov_graph.specs.Links.{LinkGraph}
use Rattle.ov_cert.specs.declared.cert.Cert.TheVariants as cert
use Rattle.ov_cert.specs.declared.cert.PairPaths.{PairPaths}
use Rattle.ov_cert.specs.declared.cert.FanPaths.{FanPaths}
use Rattle.ov_certfile.specs.DataOf.{whole_data, ids_data, list_data, link_data, pair_data, fan_data}
use Rattle.ov_certfile.specs.DataOf.{data_in, cert_members, group_then}
use Rattle.ov_certfile.specs.Forms.{last_moment_of}
use Rattle.ov_certfile.specs.Kinds.{name_of, names_group, version_number}
use Rattle.ov_certfile.specs.Says.{SaysText}
use Rattle.ov_certfile.specs.Code.Writing.{GraphReadsBack, GroupReadsBack, FileReadsBack}
use Rattle.ov_certfile.specs.Code.Tokens.{TakesMembers}
use Rattle.ov_certfile.specs.Code.Content.{TakesContent, IsGraphWithin, NamedReadsBack, named_then}
use Rattle.ov_certfile.specs.Code.Content.{graph_in, group_in, filed_in}
use Rattle.ov_certfile.specs.declared.file_keys.Key.TheVariants as key
use Rattle.ov_certfile.specs.declared.version.Version.{Version}
use Rattle.ov_certfile.specs.declared.version.Version.TheVariants.{One, Two, Three}
use Rattle.ov_certfile.specs.declared.linked_or_split.Verdict.TheVariants.{Linked, Split as VerdictSplit}
use Rattle.ov_certfile.specs.declared.reading.Filed.{Filed}
use Rattle.ov_certfile.specs.declared.token_reading.Content.{Content}
use Rattle.ov_certfile.proofs.Taking.{then_taken, end_members}
use Rattle.ov_certfile.proofs.ReadAsWritten.{tokens_read}
use Rattle.ov_certfile.proofs.Rewritten.{IsGroupOf, in_version, moment_back}

-- the group that is named is that of the version
pub named_group : (version : Version) (named : Option (List ℕ)) (nodes : List ℕ) (ms : Members)
    → names_group version ≡ is_some named → group_then version (unwrap_or named nodes) ms ≡ named_then named ms
named_group version None nodes ms e = rw e refl
named_group version (Some group) nodes ms e = rw e refl

-- the members of a file with verdict linked
pub linked_taken : (version : Version) (group : Option (List ℕ)) (k moment : ℕ) (links : List (ℕ × ℕ)) (nodes : List ℕ)
    (old t u new : List Token)
    → names_group version ≡ is_some group
    → TakesMembers (λ ms. named_then group (member (name_of key.K) (whole_data k)
    (member (name_of key.Links) (list_data link_data links)
    (member (name_of key.Moment) (whole_data moment) ms)))) old t
    → TakesMembers (member (name_of key.Nodes) (ids_data nodes)) t u
    → u ≡ members_tokens (members_outline (end_members Linked version)) ++ new
    → old ≡ members_tokens (members_outline (cert_members version (cert.Linked k)
    (record { nodes = nodes; links = links }) (unwrap_or group nodes) moment)) ++ new
linked_taken version group k moment links nodes old t u new is a b e =
    (then_taken _ _ _ _ _ a b).followed (end_members Linked version) new e
    ∙ ap (λ (ms : Members). members_tokens (members_outline ms) ++ new) (sym (named_group version group nodes _ is))

-- the members of a file with verdict split
pub split_taken : (version : Version) (k : ℕ) (cut : List ℕ) (fans : List FanPaths) (far near : ℕ) (pairs : List PairPaths)
    (side : List ℕ) (group : Option (List ℕ)) (moment : ℕ) (links : List (ℕ × ℕ)) (nodes : List ℕ)
    (old first t u v w x new : List Token)
    → names_group version ≡ is_some group
    → TakesMembers (λ ms. member (name_of key.Cut) (ids_data cut) (member (name_of key.Fans)
    (list_data fan_data fans) (member (name_of key.Far) (whole_data far) ms))) old first
    → TakesMembers (λ ms. named_then group (member (name_of key.K) (whole_data k)
    (member (name_of key.Links) (list_data link_data links) (member (name_of key.Moment) (whole_data moment) ms))))
    first t
    → TakesMembers (member (name_of key.Near) (whole_data near)) t u
    → TakesMembers (member (name_of key.Nodes) (ids_data nodes)) u v
    → TakesMembers (member (name_of key.Pairs) (list_data pair_data pairs)) v w
    → TakesMembers (member (name_of key.Side) (ids_data side)) w x
    → x ≡ members_tokens (members_outline (end_members VerdictSplit version)) ++ new
    → old ≡ members_tokens (members_outline (cert_members version (cert.Split (record {
      k = k;
      cut = cut;
      near = near;
      far = far;
      side = side;
      pairs = pairs;
      fans = fans;
    }))
    (record { nodes = nodes; links = links }) (unwrap_or group nodes) moment)) ++ new
split_taken version k cut fans far near pairs side group moment links nodes old first t u v w x new is f a b d p s e =
    let last = then_taken _ _ _ _ _ b (then_taken _ _ _ _ _ d (then_taken _ _ _ _ _ p s)) in
    let rest = (then_taken _ _ _ _ _ a last).followed (end_members VerdictSplit version) new e
    ∙ ap (λ (ms : Members). members_tokens (members_outline ms) ++ new) (sym (named_group version group nodes _ is)) in
    f.followed _ new rest

group_back : (version : Version) (named : Option (List ℕ)) (nodes : List ℕ) → names_group version ≡ is_some named
    → NamedReadsBack named → GroupReadsBack version (unwrap_or named nodes)
group_back version None nodes e h = rw e tt
group_back version (Some group) nodes e h = rw e h

is_group : (version : Version) (named : Option (List ℕ)) (nodes : List ℕ) (g : LinkGraph)
    → names_group version ≡ is_some named → nodes ≡ g.nodes → IsGroupOf version g (unwrap_or named nodes)
is_group version None nodes g e same = rw e same
is_group version (Some group) nodes g e same = rw e tt

-- each moment of a version has 32 bits
few_moments : (version : Version) (m : ℕ) → m ≤ last_moment_of version → m < number_limit
few_moments One m h = omega (arith, h)
few_moments Two m h = omega (arith, h)
few_moments Three m h = omega (arith, h)

-- the members of a file, between braces, are what the text says
pub says_content : (newest : Version) (text : List ℕ) (c : Content) (f : Filed) (mid : List Token)
    → tokens text ≡ Token.begin_object ∷ mid → TakesContent newest c mid [] → IsGraphWithin c.version (graph_in c)
    → f ≡ filed_in c → SaysText newest text (Ok f)
unfolding data_in
says_content newest text c f mid begun taken graph is =
    let version = c.version in
    let g = graph_in c in
    let q = group_in c in
    let suits = taken.suits in
    let named = group_back version c.group c.nodes suits.named taken.named in
    let nodes_and_links : GraphReadsBack g =
    record { is_graph = graph.is_graph; within = graph.within; nodes = taken.nodes; links = taken.links } in
    let back : FileReadsBack version c.cert g q =
    record { graph = nodes_and_links; cert = taken.cert; named = named } in
    let lexed = begun ∙ ap (λ ts. Token.begin_object ∷ ts) (taken.members ∙ append-nil _) in
    let reads =
    tokens_read text version c.cert g q c.moment back (few_moments version c.moment suits.within) lexed in
    let read = le-leb (version_number version) (version_number newest) suits.read in
    let says = in_version newest version c.cert g q c.moment read nodes_and_links taken.cert named
    (is_group version c.group c.nodes g suits.named refl) graph.few (moment_back version c.moment suits.within) in
    subst (λ (h : Filed). SaysText newest text (Ok h)) (sym is) (record { json = rw reads says; no_json = rw reads tt })
