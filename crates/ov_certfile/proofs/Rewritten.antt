-- What is written for a certificate, its graph, its group and a moment reads back.
use Rattle.std.proofs.Common.{◌≡◌, ℕ, ◌<◌, ◌≤◌, ◌+◌, List, length, true, false, Bool, ◌&&◌, if◌then◌else◌, MatchBool}
use Rattle.std.proofs.Common.{Some, None, refl, sym, subst, arith, nat_lt, nat_le}
use Rattle.std.specs.Cmp.Lexicographic.{same_text}
use Rattle.std.proofs.lemmas.Grind.{common_steps}
use Rattle.std.proofs.lemmas.Bool.{leb-true, le-leb, and_parts, and_from}
use Rattle.serde_json.proofs.OnLiterals.{serde_json_on_literals}
use Rattle.ov_ids.specs.Limits.{number_limit}
use Rattle.ov_graph.specs.Links.{LinkGraph, IsGraph, IsSmall, IsWithinLimit}
use Rattle.ov_graph.proofs.EvenTest.Tested.{no_fault_found, passed}
use Rattle.ov_cert.specs.declared.cert.Cert.{Cert}
use Rattle.ov_cert.specs.declared.cert.Cert.TheVariants as cert
use Rattle.ov_cert.specs.declared.cert.Split.{Split}
use Rattle.ov_certfile.specs.Common.{are_same}
use Rattle.ov_certfile.specs.Forms.{ids_in, moment_in, last_moment, last_moment_of}
use Rattle.ov_certfile.specs.Kinds.{version_number, version_numbered, most_nodes_of, names_group}
use Rattle.ov_certfile.specs.Demands.{demands, first_unmet, FileGraphJudged}
use Rattle.ov_certfile.specs.Says.{Says}
use Rattle.ov_certfile.specs.DataOf.{whole_data, ids_data, can_say, version_for, data_in, data_of}
use Rattle.ov_certfile.specs.ReadsBack.{ReadsBack}
use Rattle.ov_certfile.specs.Code.Writing.{GraphReadsBack, CertReadsBack, GroupReadsBack, FileReadsBack}
use Rattle.ov_certfile.specs.declared.version.Version.{Version}
use Rattle.ov_certfile.specs.declared.version.Version.TheVariants.{One, Two, Three}

-- there are no more nodes than the version allows
abbrev pub IsFew : Version → LinkGraph → Type 0
IsFew version g = length g.nodes ≤ most_nodes_of version

-- a graph within the limit of the version has no fault
graph_judged : (version : Version) (g : LinkGraph) → IsGraph g → IsFew version g → FileGraphJudged version g None
graph_judged version g graph few =
    passed (most_nodes_of version) g.nodes g.links (no_fault_found (most_nodes_of version) g graph few)

-- files of this version are read where that is the newest version that is read
abbrev pub IsReadBy : Version → Version → Type 0
IsReadBy newest version = nat_le (version_number version) (version_number newest) ≡ true

one_linked_met : (newest : Version) (k m : ℕ) (g : LinkGraph) (q : List ℕ) → IsReadBy newest One → GraphReadsBack g
    → CertReadsBack (cert.Linked k) → moment_in One (whole_data m) ≡ Some m
    → first_unmet (demands newest (data_in One (cert.Linked k) g q m)) ≡ None
unfolding demands data_in serde_json_on_literals
one_linked_met newest k m g q r h c t = rw (r, c, t, h.nodes, h.links) refl

two_linked_met : (newest : Version) (k m : ℕ) (g : LinkGraph) (q : List ℕ) → IsReadBy newest Two → GraphReadsBack g
    → CertReadsBack (cert.Linked k) → GroupReadsBack Two q → moment_in Two (whole_data m) ≡ Some m
    → first_unmet (demands newest (data_in Two (cert.Linked k) g q m)) ≡ None
unfolding demands data_in serde_json_on_literals
two_linked_met newest k m g q r h c p t = rw (r, c, t, p, h.nodes, h.links) refl

three_linked_met : (newest : Version) (k m : ℕ) (g : LinkGraph) (q : List ℕ) → IsReadBy newest Three → GraphReadsBack g
    → CertReadsBack (cert.Linked k) → GroupReadsBack Three q → moment_in Three (whole_data m) ≡ Some m
    → first_unmet (demands newest (data_in Three (cert.Linked k) g q m)) ≡ None
unfolding demands data_in serde_json_on_literals
three_linked_met newest k m g q r h c p t = rw (r, c, t, p, h.nodes, h.links) refl

one_split_met : (newest : Version) (c : Split) (m : ℕ) (g : LinkGraph) (q : List ℕ) → IsReadBy newest One
    → GraphReadsBack g → CertReadsBack (cert.Split c) → moment_in One (whole_data m) ≡ Some m
    → first_unmet (demands newest (data_in One (cert.Split c) g q m)) ≡ None
unfolding demands data_in serde_json_on_literals
one_split_met newest c m g q r h b t =
    rw (r, b.0, b.1.cut, b.1.near, b.1.far, b.1.side, b.2.pairs, b.2.fans, t, h.nodes, h.links) refl

two_split_met : (newest : Version) (c : Split) (m : ℕ) (g : LinkGraph) (q : List ℕ) → IsReadBy newest Two
    → GraphReadsBack g → CertReadsBack (cert.Split c) → GroupReadsBack Two q → moment_in Two (whole_data m) ≡ Some m
    → first_unmet (demands newest (data_in Two (cert.Split c) g q m)) ≡ None
unfolding demands data_in serde_json_on_literals
two_split_met newest c m g q r h b p t =
    rw (r, b.0, b.1.cut, b.1.near, b.1.far, b.1.side, b.2.pairs, b.2.fans, p, t, h.nodes, h.links) refl

three_split_met : (newest : Version) (c : Split) (m : ℕ) (g : LinkGraph) (q : List ℕ) → IsReadBy newest Three
    → GraphReadsBack g → CertReadsBack (cert.Split c) → GroupReadsBack Three q → moment_in Three (whole_data m) ≡ Some m
    → first_unmet (demands newest (data_in Three (cert.Split c) g q m)) ≡ None
unfolding demands data_in serde_json_on_literals
three_split_met newest c m g q r h b p t =
    rw (r, b.0, b.1.cut, b.1.near, b.1.far, b.1.side, b.2.pairs, b.2.fans, p, t, h.nodes, h.links) refl

-- the group is all nodes, unless the version names it
abbrev pub IsGroupOf : Version → LinkGraph → List ℕ → Type 0
IsGroupOf version g q = MatchBool (names_group version) (Unit {0}) (q ≡ g.nodes)

-- a version has its number
numbered : (version : Version) → version_numbered (version_number version) ≡ Some version
numbered One = refl
numbered Two = refl
numbered Three = refl

-- the value of a version that names its group says the file, if it meets the demands
named_version : (newest version : Version) (c : Cert) (g : LinkGraph) (q : List ℕ) (m : ℕ) → names_group version ≡ true
    → first_unmet (demands newest (data_in version c g q m)) ≡ None
    → GraphReadsBack g → CertReadsBack c → ids_in (ids_data q) ≡ Some q → IsFew version g
    → moment_in version (whole_data m) ≡ Some m
    → Says newest (data_in version c g q m) (record { moment = m; graph = g; group = q; cert = c })
unfolding data_in serde_json_on_literals
named_version newest version (cert.Linked k) g q m named met h c p few t = record {
  met = met;
  version = version;
  version_said = rw named (numbered version);
  graph = rw named (record { nodes = h.nodes; links = h.links });
  judged = graph_judged version g h.is_graph few;
  moment = rw (named, numbered version, t) refl;
  group = rw named p;
  cert = rw named (record { verdict = refl; count = c });
}
named_version newest version (cert.Split c) g q m named met h b p few t = record {
  met = met;
  version = version;
  version_said = rw named (numbered version);
  graph = rw named (record { nodes = h.nodes; links = h.links });
  judged = graph_judged version g h.is_graph few;
  moment = rw (named, numbered version, t) refl;
  group = rw named p;
  cert = rw named (record {
    verdict = refl;
    k = b.0;
    cut = b.1.cut;
    near = b.1.near;
    far = b.1.far;
    side = b.1.side;
    pairs = b.2.pairs;
    fans = b.2.fans;
  });
}

-- the value of this version says the file
pub in_version : (newest version : Version) (c : Cert) (g : LinkGraph) (q : List ℕ) (m : ℕ) → IsReadBy newest version
    → GraphReadsBack g → CertReadsBack c → GroupReadsBack version q → IsGroupOf version g q → IsFew version g
    → moment_in version (whole_data m) ≡ Some m
    → Says newest (data_in version c g q m) (record { moment = m; graph = g; group = q; cert = c })
unfolding data_in serde_json_on_literals
in_version newest One (cert.Linked k) g q m r h c p all few t = record {
  met = one_linked_met newest k m g q r h c t;
  version = One;
  version_said = refl;
  graph = record { nodes = h.nodes; links = h.links };
  judged = graph_judged One g h.is_graph few;
  moment = t;
  group = all;
  cert = record { verdict = refl; count = c };
}
in_version newest One (cert.Split c) g q m r h b p all few t = record {
  met = one_split_met newest c m g q r h b t;
  version = One;
  version_said = refl;
  graph = record { nodes = h.nodes; links = h.links };
  judged = graph_judged One g h.is_graph few;
  moment = t;
  group = all;
  cert = record {
    verdict = refl;
    k = b.0;
    cut = b.1.cut;
    near = b.1.near;
    far = b.1.far;
    side = b.1.side;
    pairs = b.2.pairs;
    fans = b.2.fans;
  };
}
in_version newest Two (cert.Linked k) g q m r h b p all few t =
    named_version newest Two (cert.Linked k) g q m refl (two_linked_met newest k m g q r h b p t) h b p few t
in_version newest Two (cert.Split c) g q m r h b p all few t =
    named_version newest Two (cert.Split c) g q m refl (two_split_met newest c m g q r h b p t) h b p few t
in_version newest Three (cert.Linked k) g q m r h b p all few t =
    named_version newest Three (cert.Linked k) g q m refl (three_linked_met newest k m g q r h b p t) h b p few t
in_version newest Three (cert.Split c) g q m r h b p all few t =
    named_version newest Three (cert.Split c) g q m refl (three_split_met newest c m g q r h b p t) h b p few t

-- ---- the version that is written

-- a version that can say this allows the group, the number of nodes and the moment
record Allows (version : Version) (g : LinkGraph) (q : List ℕ) (m : ℕ) : Type 0 where
  group : IsGroupOf version g q
  few : IsFew version g
  within : m ≤ last_moment_of version

-- a version allows a number of nodes and a moment: there are few enough nodes, and it is not too late
limits_tested : (most last n m : ℕ) → n ≤ most → m ≤ last → (nat_le n most && nat_le m last) ≡ true
limits_tested most last n m h t = and_from (nat_le n most) (nat_le m last) (le-leb n most h) (le-leb m last t)

limits_kept : (most last n m : ℕ) → (nat_le n most && nat_le m last) ≡ true → (n ≤ most) × (m ≤ last)
limits_kept most last n m h =
    let r = and_parts (nat_le n most) (nat_le m last) h in (leb-true n most r.0, leb-true m last r.1)

said_by : (version : Version) (g : LinkGraph) (q : List ℕ) (m : ℕ) → can_say version g q m ≡ true → Allows version g q m
said_by One g q m h =
    let p = and_parts (are_same q g.nodes) _ h in
    let r = limits_kept (most_nodes_of One) (last_moment_of One) (length g.nodes) m p.1 in
    record { group = same_text q g.nodes (sym p.0); few = r.0; within = r.1 }
said_by Two g q m h =
    let r = limits_kept (most_nodes_of Two) (last_moment_of Two) (length g.nodes) m h in
    record { group = tt; few = r.0; within = r.1 }
said_by Three g q m h =
    let r = limits_kept (most_nodes_of Three) (last_moment_of Three) (length g.nodes) m h in
    record { group = tt; few = r.0; within = r.1 }

-- the version that is written is the first of three that can say this
chosen : (one two : Bool) (g : LinkGraph) (q : List ℕ) (m : ℕ) → (one ≡ true → Allows One g q m)
    → (two ≡ true → Allows Two g q m) → Allows Three g q m
    → Allows (if one then One else (if two then Two else Three)) g q m
chosen true two g q m a b c = a refl
chosen false true g q m a b c = b refl
chosen false false g q m a b c = c

ruled : (g : LinkGraph) (q : List ℕ) (m : ℕ) → IsWithinLimit g → m ≤ last_moment_of Three
    → Allows (version_for g q m) g q m
unfolding version_for
ruled g q m n t =
    chosen (can_say One g q m) (can_say Two g q m) g q m (said_by One g q m) (said_by Two g q m)
    (record { group = tt; few = n; within = t })

-- where version 2 can say this, version 3 is not written
first_two : (one two : Bool) → two ≡ true → IsReadBy Two (if one then One else (if two then Two else Three))
first_two true two h = refl
first_two false true h = refl
first_two false false h = absurd cc

read_by_three : (version : Version) → IsReadBy Three version
read_by_three One = refl
read_by_three Two = refl
read_by_three Three = refl

-- each version that can say this reads the version that is written
read_by : (newest : Version) (g : LinkGraph) (q : List ℕ) (m : ℕ) → can_say newest g q m ≡ true
    → IsReadBy newest (version_for g q m)
unfolding version_for
read_by One g q m h = rw h refl
read_by Two g q m h = first_two (can_say One g q m) (can_say Two g q m) h
read_by Three g q m h = read_by_three (version_for g q m)

pub said_by_two : (g : LinkGraph) (q : List ℕ) (m : ℕ) → IsSmall g → m ≤ last_moment → can_say Two g q m ≡ true
said_by_two g q m n t = limits_tested (most_nodes_of Two) (last_moment_of Two) (length g.nodes) m n t

pub said_by_three : (g : LinkGraph) (q : List ℕ) (m : ℕ) → IsWithinLimit g → m < number_limit
    → can_say Three g q m ≡ true
said_by_three g q m n t =
    limits_tested (most_nodes_of Three) (last_moment_of Three) (length g.nodes) m n (omega (arith, t))

pub moment_back : (version : Version) (m : ℕ) → m ≤ last_moment_of version → moment_in version (whole_data m) ≡ Some m
moment_back version m h =
    let e : nat_lt m (last_moment_of version + 1) ≡ true = grind (arith, common_steps) in rw e refl

pub reads_back : (newest version : Version) (c : Cert) (g : LinkGraph) (q : List ℕ) (m : ℕ)
    → version ≡ version_for g q m
    → FileReadsBack version c g q → m < number_limit → can_say newest g q m ≡ true → ReadsBack newest c g q m
unfolding data_of
reads_back newest version c g q m v h t s =
    let a = ruled g q m h.graph.within (omega (arith, t)) in
    let named = subst (λ w. GroupReadsBack w q) v h.named in
    record {
      says = in_version newest (version_for g q m) c g q m (read_by newest g q m s) h.graph h.cert named a.group a.few
          (moment_back (version_for g q m) m a.within);
    }
