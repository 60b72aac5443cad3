-- What a valid certificate proves, in terms of the graph alone; and that each certificate has one verdict only.
use Rattle.std.specs.Prelude.{◌≡◌, ◌≢◌, ℕ, ◌+◌, List, length, Option}
use Rattle.ov_graph.specs.Links.{LinkGraph, IsGraph, AreAllLinked}
use Rattle.ov_graph.specs.Joined.{Survives, Joined, IsNodeSet, NoFewerSplit, FewestForGroup}
use Rattle.ov_cert.specs.declared.cert.Cert.{Cert}
use Rattle.ov_cert.specs.declared.cert.Cert.TheVariants as cert
use Rattle.ov_cert.specs.declared.cert.Split.{Split}
use Rattle.ov_cert.specs.declared.fault.CheckFault.{CheckFault}
use Rattle.ov_cert.specs.Valid.{IsValidForGroup, k_of}
use Rattle.ov_cert.specs.Verdict.{JudgedForGroup}

-- the cut is a set of k nodes; near and far are two members outside it; without the cut they are not joined
pub record CutSplits (g : LinkGraph) (q : List ℕ) (c : Split) : Type 0 where
  pub nodes : IsNodeSet g c.cut
  pub count : length c.cut ≡ c.k
  pub near_survives : Survives q c.cut c.near
  pub far_survives : Survives q c.cut c.far
  pub differ : c.near ≢ c.far
  pub parted : ¬ Joined g c.cut c.near c.far

-- the number k of the certificate is attained: the cut of k nodes splits the group, or every two members are linked and
-- k is one less than the number of members
abbrev pub ReachesNumber : LinkGraph → List ℕ → Cert → Type 0
ReachesNumber g q (cert.Linked k) = AreAllLinked g q × (length q ≡ k + 1)
ReachesNumber g q (cert.Split c) = CutSplits g q c

-- the certificate is true of the group: its number is attained, fewer nodes never split the group, and so its number is
-- the fewest
pub record IsTrueForGroup (g : LinkGraph) (q : List ℕ) (c : Cert) : Type 0 where
  pub reached : ReachesNumber g q c
  pub no_fewer : NoFewerSplit g q (k_of c)
  pub fewest : FewestForGroup g q (k_of c)

-- a valid certificate is true
abbrev pub ValidMeans : Type 0
ValidMeans = (g : LinkGraph) (q : List ℕ) (c : Cert) → IsValidForGroup g q c → IsTrueForGroup g q c

-- a certificate has at most one verdict: a valid certificate has no first fault, and no certificate has two first
-- faults
abbrev pub OneVerdict : Type 0
OneVerdict = (g : LinkGraph) (q : List ℕ) (c : Cert) → IsGraph g → (x y : Option CheckFault) → JudgedForGroup g q c x
    → JudgedForGroup g q c y → x ≡ y
