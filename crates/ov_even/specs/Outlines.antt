-- The outline of a certificate: all of it but its paths. It says the number and the cut.
use Rattle.std.specs.Prelude.{◌≡◌, ℕ, List, [], Result, IfOk, IfErr}
use Rattle.ov_ids.specs.FaultOrder.{IsRefusedBy}
use Rattle.ov_graph.specs.Links.{LinkGraph}
use Rattle.ov_cert.specs.Theorems.{IsTrueForGroup}
use Rattle.ov_cert.specs.Valid.{IsValidForGroup}
use Rattle.ov_cert.specs.declared.cert.Cert.{Cert}
use Rattle.ov_cert.specs.declared.cert.Cert.TheVariants as cert
use Rattle.ov_even.specs.Answer.{IsAnswer}
use Rattle.ov_even.specs.Faults.{GroupJudged}
use Rattle.ov_even.specs.Theorems.{AreAlike}
use Rattle.ov_even.specs.declared.fault.AnalyseFault.{AnalyseFault}
use Rattle.ov_even.specs.declared.fault.AnalyseFault.TheVariants.{OutOfMemory}

-- a certificate without paths: a split has no entries of pairs and of fans
abbrev pub HasNoPaths : Cert → Type 0
HasNoPaths (cert.Linked k) = Unit {0}
HasNoPaths (cert.Split c) = (c.pairs ≡ []) × (c.fans ≡ [])

-- a valid certificate that is the answer, and agrees with c in everything but the paths
pub record IsFullOf (g : LinkGraph) (q : List ℕ) (c full : Cert) : Type 0 where
  pub valid : IsValidForGroup g q full
  pub answer : IsAnswer g q full
  pub alike : AreAlike full c

-- the outline that an analysis returns: it is the answer without paths, and is true of the group. With some paths it is
-- a valid certificate
pub record IsOutline (g : LinkGraph) (q : List ℕ) (c : Cert) : Type 0 where
  pub answer : IsAnswer g q c
  pub no_paths : HasNoPaths c
  pub fewest : IsTrueForGroup g q c
  pub full : (full : Cert) × IsFullOf g q c full

-- how an analysis for an outline ends: with the outline, or with the first applicable refusal, out of memory if none
-- applies
pub record IsOutlined (g : LinkGraph) (q : List ℕ) (result : Result Cert AnalyseFault) : Type 0 where
  pub answer : IfOk result (IsOutline g q)
  pub refused : IfErr result (IsRefusedBy OutOfMemory (GroupJudged g q))
