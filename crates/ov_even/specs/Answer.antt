-- The certificate that an analysis returns for a graph and a group. The paths in it are left open: any paths that make
-- the certificate valid will do.
use Rattle.std.specs.Prelude.{◌≡◌, ℕ, ◌+◌, List, length, Result, IfOk, IfErr}
use Rattle.ov_ids.specs.FaultOrder.{IsRefusedBy}
use Rattle.ov_graph.specs.Links.{LinkGraph, AreAllLinked}
use Rattle.ov_cert.specs.State.{CheckedState}
use Rattle.ov_cert.specs.Theorems.{IsTrueForGroup}
use Rattle.ov_cert.specs.declared.cert.Cert.{Cert}
use Rattle.ov_cert.specs.declared.cert.Cert.TheVariants as cert
use Rattle.ov_cert.specs.declared.cert.Split.{Split}
use Rattle.ov_fans.specs.Pieces.{level_of}
use Rattle.ov_fans.specs.Cuts.{IsParted}
use Rattle.ov_fans.specs.declared.piece.Piece.{Piece}
use Rattle.ov_fans.specs.declared.piece_result.Parting.{Parting}
use Rattle.ov_even.specs.First.{IsFirst}
use Rattle.ov_even.specs.Faults.{GroupJudged}
use Rattle.ov_even.specs.declared.fault.AnalyseFault.{AnalyseFault}
use Rattle.ov_even.specs.declared.fault.AnalyseFault.TheVariants.{OutOfMemory}

-- the certificate has the cut, the near and far members and the side of this parting
pub record NamesParting (c : Split) (parting : Parting) : Type 0 where
  pub cut : c.cut ≡ parting.cut
  pub near : c.near ≡ parting.near
  pub far : c.far ≡ parting.far
  pub side : c.side ≡ parting.side

-- the certificate names the nearest cut of the first piece that is not good, and its number k is one less than the
-- level of that piece
pub record NamesFirstCut (g : LinkGraph) (q : List ℕ) (c : Split) : Type 0 where
  pub piece : Piece
  pub first : IsFirst g q piece
  pub level : level_of piece ≡ c.k + 1
  pub parting : Parting
  pub parted : IsParted g q piece parting
  pub names : NamesParting c parting

-- the certificate that an analysis returns: if every two members are linked, it says so, and k is one less than the
-- number of members; otherwise it names the nearest cut of the first piece that is not good
abbrev pub IsAnswer : LinkGraph → List ℕ → Cert → Type 0
IsAnswer g q (cert.Linked k) = AreAllLinked g q × (length q ≡ k + 1)
IsAnswer g q (cert.Split c) = ¬ AreAllLinked g q × NamesFirstCut g q c

-- what an analysis returns is for this graph and this group. Its certificate is the answer, and is true of the group
pub record IsCheckedAnswer (g : LinkGraph) (q : List ℕ) (c : CheckedState) : Type 0 where
  pub graph : c.graph ≡ g
  pub members : c.members ≡ q
  pub answer : IsAnswer g q c.cert
  pub fewest : IsTrueForGroup g q c.cert

-- how an analysis ends: with the answer, or with the first applicable refusal, out of memory if none applies
pub record IsAnalysed (g : LinkGraph) (q : List ℕ) (result : Result CheckedState AnalyseFault) : Type 0 where
  pub answer : IfOk result (IsCheckedAnswer g q)
  pub refused : IfErr result (IsRefusedBy OutOfMemory (GroupJudged g q))
