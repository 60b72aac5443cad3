-- Cores that are the same but for the paths of certificates.
use Rattle.std.specs.Prelude.{◌≡◌, List, [], ◌∷◌}
use Rattle.ov_even.specs.Theorems.{AreAlike}
use Rattle.ov_snap.specs.CoreState.{CoreState}
use Rattle.ov_snap.specs.ReportState.{ReportState}

-- two reports are about the same moment, graph and group, and their certificates have the same number, cut, near, far
-- and side: only their paths may differ
pub record SayTheSame (r s : ReportState) : Type 0 where
  pub moment : r.moment ≡ s.moment
  pub graph : r.graph ≡ s.graph
  pub members : r.members ≡ s.members
  pub certificates : AreAlike r.cert s.cert

-- the same of two lists of reports, place by place
abbrev pub AllSayTheSame : List ReportState → List ReportState → Type 0
AllSayTheSame [] [] = Unit {0}
AllSayTheSame (r ∷ rs) (s ∷ ss) = SayTheSame r s × AllSayTheSame rs ss
AllSayTheSame rs ss = ⊥

-- two cores have the same world, so the same nodes, packets and journal, the same snapshots and desks, and reports that
-- say the same
pub record AreAlikeCores (b c : CoreState) : Type 0 where
  pub world : b.world ≡ c.world
  pub snapshots : b.snapshots ≡ c.snapshots
  pub desks : b.desks ≡ c.desks
  pub reports : AllSayTheSame b.reports c.reports
