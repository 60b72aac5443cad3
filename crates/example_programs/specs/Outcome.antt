-- What drivers leave of a world, in whatever order they stepped it.
use Rattle.std.specs.Prelude.{◌≡◌, ℕ, ◌<◌, List, length, Option, Some, None}
use Rattle.ov_ids.specs.Members.{Has}
use Rattle.ov_graph.specs.Links.{LinkGraph}
use Rattle.ov_graph.specs.Joined.{FewestForGroup}
use Rattle.ov_cert.specs.Valid.{k_of}
use Rattle.ov_net.specs.Journal.{AreLinks}
use Rattle.ov_net.specs.declared.journal_entry_and_changes.Entry.{Entry}
use Rattle.ov_snap.specs.CoreState.{CoreState, HasReport}
use Rattle.ov_snap.specs.ReportState.{ReportState}
use Rattle.ov_snap.specs.Parts.{Each}
use Rattle.ov_hall.specs.declared.core_shared_by_drivers.Gathered.{Gathered}

-- k is the fewest nodes whose crash parts two members of q, by the links that both ends held at moment m; or one less
-- than their number, if every two were linked
pub record IsFewestAt (journal : List Entry) (m : ℕ) (q : List ℕ) (k : ℕ) : Type 0 where
  pub graph : LinkGraph
  pub links : AreLinks journal m graph
  pub fewest : FewestForGroup graph q k

-- each of so many things has its driver, one of n
abbrev pub HaveDrivers : ℕ → ℕ → List ℕ → Type 0
HaveDrivers n count drivers = (length drivers ≡ count) × Each (λ d. d < n) drivers

-- the number of each report is the fewest crashes for its moment and its group; and each entry of the journal, and each
-- report, has its driver, one of n
pub record IsOutcome (n : ℕ) (all : Gathered) : Type 0 where
  pub reports : (r : ReportState) → Has all.core.reports r
      → IsFewestAt all.core.world.journal r.moment r.members (k_of r.cert)
  pub makers : HaveDrivers n (length all.core.world.journal) all.entry_drivers.items
  pub filers : HaveDrivers n (length all.core.reports) all.report_drivers.items

-- what the report on q at moment m tells: the fewest crashes, or None if no such report is filed
abbrev pub IsTold : CoreState → ℕ → List ℕ → Option ℕ → Type 0
IsTold b m q (Some k) = IsFewestAt b.world.journal m q k
IsTold b m q None = (r : ReportState) → ¬ HasReport b m q r
