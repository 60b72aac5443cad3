-- A core: a world with the snapshots of its links, the desks at which they are analysed, and the reports that are filed
-- of them; and what holds of every core.
use Rattle.std.specs.Prelude.{◌≡◌, ◌≢◌, ℕ, ◌≤◌, List, [], ◌++◌, length, slice_get, Some}
use Rattle.ov_ids.specs.ParamsState.{ParamsState}
use Rattle.ov_ids.specs.Members.{Has, Ordered}
use Rattle.ov_graph.specs.Links.{LinkGraph}
use Rattle.ov_net.specs.Journal.{AreLinks}
use Rattle.ov_net.specs.World.{WorldState, opening_world}
use Rattle.ov_net.specs.declared.journal_entry_and_changes.Entry.{Entry}
use Rattle.ov_even.specs.Desk.{GroupDeskState}
use Rattle.ov_even.specs.SoundDesk.{IsSoundDesk}
use Rattle.ov_snap.specs.ReportState.{ReportState, IsTrueReport}
use Rattle.ov_snap.specs.Snapshots.{IsMoment, AreSnapshots}
use Rattle.ov_snap.specs.declared.kept_snapshots.Snapshot.{Snapshot}

-- the world, the snapshots in the order of their moments, the desks in the order of opening, and the reports in the
-- order of filing
pub record CoreState : Type 0 where
  pub world : WorldState
  pub snapshots : List Snapshot
  pub desks : List GroupDeskState
  pub reports : List ReportState

-- a core in which nothing happened
abbrev pub opening_core : ParamsState → CoreState
opening_core params = record { world = opening_world params; snapshots = []; desks = []; reports = [] }

-- this report is filed, for moment m and the group q
pub record HasReport (b : CoreState) (m : ℕ) (q : List ℕ) (r : ReportState) : Type 0 where
  pub filed : Has b.reports r
  pub moment : r.moment ≡ m
  pub members : r.members ≡ q

-- this report is filed for moment m and the group of all nodes
abbrev pub HasReportOfAll : CoreState → ℕ → ReportState → Type 0
HasReportOfAll b m r = HasReport b m r.graph.nodes r

-- this is desk i, counted from 0
abbrev pub HasDesk : CoreState → ℕ → GroupDeskState → Type 0
HasDesk b i d = slice_get b.desks i ≡ Some d

-- the most desks that a core may have (chosen here)
abbrev pub most_desks : ℕ
most_desks = 65536

-- a desk of a journal: it names a moment, and is sound for the links that both ends held then
pub record IsDeskOf (journal : List Entry) (d : GroupDeskState) : Type 0 where
  pub moment : IsMoment journal d.moment
  pub graph : LinkGraph
  pub links : AreLinks journal d.moment graph
  pub sound : IsSoundDesk graph d

-- every report of the first core is in the second, at its place, and later ones follow them
abbrev pub KeepsReports : CoreState → CoreState → Type 0
KeepsReports b u = (later : List ReportState) × (u.reports ≡ b.reports ++ later)

-- what holds of every core: the snapshots are those of its journal; there are no more desks than there may be, and each
-- is one of the journal; no report is filed twice, at most one is filed for a moment and a group, and what each report
-- says is true
pub record IsSound (b : CoreState) : Type 0 where
  pub snapshots : AreSnapshots b.world.journal b.snapshots
  pub few_desks : length b.desks ≤ most_desks
  pub desks : (i : ℕ) (d : GroupDeskState) → HasDesk b i d → IsDeskOf b.world.journal d
  pub distinct : Ordered (λ r s. r ≢ s) b.reports
  pub one : (m : ℕ) (q : List ℕ) (r s : ReportState) → HasReport b m q r → HasReport b m q s → r ≡ s
  pub is_true : (r : ReportState) → Has b.reports r → IsTrueReport b.world.journal r
