-- What a hall keeps of its log: the core that it makes, and which driver made which entry and which report.
use Rattle.std.specs.Prelude.{◌≡◌, ℕ, ◌<◌, List, length}
use Rattle.ov_ids.specs.ParamsState.{ParamsState}
use Rattle.ov_ids.specs.Members.{Has}
use Rattle.ov_snap.specs.CoreState.{CoreState}
use Rattle.ov_snap.specs.Logs.{IsLog, core_made, entry_drivers, report_drivers}
use Rattle.ov_snap.specs.Parts.{Each}
use Rattle.ov_snap.specs.ReportState.{IsTrueReport, ReportState}
use Rattle.ov_snap.specs.declared.ghost_log_of_drivers.Mark.{Mark}

-- What is exact of a core and its two lists of drivers. What each filed report says is true. Each entry of the journal
-- has a driver, and each report has one, in order; all of them are drivers of the hall
pub record IsExact (n : ℕ) (b : CoreState) (entries reports : List ℕ) : Type 0 where
  pub is_true : (r : ReportState) → Has b.reports r → IsTrueReport b.world.journal r
  pub makers : length entries ≡ length b.world.journal
  pub filers : length reports ≡ length b.reports
  pub makers_below : Each (λ d. d < n) entries
  pub filers_below : Each (λ d. d < n) reports

-- what the lock keeps: the core is the one that the log makes, the two lists name those who made its entries and its
-- reports, and all this is exact
pub record IsHistory (params : ParamsState) (n : ℕ) (log : List Mark) (b : CoreState) (entries reports : List ℕ)
    : Type 0 where
  pub core : b ≡ core_made params log
  pub log_is : IsLog params n log
  pub entries_are : entries ≡ entry_drivers log
  pub reports_are : reports ≡ report_drivers log
  pub exact : IsExact n b entries reports
