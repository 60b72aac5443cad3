-- A report enters a core: b is before, and u after.
use Rattle.std.specs.Prelude.{◌≡◌, [], ◌∷◌, ◌++◌, None}
use Rattle.ov_cert.specs.Valid.{IsValidForGroup}
use Rattle.ov_snap.specs.CoreState.{CoreState}
use Rattle.ov_snap.specs.ReportState.{ReportState}
use Rattle.ov_snap.specs.Refusals.{FilingJudged}

-- a report was filed: no refusal applied, its certificate is valid for its graph and group, it is the last of the
-- reports, and nothing else changed
pub record WasFiled (b : CoreState) (r : ReportState) (u : CoreState) : Type 0 where
  pub judged : FilingJudged b r None
  pub valid : IsValidForGroup r.graph r.members r.cert
  pub reports : u ≡ record b { reports = b.reports ++ r ∷ [] }
