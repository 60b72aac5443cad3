-- Reports of analyses that are kept, so that later analyses share their certificates.
use Rattle.std.specs.Prelude.{◌≡◌, ℕ, List, take}
use Rattle.ov_graph.specs.Links.{LinkGraph}
use Rattle.ov_even.specs.Answer.{IsAnswer}
use Rattle.ov_snap.specs.ReportState.{ReportState}

-- the report has the answer of an analysis of its graph for its group
abbrev pub HasAnswer : ReportState → Type 0
HasAnswer r = IsAnswer r.graph r.members r.cert

-- the report is about the graph g and the group q
abbrev pub IsReportAbout : LinkGraph → List ℕ → ReportState → Type 0
IsReportAbout g q r = (r.graph ≡ g) × (r.members ≡ q)

-- how many reports are kept at most (chosen here)
abbrev pub most_recent : ℕ
most_recent = 64

-- the first 64 of these reports, or all if there are fewer
abbrev pub newest_reports : List ReportState → List ReportState
newest_reports rs = take most_recent rs
