-- What holds of every log of a hall.
use Rattle.std.specs.Prelude.{◌≡◌, ℕ, List, ◌++◌}
use Rattle.ov_ids.specs.ParamsState.{ParamsState}
use Rattle.ov_net.specs.declared.journal_entry_and_changes.Entry.{Entry}
use Rattle.ov_snap.specs.CoreState.{KeepsReports}
use Rattle.ov_hall.specs.Histories.{IsExact}
use Rattle.ov_snap.specs.Logs.{IsLog, core_made, entry_drivers, report_drivers}
use Rattle.ov_snap.specs.declared.ghost_log_of_drivers.Mark.{Mark}

-- for every log, so for what each pass has seen: the core that it makes is exact, with the drivers that the log names
abbrev pub EveryLogIsExact : Type 0
EveryLogIsExact = (params : ParamsState) (n : ℕ) (log : List Mark) → IsLog params n log
    → IsExact n (core_made params log) (entry_drivers log) (report_drivers log)

-- what the first log tells begins what the second tells: the journal and the reports, with their drivers
pub record GoesOn (params : ParamsState) (seen log : List Mark) : Type 0 where
  pub journal : (more : List Entry)
      × ((core_made params log).world.journal ≡ (core_made params seen).world.journal ++ more)
  pub reports : KeepsReports (core_made params seen) (core_made params log)
  pub makers : (more : List ℕ) × (entry_drivers log ≡ entry_drivers seen ++ more)
  pub filers : (more : List ℕ) × (report_drivers log ≡ report_drivers seen ++ more)

-- for every log, and whatever comes after it: what was seen stays
abbrev pub WhatIsSeenStays : Type 0
WhatIsSeenStays = (params : ParamsState) (n : ℕ) (seen more : List Mark) → IsLog params n (seen ++ more)
    → GoesOn params seen (seen ++ more)
