-- The log of several drivers of one core: a mark for each entry and for each report, in the order in which they made
-- them. What a driver did is the step from the core before its mark to the core in the mark.
use Rattle.std.specs.Prelude.{◌≡◌, ℕ, ◌<◌, Bool, cond, List, [], ◌∷◌, ◌++◌, MatchBool}
use Rattle.ov_ids.specs.ParamsState.{ParamsState}
use Rattle.ov_net.specs.declared.event.Event.{Event}
use Rattle.ov_net.specs.declared.journal_entry_and_changes.Entry.{Entry}
use Rattle.ov_snap.specs.CoreState.{CoreState, opening_core}
use Rattle.ov_snap.specs.Filing.{WasFiled}
use Rattle.ov_snap.specs.ReportState.{ReportState}
use Rattle.ov_snap.specs.Run.{Happened}
use Rattle.ov_snap.specs.Parts.{Each, hit, total}
use Rattle.ov_snap.specs.declared.ghost_log_of_drivers.Mark.{Mark}

-- the mark of driver d, who filed a report or made an event happen, and left this core
abbrev pub mark : ℕ → Bool → CoreState → Mark
mark d filed after = record { driver = d; filed = filed; after = after }

-- the core that a log makes of the core b: the last mark's
abbrev pub core_after : CoreState → List Mark → CoreState
core_after b [] = b
core_after b (m ∷ ms) = core_after m.after ms

-- the core that a log makes of one in which nothing happened
abbrev pub core_made : ParamsState → List Mark → CoreState
core_made params log = core_after (opening_core params) log

-- what the mark says was done to the core b: a report was filed, or an event happened
abbrev pub IsStep : CoreState → Mark → Type 0
IsStep b m =
    MatchBool m.filed
    ((r : ReportState) × WasFiled b r m.after)
    ((what : Event) × (words : List ℕ) × (e : Entry) × Happened b what words e m.after)

-- each mark is a step from the core before it
abbrev pub AreSteps : CoreState → List Mark → Type 0
AreSteps b [] = Unit {0}
AreSteps b (m ∷ ms) = IsStep b m × AreSteps m.after ms

-- the drivers of the entries, in the order of the journal: a driver for each mark of an event
abbrev pub entry_drivers : List Mark → List ℕ
entry_drivers [] = []
entry_drivers (m ∷ ms) = cond m.filed (entry_drivers ms) (m.driver ∷ entry_drivers ms)

-- the drivers of the reports, in the order of filing: a driver for each mark of a report
abbrev pub report_drivers : List Mark → List ℕ
report_drivers [] = []
report_drivers (m ∷ ms) = cond m.filed (m.driver ∷ report_drivers ms) (report_drivers ms)

-- how many marks are of the driver
abbrev pub of_driver : ℕ → List Mark → ℕ
of_driver d ms = total (λ m. hit d m.driver) ms

-- each mark is of one of n drivers, which are numbered from 0
abbrev pub AreBelow : ℕ → List Mark → Type 0
AreBelow n ms = Each (λ m. m.driver < n) ms

-- a log of n drivers: each mark is of one of them, and is a step from the core before it; the first one is from a core
-- in which nothing happened
pub record IsLog (params : ParamsState) (n : ℕ) (log : List Mark) : Type 0 where
  pub steps : AreSteps (opening_core params) log
  pub below : AreBelow n log

-- all that the driver did is in what was seen: the log goes on after it, with nothing of the driver
abbrev pub Begins : ℕ → List Mark → List Mark → Type 0
Begins d seen log = (rest : List Mark) × (log ≡ seen ++ rest) × (of_driver d rest ≡ 0)
