-- Logs of several drivers of one core: their steps, and where a log goes on.
use Rattle.std.proofs.Common.{◌≡◌, ℕ, Bool, List, [], ◌∷◌, ◌++◌, MatchBool, refl}
use Rattle.ov_net.specs.declared.event.Event.{Event}
use Rattle.ov_net.specs.declared.journal_entry_and_changes.Entry.{Entry}
use Rattle.ov_snap.specs.CoreState.{CoreState}
use Rattle.ov_snap.specs.Filing.{WasFiled}
use Rattle.ov_snap.specs.Logs.{AreSteps, core_after}
use Rattle.ov_snap.specs.ReportState.{ReportState}
use Rattle.ov_snap.specs.Run.{Happened}
use Rattle.ov_snap.specs.declared.ghost_log_of_drivers.Mark.{Mark}

-- a step, for a mark whose kind is said
abbrev pub Steps : Bool → CoreState → CoreState → Type 0
Steps filed b u =
    MatchBool filed
    ((r : ReportState) × WasFiled b r u)
    ((what : Event) × (words : List ℕ) × (e : Entry) × Happened b what words e u)

-- a log is its first marks, and then the others from the core that these make
pub core_append : (b : CoreState) (xs ys : List Mark) → core_after b (xs ++ ys) ≡ core_after (core_after b xs) ys
core_append b [] ys = refl
core_append b (x ∷ xs) ys = core_append x.after xs ys

pub steps_behind : (b : CoreState) (xs ys : List Mark) → AreSteps b (xs ++ ys) → AreSteps (core_after b xs) ys
steps_behind b [] ys a = a
steps_behind b (x ∷ xs) ys a = steps_behind x.after xs ys a.1
