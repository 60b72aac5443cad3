-- What the passes of a hall tell of its drivers. What the calls of a hall do to a pass stands in `DriverSteps` of
-- `ov_snap`.
use Rattle.std.specs.Prelude.{◌≡◌, ◌⊎◌, ℕ, zero, suc, ◌+◌, ◌<◌, List, [], ◌∷◌, length, map}
use Rattle.std.specs.Prelude.{slice_get, Option, Some, None}
use Rattle.atomic_table.specs.Seated.{TableId}
use Rattle.ov_ids.specs.ParamsState.{ParamsState}
use Rattle.ov_net.specs.declared.journal_entry_and_changes.Entry.{Entry}
use Rattle.ov_snap.specs.CoreState.{opening_core}
use Rattle.ov_snap.specs.Parts.{Each, hit, total}
use Rattle.ov_snap.specs.DriverSteps.{ticket}
use Rattle.ov_snap.specs.Logs.{AreSteps, Begins}
use Rattle.ov_snap.specs.declared.ghost_log_of_drivers.Mark.{Mark}
use Rattle.ov_snap.specs.declared.ghost_log_of_drivers.Ticket.{Ticket}

-- which hall it is, and of how many drivers
pub record HallId : Type 0 where
  pub table : TableId
  pub drivers : ℕ

-- how many of the tickets are the driver's
abbrev pub standing_for : ℕ → List Ticket → ℕ
standing_for d ts = total (λ t. hit d t.driver) ts

-- the drivers of these tickets, after they have seen this log
abbrev pub having_seen : List Mark → List Ticket → List Ticket
having_seen log [] = []
having_seen log (t ∷ ts) = ticket t.driver log ∷ having_seen log ts

-- n drivers from d on, each of whom has seen the same
abbrev pub seen_alike : ℕ → ℕ → List Mark → List Ticket
seen_alike d zero seen = []
seen_alike d (suc n) seen = ticket d seen ∷ seen_alike (d + 1) n seen

-- what the first of the tickets has seen
abbrev pub first_seen : List Ticket → List Mark
first_seen [] = []
first_seen (t ∷ ts) = t.seen

-- what each has seen begins the log, which goes on after it with nothing of that driver
abbrev pub AllBegin : List Ticket → List Mark → Type 0
AllBegin ts log = Each (λ t. Begins t.driver t.seen log) ts

-- each ticket is of a driver of the hall, and what it has seen are steps from a core in which nothing happened
abbrev pub AreOfHall : ParamsState → ℕ → List Ticket → Type 0
AreOfHall params n ts = Each (λ t. (t.driver < n) × AreSteps (opening_core params) t.seen) ts

-- the numbers from d on, n of them
abbrev pub numbers_from : ℕ → ℕ → List ℕ
numbers_from d zero = []
numbers_from d (suc n) = d ∷ numbers_from (d + 1) n

-- these are the tickets of all n drivers, in order
abbrev pub AreDrivers : ℕ → List Ticket → Type 0
AreDrivers n ts = map (λ t. t.driver) ts ≡ numbers_from 0 n

-- the entry of this number, counted from 1, or None if the journal has none
abbrev pub IsEntryOf : List Entry → ℕ → Option Entry → Type 0
IsEntryOf journal number (Some e) = (i : ℕ) × (slice_get journal i ≡ Some e) × (number ≡ i + 1)
IsEntryOf journal number None = (number ≡ 0) ⊎ (length journal < number)
