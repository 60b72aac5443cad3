-- The rule of the count, over the views of all seats.
use Rattle.std.specs.Prelude.{◌≡◌, ℕ, ◌≤◌, List, [], ◌∷◌, ◌++◌, take, drop, get_or}
use Rattle.atomic_table.specs.Table.{State, Me, Step}
use Rattle.atomic_table.specs.Seated.{TableId}
use Rattle.ov_ids.specs.ParamsState.{ParamsState, params_of}
use Rattle.ov_snap.specs.Logs.{of_driver}
use Rattle.ov_hall.specs.Passes.{AllBegin, having_seen, seen_alike, standing_for}
use Rattle.ov_snap.specs.DriverSteps.{ticket}
use Rattle.ov_snap.specs.declared.ghost_log_of_drivers.Mark.{Mark}
use Rattle.ov_snap.specs.declared.ghost_log_of_drivers.Ticket.{Ticket}
use Rattle.ov_hall.specs.declared.ghost_knowledge_of_driver_seat.View.{View}

-- the name of no table
abbrev pub no_table : TableId
no_table = record { words = 0; slots = 0; views_name = 0; atom = 0; block = 0; offset = 0; slot_names = [] }

-- parameters of no core
abbrev pub no_params : ParamsState
no_params = params_of 0 0 0 0 0 0 0

-- the parts of all views
abbrev pub flat : {V A : Type 0} → (V → List A) → List V → List A
flat part [] = []
flat part (v ∷ vs) = part v ++ flat part vs

-- the logs that are kept
abbrev pub kept_all : List View → List (List Mark)
kept_all vs = flat (λ v. v.kept) vs

-- the tickets of all drivers
abbrev pub tickets_all : List View → List Ticket
tickets_all vs = flat (λ v. v.tickets) vs

-- the first of the tickets
abbrev pub first_of : List Ticket → Ticket
first_of ts = get_or ts 0 (ticket 0 [])

-- the log goes on after the old one, with marks of the drivers of these tickets alone
abbrev pub Grows : List Ticket → List Mark → List Mark → Type 0
Grows ts old log =
    (added : List Mark) × (log ≡ old ++ added) × ((x : ℕ) → standing_for x ts ≡ 0 → of_driver x added ≡ 0)

-- one seat keeps the log; each driver has one ticket at most, and what it has seen begins the log, with all that is the
-- driver's
pub record Kept (s : State (Unit {0}) View) : Type 0 where
  pub log : List Mark
  pub one_keeper : kept_all s.views ≡ log ∷ []
  pub begins : AllBegin (tickets_all s.views) log
  pub apart : (d : ℕ) → standing_for d (tickets_all s.views) ≤ 1

-- the seat that keeps this log
abbrev pub keeper : List Mark → View
keeper log = record { kept = log ∷ []; tickets = [] }

-- a seat that stands for these drivers
abbrev pub standing : List Ticket → View
standing ts = record { kept = []; tickets = ts }

-- the keeper, and these drivers beside it
abbrev pub meeting : List Mark → List Ticket → View
meeting log ts = record { kept = log ∷ []; tickets = ts }

-- at the opening: nobody has seen anything
abbrev pub opening_view : ℕ → View
opening_view n = meeting [] (seen_alike 0 n [])

-- all drivers are cut off: what stays, and what leaves
abbrev pub stays : View → View
stays v = record { kept = v.kept; tickets = [] }

abbrev pub leaves : View → View
leaves v = record { kept = []; tickets = v.tickets }

-- the first driver is cut off: the others, and that one
abbrev pub others : View → View
others v = record { kept = v.kept; tickets = drop 1 v.tickets }

abbrev pub one : View → View
one v = record { kept = []; tickets = take 1 v.tickets }

-- two seats become one, and a spent one is left
abbrev pub both : View → View → View
both v w = record { kept = v.kept ++ w.kept; tickets = v.tickets ++ w.tickets }

abbrev pub spent : View
spent = record { kept = []; tickets = [] }

-- the log that the seat keeps
abbrev pub log_in : View → List Mark
log_in v = get_or v.kept 0 []

abbrev Sat : Type 0
Sat = Me (Unit {0}) View

-- the log has become this one, and the drivers that are there have seen it
abbrev pub Written : List Mark → Step (Unit {0}) → Sat → ℕ → Sat → Type 0
Written log st v found w =
    (old : List Mark) (ts : List Ticket) → v.0 ≡ meeting old ts
    → (w.0 ≡ meeting log (having_seen log ts)) × (w.1 ≡ v.1) × AllBegin ts old
