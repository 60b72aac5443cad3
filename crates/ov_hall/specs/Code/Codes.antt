-- Codes of marks and of tickets, so that contracts can see them as values. They say nothing else about them.
use Rattle.std.specs.Prelude.{ℕ, Bool, List, refl}
use Rattle.std.specs.Coded.{Coded, code_by, coded×, coded_ℕ, coded_bool, coded_list}
use Rattle.ov_snap.specs.CoreState.{CoreState}
use Rattle.ov_snap.specs.Code.Codes.{core_code}
use Rattle.ov_snap.specs.declared.ghost_log_of_drivers.Mark.{Mark}
use Rattle.ov_snap.specs.declared.ghost_log_of_drivers.Ticket.{Ticket}

-- a mark is the list of its parts
abbrev pub mark_code : Coded Mark
mark_code =
    code_by (ℕ × (Bool × CoreState)) (coded× coded_ℕ (coded× coded_bool core_code))
    (λ m. (m.driver, (m.filed, m.after)))
    (λ p. record { driver = p.0; filed = p.1.0; after = p.1.1 })
    (λ _. refl)

-- a log is a list of marks
abbrev pub log_code : Coded (List Mark)
log_code = coded_list mark_code

-- a ticket is the list of its parts
abbrev pub ticket_code : Coded Ticket
ticket_code =
    code_by (ℕ × List Mark) (coded× coded_ℕ log_code) (λ t. (t.driver, t.seen))
    (λ p. record { driver = p.0; seen = p.1 })
    (λ _. refl)

-- some tickets are a list
abbrev pub tickets_code : Coded (List Ticket)
tickets_code = coded_list ticket_code
