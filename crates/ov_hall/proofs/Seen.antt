-- What a log tells of the core and of the drivers begins what each longer log tells.
use Rattle.std.proofs.Common.{◌≡◌, ℕ, Bool, true, false, cond, List, [], ◌∷◌, ◌++◌, append-nil, append_assoc}
use Rattle.std.proofs.Common.{refl, sym, ap, ◌∙◌, subst}
use Rattle.ov_net.specs.declared.journal_entry_and_changes.Entry.{Entry}
use Rattle.ov_snap.specs.CoreState.{CoreState, KeepsReports, opening_core}
use Rattle.ov_snap.specs.Logs.{AreSteps, core_after, core_made, entry_drivers, report_drivers}
use Rattle.ov_hall.specs.Theorems.{WhatIsSeenStays}
use Rattle.ov_snap.specs.declared.ghost_log_of_drivers.Mark.{Mark}
use Rattle.ov_snap.proofs.DriverLogs.{Steps, core_append, steps_behind}

maker_first : (filed : Bool) (d : ℕ) (all xs ys : List ℕ) → all ≡ xs ++ ys
    → cond filed all (d ∷ all) ≡ cond filed xs (d ∷ xs) ++ ys
maker_first true d all xs ys e = e
maker_first false d all xs ys e = ap (λ l. d ∷ l) e

pub makers_append : (xs ys : List Mark) → entry_drivers (xs ++ ys) ≡ entry_drivers xs ++ entry_drivers ys
makers_append [] ys = refl
makers_append (x ∷ xs) ys =
    maker_first x.filed x.driver (entry_drivers (xs ++ ys)) (entry_drivers xs) (entry_drivers ys) (makers_append xs ys)

filer_first : (filed : Bool) (d : ℕ) (all xs ys : List ℕ) → all ≡ xs ++ ys
    → cond filed (d ∷ all) all ≡ cond filed (d ∷ xs) xs ++ ys
filer_first true d all xs ys e = ap (λ l. d ∷ l) e
filer_first false d all xs ys e = e

pub filers_append : (xs ys : List Mark) → report_drivers (xs ++ ys) ≡ report_drivers xs ++ report_drivers ys
filers_append [] ys = refl
filers_append (x ∷ xs) ys =
    filer_first x.filed x.driver (report_drivers (xs ++ ys)) (report_drivers xs) (report_drivers ys)
    (filers_append xs ys)

-- the journal of u begins with that of b
abbrev KeepsJournal : CoreState → CoreState → Type 0
KeepsJournal b u = (more : List Entry) × (u.world.journal ≡ b.world.journal ++ more)

journal_step : (filed : Bool) (b u : CoreState) → Steps filed b u → KeepsJournal b u
journal_step true b u s =
    ([], ap (λ (x : CoreState). x.world.journal) s.1.reports ∙ sym (append-nil b.world.journal))
journal_step false b u s = (s.2 ∷ [], s.3.journal)

journal_kept : (b : CoreState) (log : List Mark) → AreSteps b log → KeepsJournal b (core_after b log)
journal_kept b [] s = ([], sym (append-nil b.world.journal))
journal_kept b (m ∷ ms) s =
    let one = journal_step m.filed b m.after s.0 in
    let all = journal_kept m.after ms s.1 in
    (one.0 ++ all.0, all.1 ∙ (ap (λ l. l ++ all.0) one.1 ∙ append_assoc b.world.journal one.0 all.0))

reports_step : (filed : Bool) (b u : CoreState) → Steps filed b u → KeepsReports b u
reports_step true b u s = (s.0 ∷ [], ap (λ (x : CoreState). x.reports) s.1.reports)
reports_step false b u s = ([], s.3.reports ∙ sym (append-nil b.reports))

reports_kept : (b : CoreState) (log : List Mark) → AreSteps b log → KeepsReports b (core_after b log)
reports_kept b [] s = ([], sym (append-nil b.reports))
reports_kept b (m ∷ ms) s =
    let one = reports_step m.filed b m.after s.0 in
    let all = reports_kept m.after ms s.1 in
    (one.0 ++ all.0, all.1 ∙ (ap (λ l. l ++ all.0) one.1 ∙ append_assoc b.reports one.0 all.0))

pub what_is_seen_stays : WhatIsSeenStays
what_is_seen_stays params n seen more h =
    let start = opening_core params in
    let behind = steps_behind start seen more h.steps in
    let same = sym (core_append start seen more) in
    record {
      journal = subst (KeepsJournal (core_made params seen)) same (journal_kept (core_made params seen) more behind);
      reports = subst (KeepsReports (core_made params seen)) same (reports_kept (core_made params seen) more behind);
      makers = (entry_drivers more, makers_append seen more);
      filers = (report_drivers more, filers_append seen more);
    }
