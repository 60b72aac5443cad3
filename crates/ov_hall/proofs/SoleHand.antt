-- What one hand that holds the passes of all drivers knows of the log.
use Rattle.std.proofs.Common.{◌≡◌, ℕ, ◌<◌, Bool, List, [], ◌∷◌, ◌++◌, sym, ap, ◌∙◌, subst}
use Rattle.ov_ids.specs.ParamsState.{ParamsState}
use Rattle.ov_net.specs.declared.event.Event.{Event}
use Rattle.ov_net.specs.declared.journal_entry_and_changes.Entry.{Entry}
use Rattle.ov_snap.specs.CoreState.{CoreState, opening_core}
use Rattle.ov_snap.specs.Filing.{WasFiled}
use Rattle.ov_snap.specs.ReportState.{ReportState}
use Rattle.ov_snap.specs.Run.{Happened}
use Rattle.ov_snap.specs.declared.ghost_log_of_drivers.Mark.{Mark}
use Rattle.ov_snap.specs.declared.ghost_log_of_drivers.Ticket.{Ticket}
use Rattle.ov_snap.specs.Logs.{AreBelow, core_made, mark}
use Rattle.ov_hall.specs.Passes.{AllBegin, first_seen, having_seen, seen_alike}
use Rattle.ov_hall.proofs.Alike.{sole_after, sole_before, sole_first, sole_seen}
use Rattle.ov_hall.proofs.Histories.{core_snoc}

-- the log before is the one that was known, and all drivers know the log after
pub exact : (n : ℕ) (ts us : List Ticket) (old new log : List Mark) → (ts ≡ seen_alike 0 n (first_seen ts)) × (0 < n)
    → first_seen ts ≡ log → AllBegin ts old → AreBelow n old → us ≡ having_seen new ts
    → (old ≡ log) × (first_seen us ≡ new) × (us ≡ seen_alike 0 n (first_seen us)) × (old ≡ first_seen ts)
exact n ts us old new log is at began low seen =
    let before = sole_before n ts old is.1 is.0 began low in
    let alike = sole_seen n ts us new is.0 seen in
    (before ∙ at, sole_first n us new is.1 alike, sole_after n us new is.1 alike, before)

-- the log after one mark more, by what it was before and by the core that it makes
pub marked : (params : ParamsState) (old log new seen : List Mark) (filed : Bool) (u : CoreState) → old ≡ log
    → seen ≡ new → new ≡ old ++ mark 0 filed u ∷ []
    → (core_made params seen ≡ u) × (seen ≡ log ++ mark 0 filed (core_made params seen) ∷ [])
marked params old log new seen filed u is at more =
    let core : core_made params seen ≡ u =
    ap (core_made params) (at ∙ more) ∙ core_snoc (opening_core params) old (mark 0 filed u) in (
      core,
      at ∙ (more ∙ (ap (λ l. l ++ mark 0 filed u ∷ []) is
          ∙ ap (λ c. log ++ mark 0 filed c ∷ []) (sym core))),
    )

pub happened_as : (a b : CoreState) (what : Event) (words : List ℕ) (e : Entry) (u w : CoreState) → a ≡ b → w ≡ u
    → Happened a what words e u → Happened b what words e w
happened_as a b what words e u w p q h =
    subst (λ x. Happened b what words e x) (sym q) (subst (λ x. Happened x what words e u) p h)

pub filed_as : (a b : CoreState) (r : ReportState) (u w : CoreState) → a ≡ b → w ≡ u → WasFiled a r u → WasFiled b r w
filed_as a b r u w p q h = subst (λ x. WasFiled b r x) (sym q) (subst (λ x. WasFiled x r u) p h)
