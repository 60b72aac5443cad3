-- What a call tells of the pass that was handed in, and of the one that is given back.
use Rattle.std.proofs.Common.{◌≡◌, ℕ, List, [], ◌∷◌, ◌++◌, true, false, refl, sym, ap, ◌∙◌, subst}
use Rattle.ov_ids.specs.ParamsState.{ParamsState}
use Rattle.ov_net.specs.declared.event.Event.{Event}
use Rattle.ov_net.specs.declared.journal_entry_and_changes.Entry.{Entry}
use Rattle.ov_snap.specs.CoreState.{CoreState}
use Rattle.ov_snap.specs.Filing.{WasFiled}
use Rattle.ov_snap.specs.ReportState.{ReportState}
use Rattle.ov_snap.specs.Run.{Happened}
use Rattle.ov_snap.specs.Logs.{Begins, core_made, mark}
use Rattle.ov_hall.specs.Passes.{AllBegin, having_seen}
use Rattle.ov_snap.specs.DriverSteps.{HasFiled, HasLooked, HasStepped, ticket}
use Rattle.ov_hall.specs.Code.Rules.{first_of}
use Rattle.ov_snap.specs.declared.ghost_log_of_drivers.Mark.{Mark}
use Rattle.ov_snap.specs.declared.ghost_log_of_drivers.Ticket.{Ticket}

-- the seat of a pass: ts before the call, us after it; p is the pass that was handed in, and the log was old
pub record IsPassCall (d : ℕ) (ts us : List Ticket) (p : Ticket) (old new : List Mark) : Type 0 where
  pub one : ts ≡ ticket d (first_of ts).seen ∷ []
  pub handed : first_of ts ≡ p
  pub began : AllBegin ts old
  pub seen : us ≡ having_seen new ts

module _ (d : ℕ) (ts us : List Ticket) (p : Ticket) (old new : List Mark) (h : IsPassCall d ts us p old new) where
  -- the pass that was handed in
  pub is_handed : ticket d (first_of ts).seen ≡ p
  is_handed = sym (ap first_of h.one) ∙ h.handed

  -- the pass that is given back
  pub given_back : first_of us ≡ ticket d new
  given_back = ap first_of (h.seen ∙ ap (having_seen new) h.one)

  between : Begins d (first_of ts).seen old
  between = (subst (λ l. AllBegin l old) h.one h.began).0

  pub looked : new ≡ old → HasLooked p (first_of us)
  looked same =
      subst (λ q. HasLooked q (first_of us)) is_handed
      (subst (λ r. HasLooked (ticket d (first_of ts).seen) r) (sym given_back)
      (refl, subst (Begins d (first_of ts).seen) (sym same) between))

  pub stepped : (params : ParamsState) (what : Event) (words : List ℕ) (e : Entry)
      → (u : CoreState) × Happened (core_made params old) what words e u × (new ≡ old ++ mark d false u ∷ [])
      → HasStepped params p what words e (first_of us)
  stepped params what words e s =
      subst (λ q. HasStepped params q what words e (first_of us)) is_handed (record {
        before = old;
        between = between;
        core = s.0;
        happened = s.1;
        after = given_back ∙ ap (ticket d) s.2;
      })

  pub filed : (params : ParamsState) (r : ReportState)
      → (u : CoreState) × WasFiled (core_made params old) r u × (new ≡ old ++ mark d true u ∷ [])
      → HasFiled params p r (first_of us)
  filed params r s =
      subst (λ q. HasFiled params q r (first_of us)) is_handed (record {
        before = old;
        between = between;
        core = s.0;
        filed = s.1;
        after = given_back ∙ ap (ticket d) s.2;
      })

  -- what holds of the log before a refusal holds of what the pass has seen after it
  pub judged : (P : List Mark → Type 0) → new ≡ old → P old → P (first_of us).seen
  judged P same holds = subst P (sym (ap (λ t. t.seen) given_back ∙ same)) holds
