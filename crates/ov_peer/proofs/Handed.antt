-- From what a handler does whatever the rest of the node is to what this node does at a message.
use Rattle.std.proofs.Common.{◌≡◌, ◌≤◌, ℕ, List, Option, None, Some, Result, Ok, Err, IfOk, IfSome, vec_len, arith}
use Rattle.std.proofs.Common.{sym, subst}
use Rattle.ov_wire.specs.Messages.{AreSendsInRange}
use Rattle.ov_wire.specs.declared.message.Body.{Body}
use Rattle.ov_words.specs.Pick.{Drawn}
use Rattle.ov_views.specs.ViewsState.{ViewsState}
use Rattle.ov_views.specs.NeighborRows.{AttemptState}
use Rattle.ov_views.specs.Allowed.{HyParViewState, Allowed, hears}
use Rattle.ov_views.specs.Handling.{ViewsStep}
use Rattle.ov_views.specs.declared.step_effects.Moves.{Moves}
use Rattle.ov_peer.specs.Code.Messages.{AreSendable}

heard : {E : Type 0} (n : HyParViewState) (from : ℕ) (body said : Body) (words left : List ℕ)
    (before after : HyParViewState → HyParViewState) (r : Result Moves E) → body ≡ said
    → IfOk r (λ m. Drawn words left (λ cs. (k : HyParViewState)
    → Allowed (before k) (hears from said) cs (after k) m.changes.items m.sends.items))
    → IfOk r (λ m. Drawn words left (λ cs. Allowed (before n) (hears from body) cs (after n) m.changes.items
    m.sends.items))
heard n from body said words left before after (Ok m) is h =
    let P : Body → Type 0 = λ b. Allowed (before n) (hears from b) h.0 (after n) m.changes.items m.sends.items in
    (h.0, h.1, subst P (sym is) (h.2 n))
heard n from body said words left before after (Err e) is h = tt

-- of a handler that is handed the views
pub with_views : {E : Type 0} (v w : ViewsState) (a : AttemptState) (sent : List ℕ) (from : ℕ) (body said : Body)
    (words left : List ℕ) (r : Result Moves E) → body ≡ said
    → IfOk r (λ m. Drawn words left (λ cs. (k : HyParViewState)
    → Allowed (record k { views = v }) (hears from said) cs (record k { views = w }) m.changes.items
    m.sends.items))
    → IfOk r (λ m. Drawn words left (λ cs. Allowed (record { views = v; attempt = a; sent = sent }) (hears from body)
    cs (record { views = w; attempt = a; sent = sent }) m.changes.items m.sends.items))
with_views v w a sent from body said words left r =
    heard (record { views = v; attempt = a; sent = sent }) from body said words left (λ k. record k { views = v })
    (λ k. record k { views = w }) r

-- of one that is handed the attempt too
pub with_attempt : {E : Type 0} (v w : ViewsState) (a b : AttemptState) (sent : List ℕ) (from : ℕ) (body said : Body)
    (words left : List ℕ) (r : Result Moves E) → body ≡ said
    → IfOk r (λ m. Drawn words left (λ cs. (k : HyParViewState)
    → Allowed (record k { views = v; attempt = a }) (hears from said) cs (record k { views = w; attempt = b })
    m.changes.items m.sends.items))
    → IfOk r (λ m. Drawn words left (λ cs. Allowed (record { views = v; attempt = a; sent = sent }) (hears from body)
    cs (record { views = w; attempt = b; sent = sent }) m.changes.items m.sends.items))
with_attempt v w a b sent from body said words left r =
    heard (record { views = v; attempt = a; sent = sent }) from body said words left
    (λ k. record k { views = v; attempt = a }) (λ k. record k { views = w; attempt = b }) r

-- of one that is handed the list of the last shuffle too
pub with_sent : {E : Type 0} (v w : ViewsState) (a : AttemptState) (sent : List ℕ) (from : ℕ) (body said : Body)
    (words left : List ℕ) (r : Result Moves E) → body ≡ said
    → IfOk r (λ m. Drawn words left (λ cs. (k : HyParViewState)
    → Allowed (record k { views = v; sent = sent }) (hears from said) cs (record k { views = w; sent = sent })
    m.changes.items m.sends.items))
    → IfOk r (λ m. Drawn words left (λ cs. Allowed (record { views = v; attempt = a; sent = sent }) (hears from body)
    cs (record { views = w; attempt = a; sent = sent }) m.changes.items m.sends.items))
with_sent v w a sent from body said words left r =
    heard (record { views = v; attempt = a; sent = sent }) from body said words left
    (λ k. record k { views = v; sent = sent }) (λ k. record k { views = w; sent = sent }) r

-- of one that hands a message on, if it does
pub walked : {E : Type 0} (v : ViewsState) (from : ℕ) (body said : Body) (words left : List ℕ)
    (r : Result (Option Moves) E) → body ≡ said
    → IfOk r (λ w. IfSome w (ViewsStep v words (hears from said) v left))
    → IfOk r (λ w. IfSome w (ViewsStep v words (hears from body) v left))
walked v from body said words left r is h =
    subst (λ (b : Body). IfOk r (λ w. IfSome w (ViewsStep v words (hears from b) v left))) (sym is) h

-- it sends one message at most, so these may be sent in one step
pub few_walked : {E : Type 0} (r : Result (Option Moves) E) → IfOk r (λ w. IfSome w (λ m. vec_len m.sends ≤ 1))
    → IfOk r (λ w. IfSome w (λ m. AreSendsInRange m.sends.items))
    → IfOk r (λ w. IfSome w (λ m. AreSendable m.sends.items))
few_walked (Ok (Some m)) few ranges = (omega (arith, few, m.sends.ok.0), ranges)
few_walked (Ok None) few ranges = tt
few_walked (Err e) few ranges = tt
