-- The step of a handler, which is handed only some parts of HyParView's state: the step is allowed whatever the other
-- parts are. Its choices are drawn from the random words before it, and it leaves those after it. v are the views
-- before the step and w those after, a and b the attempt, s and t the list of the last shuffle.
use Rattle.std.specs.Prelude.{ℕ, List}
use Rattle.ov_words.specs.Pick.{Drawn}
use Rattle.ov_views.specs.ViewsState.{ViewsState}
use Rattle.ov_views.specs.NeighborRows.{AttemptState}
use Rattle.ov_views.specs.Allowed.{HyParViewState, HyParViewInput, Allowed}
use Rattle.ov_views.specs.declared.step_effects.Moves.{Moves}

-- how many random words must be left before a handler draws: chosen here. No handler draws more than 17
abbrev pub step_words : ℕ
step_words = 40

-- the most messages that a handler sends: DISCONNECT, JOINED, and FORWARDJOIN to 15 other active members
abbrev pub step_sends : ℕ
step_sends = 17

-- a handler that is handed the views alone
abbrev pub ViewsStep : ViewsState → List ℕ → HyParViewInput → ViewsState → List ℕ → Moves → Type 0
ViewsStep v before input w after moves =
    Drawn before after (λ choices. (n : HyParViewState) → Allowed (record n { views = v }) input choices
    (record n { views = w }) moves.changes.items moves.sends.items)

-- a handler that is handed the views and the attempt
abbrev pub AttemptStep :
    ViewsState → AttemptState → List ℕ → HyParViewInput → ViewsState → AttemptState → List ℕ → Moves → Type 0
AttemptStep v a before input w b after moves =
    Drawn before after (λ choices. (n : HyParViewState) → Allowed (record n { views = v; attempt = a }) input choices
    (record n { views = w; attempt = b }) moves.changes.items moves.sends.items)

-- a handler that is handed the views and the list of the last shuffle
abbrev pub SentStep : ViewsState → List ℕ → List ℕ → HyParViewInput → ViewsState → List ℕ → List ℕ → Moves → Type 0
SentStep v s before input w t after moves =
    Drawn before after (λ choices. (n : HyParViewState) → Allowed (record n { views = v; sent = s }) input choices
    (record n { views = w; sent = t }) moves.changes.items moves.sends.items)
