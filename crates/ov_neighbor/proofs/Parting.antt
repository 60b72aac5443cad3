-- An attempt that begins where an active member sends DISCONNECT.
use Rattle.std.proofs.Common.{◌≡◌, ℕ, true, false, eqb, not, ◌||◌, List, [], ◌++◌, refl}
use Rattle.ov_ids.proofs.Cases.{where_true, where_false}
use Rattle.ov_ids.specs.Sets.{has}
use Rattle.ov_wire.specs.declared.message.Message.{Message}
use Rattle.ov_words.specs.Pick.{Choice}
use Rattle.ov_views.specs.ViewsState.{ViewsState}
use Rattle.ov_views.specs.Changes.{AddsPassive, RemovesActive}
use Rattle.ov_views.specs.NeighborRows.{AttemptState, AllowedDisconnect, GoesOnAsking, starts_attempt}
use Rattle.ov_views.specs.declared.change.ViewChange.{ViewChange}

-- s was active and goes down, u are the views without it, and the rule starts an attempt: the node draws for its
-- passive view first, and then for the attempt
pub attempt_starts : (v : ViewsState) (a : AttemptState) (s : ℕ) (u : ViewsState) (first next : List Choice)
    (w : ViewsState) (b : AttemptState) (changes : List ViewChange) (sends : List (ℕ × Message)) →
    eqb s v.me ≡ false → has v.active s ≡ true → RemovesActive v s u changes →
    starts_attempt v.params.refill u ≡ true → AddsPassive u s first w → GoesOnAsking w [] next b sends →
    AllowedDisconnect v a s (first ++ next) w b changes sends
attempt_starts v a s u first next w b changes sends other active gone starts adds asks =
    let here : (eqb s v.me || not (has v.active s)) ≡ false = rw (other, active) refl in
    where_false _ _ _ here (u, gone, where_true _ _ _ starts (first, next, refl, adds, asks))
