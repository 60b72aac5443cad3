-- Passes that come back in order are of the same drivers.
use Rattle.std.proofs.Common.{◌≡◌, ℕ, suc, ◌<◌, List, [], ◌∷◌, length, map, slice_index_or, arith, refl}
use Rattle.ov_snap.specs.declared.ghost_log_of_drivers.Ticket.{Ticket}

pub same_drivers : (ps qs : List Ticket) → length qs ≡ length ps
    → ((k : ℕ) (p q : Ticket) → k < length ps → (slice_index_or qs k q).driver ≡ (slice_index_or ps k p).driver)
    → map (λ (t : Ticket). t.driver) qs ≡ map (λ (t : Ticket). t.driver) ps
same_drivers [] [] long same = refl
same_drivers [] (q ∷ qs) long same = absurd (omega (arith, long))
same_drivers (p ∷ ps) [] long same = absurd (omega (arith, long))
same_drivers (p ∷ ps) (q ∷ qs) long same =
    let first : q.driver ≡ p.driver = same 0 p q (omega arith) in
    let others = same_drivers ps qs (omega (arith, long)) (λ k a b low. same (suc k) a b (omega (arith, low))) in
    λ i. first i ∷ others i
