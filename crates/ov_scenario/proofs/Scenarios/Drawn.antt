-- The words of one event more.
use Rattle.std.proofs.Common.{◌≡◌, ℕ, List, [], ◌∷◌, ◌++◌, length, subst, refl}
use Rattle.rand_core.specs.Stream.{Stream}
use Rattle.ov_words.specs.Stream.{AreOutputs}
use Rattle.ov_scenario.specs.Draws.{AreDraws}

pub draws_more : (stream : Stream) (draws : List (List ℕ)) (left later : Stream) (words : List ℕ)
    → AreDraws stream draws left → AreOutputs left words later → length words ≡ 64
    → AreDraws stream (draws ++ words ∷ []) later
draws_more stream [] left later words same outputs count =
    (count, (later, subst (λ s. AreOutputs s words later) same outputs, refl))
draws_more stream (first ∷ draws) left later words before outputs count =
    (before.0, (before.1.0, before.1.1, draws_more before.1.0 draws left later words before.1.2 outputs count))
