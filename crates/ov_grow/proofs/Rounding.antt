-- Rounds of shuffles, and one act for each of several nodes.
use Rattle.std.proofs.Common.{◌≡◌, ◌<◌, ◌≤◌, ◌+◌, ℕ, zero, suc, List, [], ◌∷◌, length, drop, get_or, refl, sym}
use Rattle.std.proofs.Common.{subst, arith, drop-cons, ◌∙◌, ap}
use Rattle.ov_script.specs.declared.recordable_event.Act.{Act}
use Rattle.ov_grow.specs.Growth.{Growth, Does}
use Rattle.ov_grow.specs.Rounds.{DoesEach, Round, Rounds}
use Rattle.ov_grow.specs.declared.phase_rules.PhaseRules.{PhaseRules}

-- the act of the next of these nodes is done
pub each_more : (what : ℕ → Act) (nodes : List ℕ) (i node : ℕ) (s t u : Growth) → i < length nodes
    → node ≡ get_or nodes i 0 → Does s (what node) t → DoesEach what (drop (i + 1) nodes) t u
    → DoesEach what (drop i nodes) s u
each_more what nodes i node s t u within is did more =
    let after : i + 1 ≡ suc i = omega arith in
    subst (λ xs. DoesEach what xs s u) (sym (drop-cons nodes i 0 within))
    (t, subst (λ a. Does s (what a) t) is did, subst (λ k. DoesEach what (drop k nodes) t u) after more)

-- what is left begins with the next of these nodes
pub next_of : (nodes : List ℕ) (i node : ℕ) → i < length nodes → node ≡ get_or nodes i 0
    → drop i nodes ≡ node ∷ drop (i + 1) nodes
next_of nodes i node within is =
    let after : suc i ≡ i + 1 = omega arith in
    drop-cons nodes i 0 within ∙ (ap (λ a. a ∷ drop (suc i) nodes) (sym is) ∙ ap (λ k. node ∷ drop k nodes) after)

-- the next of these nodes is the first of what is left
pub each_next : (what : ℕ → Act) (nodes : List ℕ) (i node : ℕ) (s u : Growth) → i < length nodes
    → node ≡ get_or nodes i 0 → DoesEach what (drop i nodes) s u → DoesEach what (node ∷ drop (i + 1) nodes) s u
each_next what nodes i node s u within is each =
    subst (λ xs. DoesEach what xs s u) (next_of nodes i node within is) each

-- what is left begins with the act of the next of these nodes
pub each_begins : (what : ℕ → Act) (nodes : List ℕ) (i node : ℕ) (s u : Growth) → i < length nodes
    → node ≡ get_or nodes i 0 → DoesEach what (drop i nodes) s u → (t : Growth) × Does s (what node) t
each_begins what nodes i node s u within is each =
    let (t, did, more) = each_next what nodes i node s u within is each in (t, did)

-- a round more
pub rounds_more : (rules : PhaseRules) (n m : ℕ) (s t u : Growth) → n ≡ suc m → Round rules s t → Rounds rules m t u
    → Rounds rules n s u
rounds_more rules n m s t u one round rounds = subst (λ k. Rounds rules k s u) (sym one) (t, round, rounds)

-- rounds begin with a round
pub rounds_begin : (rules : PhaseRules) (n m : ℕ) (s u : Growth) → n ≡ suc m → Rounds rules n s u
    → (t : Growth) × Round rules s t
rounds_begin rules n m s u one rounds =
    let (t, round, more) = subst (λ k. Rounds rules k s u) one rounds in (t, round)

pub rounds_end : (rules : PhaseRules) (n : ℕ) (s : Growth) → n ≡ 0 → Rounds rules n s s
rounds_end rules n s none = subst (λ k. Rounds rules k s s) (sym none) refl

-- nothing is left of a list past its end
pub drop_past : {X : Type 0} (xs : List X) (i : ℕ) → length xs ≤ i → drop i xs ≡ []
drop_past [] zero past = refl
drop_past [] (suc i) past = refl
drop_past (x ∷ xs) zero past = absurd (omega (arith, past))
drop_past (x ∷ xs) (suc i) past = drop_past xs i (omega (arith, past))

-- no node is left
pub each_end : (what : ℕ → Act) (nodes : List ℕ) (i : ℕ) (s : Growth) → length nodes ≤ i
    → DoesEach what (drop i nodes) s s
each_end what nodes i s past = subst (λ xs. DoesEach what xs s s) (sym (drop_past nodes i past)) refl
