-- How many neighbours there are.
use Rattle.std.proofs.Common.{◌≢◌, ℕ, false, ◌+◌, ◌≤◌, List, [], ◌∷◌, length, refl, sym, subst, ◌∙◌, eqb, arith}
use Rattle.std.proofs.lemmas.Bool.{eq-eqb, both_ways, or_left, or_right}
use Rattle.ov_ids.specs.Sets.{IsSet, IsIn, has, without}
use Rattle.ov_ids.proofs.Sets.{IsIn-kept, has_below_all, length-without_less}
use Rattle.ov_plum.specs.PlumState.{AreBranches}
use Rattle.ov_peer.specs.PeerState.{PeerState, IsPeer}

first_in : (x : ℕ) (xs : List ℕ) → IsIn (x ∷ xs) x
first_in x xs = or_left (eqb x x) _ (eq-eqb x x refl)

-- the first of a set is none of the others
first_apart : (x : ℕ) (xs : List ℕ) (z : ℕ) → IsSet (x ∷ xs) → IsIn xs z → z ≢ x
first_apart x xs z s h e = both_ways _ (has_below_all x xs s.0) (subst (IsIn xs) e h)

-- two sets apart within a third have no more members than that
pub within : (xs ys all : List ℕ) → IsSet xs → IsSet ys → ((z : ℕ) → IsIn xs z → ¬ IsIn ys z)
    → ((z : ℕ) → IsIn xs z → IsIn all z) → ((z : ℕ) → IsIn ys z → IsIn all z)
    → length xs + length ys ≤ length all
within [] [] all s t apart p q = omega arith
within [] (y ∷ ys) all s t apart p q =
    let later = within [] ys (without y all) s t.1 (λ z h. absurd (both_ways false refl h))
    (λ z h. absurd (both_ways false refl h))
    (λ z h. IsIn-kept y all z (first_apart y ys z t h) (q z (or_right (eqb y z) _ h))) in
    omega (arith, later, length-without_less y all (q y (first_in y ys)))
within (x ∷ xs) ys all s t apart p q =
    let later = within xs ys (without x all) s.1 t (λ z h. apart z (or_right (eqb x z) _ h))
    (λ z h. IsIn-kept x all z (first_apart x xs z s h) (p z (or_right (eqb x z) _ h)))
    (λ z h. IsIn-kept x all z (λ e. apart x (first_in x xs) (subst (IsIn ys) e h)) (q z h)) in
    omega (arith, later, length-without_less x all (p x (first_in x xs)))

-- a node has no more neighbours than active members
pub neighbours_fit : (p : PeerState) → IsPeer p → AreBranches p.tree.branches
    → length p.tree.branches.eager + length p.tree.branches.lazy ≤ length p.hyparview.views.active
neighbours_fit p w b =
    within p.tree.branches.eager p.tree.branches.lazy p.hyparview.views.active b.eager_set b.lazy_set b.apart
    (λ z h. sym (w.neighbours z) ∙ or_left _ _ h)
    (λ z h. sym (w.neighbours z) ∙ or_right (has p.tree.branches.eager z) _ h)
