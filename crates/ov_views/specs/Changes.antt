-- What each operation does to the views. v are the views before it and w those after; its random choices are listed
-- in order. The operations and their purposes are HyParView's (Leitão, Pereira, Rodrigues, DSN 2007, Algorithm 1).
-- The order of their choices is chosen here.
use Rattle.std.specs.Prelude.{◌≡◌, ℕ, ◌==◌, List, [], ◌∷◌, ◌++◌, length, MatchBool}
use Rattle.ov_ids.specs.Sets.{has, IsIn, adding, without}
use Rattle.ov_words.specs.Pick.{Choice}
use Rattle.ov_views.specs.ViewsState.{ViewsState, has_place, has_passive_place, is_close, is_known}
use Rattle.ov_views.specs.declared.change.ViewChange.{ViewChange}
use Rattle.ov_views.specs.declared.change.ViewChange.TheVariants.{Up, Down}

-- nothing is chosen, and the views afterwards are these
abbrev pub Keeps : ViewsState → List Choice → ViewsState → Type 0
Keeps v choices w = (choices ≡ []) × (w ≡ v)

-- the first choice is d, a random member of the set; the other choices follow
abbrev pub Chosen : List ℕ → ℕ → List Choice → List Choice → Type 0
Chosen set d choices rest = IsIn set d × (choices ≡ record { from = set; member = d } ∷ rest)

-- x enters the passive view, unless it is known. If that view is full, a random member d goes out
abbrev pub AddsPassive : ViewsState → ℕ → List Choice → ViewsState → Type 0
AddsPassive v x choices w =
    MatchBool (is_known v x) (Keeps v choices w)
    (MatchBool (has_passive_place v)
    (Keeps (record v { passive = adding x v.passive }) choices w)
    ((d : ℕ) × Chosen v.passive d choices []
    × (w ≡ record v { passive = adding x (without d v.passive) })))

-- A random active member d goes down and then enters the passive view. If nobody is active, nothing happens
abbrev pub DropsRandom : ViewsState → List Choice → ViewsState → List ViewChange → Type 0
DropsRandom v choices w changes =
    MatchBool (length v.active == 0) (Keeps v choices w × (changes ≡ []))
    ((d : ℕ) × (rest : List Choice) × Chosen v.active d choices rest
    × AddsPassive (record v { active = without d v.active }) d rest w
    × (changes ≡ Down d ∷ []))

-- if no place is free in the active view, a random member is dropped
abbrev pub MakesRoom : ViewsState → List Choice → ViewsState → List ViewChange → Type 0
MakesRoom v choices w drops =
    MatchBool (has_place v) (Keeps v choices w × (drops ≡ [])) (DropsRandom v choices w drops)

-- x becomes active and leaves the passive view, unless it is the node itself or active already. If the active view is
-- full, a random member is dropped first. u are the views once a place is free
abbrev pub AddsActive : ViewsState → ℕ → List Choice → ViewsState → List ViewChange → Type 0
AddsActive v x choices w changes =
    MatchBool (is_close v x) (Keeps v choices w × (changes ≡ []))
    ((u : ViewsState) × (drops : List ViewChange)
    × MakesRoom (record v { passive = without x v.passive }) choices u drops
    × (w ≡ record u { active = adding x u.active }) × (changes ≡ drops ++ Up x ∷ []))

-- x goes down if it was active; no other node goes down
abbrev pub GoesDown : ViewsState → ℕ → List ViewChange → Type 0
GoesDown v x changes = MatchBool (has v.active x) (changes ≡ Down x ∷ []) (changes ≡ [])

-- x is taken out of the active view, if it is there
abbrev pub RemovesActive : ViewsState → ℕ → ViewsState → List ViewChange → Type 0
RemovesActive v x w changes = (w ≡ record v { active = without x v.active }) × GoesDown v x changes

-- x is taken out of the view that has it, if one has
abbrev pub Forgets : ViewsState → ℕ → ViewsState → List ViewChange → Type 0
Forgets v x w changes =
    (w ≡ record v { active = without x v.active; passive = without x v.passive }) × GoesDown v x changes

-- the active view after these changes
abbrev pub after_changes : List ViewChange → List ℕ → List ℕ
after_changes [] active = active
after_changes (Up x ∷ changes) active = after_changes changes (adding x active)
after_changes (Down x ∷ changes) active = after_changes changes (without x active)
