-- What a shuffle does to the views: it samples a view, and it takes a list of ids into the passive view. After
-- HyParView (Leitão, Pereira, Rodrigues, DSN 2007). How a sample is drawn, and how `sent` is walked, are chosen here.
use Rattle.std.specs.Prelude.{◌≡◌, ℕ, ◌⊎◌, List, [], ◌∷◌, ◌++◌, length, min, MatchBool}
use Rattle.ov_ids.specs.Members.{IsApart}
use Rattle.ov_ids.specs.Sets.{IsIn, adding, without}
use Rattle.ov_words.specs.Pick.{Choice}
use Rattle.ov_views.specs.ViewsState.{ViewsState, has_passive_place, is_known}
use Rattle.ov_views.specs.Changes.{Keeps, Chosen}

-- the ids are chosen one after another, each from those of the set that were not chosen yet
abbrev pub AreChosen : List ℕ → List ℕ → List Choice → Type 0
AreChosen set [] choices = choices ≡ []
AreChosen set (x ∷ ids) choices = (rest : List Choice) × Chosen set x choices rest × AreChosen (without x set) ids rest

-- a sample of r members of the set, or of all if there are fewer, in the order of choosing
abbrev pub Samples : List ℕ → ℕ → List Choice → List ℕ → Type 0
Samples set r choices ids = (length ids ≡ min r (length set)) × AreChosen set ids choices

-- d is the first passive member in `sent`, and `left` is what follows it there
abbrev pub IsNext : List ℕ → List ℕ → ℕ → List ℕ → Type 0
IsNext passive sent d left =
    (passed : List ℕ) × IsApart passive passed × IsIn passive d × (sent ≡ passed ++ d ∷ left)

-- the passive member d is given up: the first one in `sent`, or a random one if `sent` has none. `left` is what is left
-- of `sent`
abbrev pub GivesUp : List ℕ → List ℕ → ℕ → List ℕ → List Choice → Type 0
GivesUp passive sent d left choices =
    (IsNext passive sent d left × (choices ≡ []))
    ⊎ (IsApart passive sent × Chosen passive d choices [] × (left ≡ []))

-- x enters the passive view, unless it is known. If that view is full, a member d is given up for it. `left` is what is
-- left of `sent`
abbrev pub TakesIn : ViewsState → ℕ → List ℕ → List Choice → ViewsState → List ℕ → Type 0
TakesIn v x sent choices w left =
    MatchBool (is_known v x) (Keeps v choices w × (left ≡ sent))
    (MatchBool (has_passive_place v)
    (Keeps (record v { passive = adding x v.passive }) choices w × (left ≡ sent))
    ((d : ℕ) × GivesUp v.passive sent d left choices
    × (w ≡ record v { passive = adding x (without d v.passive) })))

-- the ids of the list are taken in, one after another. u are the views, and `left` what is left of `sent`, after the
-- first
abbrev pub Integrates : ViewsState → List ℕ → List ℕ → List Choice → ViewsState → Type 0
Integrates v [] sent choices w = Keeps v choices w
Integrates v (x ∷ ids) sent choices w =
    (u : ViewsState) × (left : List ℕ) × (first : List Choice) × (rest : List Choice) × TakesIn v x sent first u left
    × Integrates u ids left rest w × (choices ≡ first ++ rest)
