-- A step of HyParView's part is one: its input and the random words fix its choices, the state after it, the changes of
-- the active view and what is sent.
use Rattle.std.proofs.Common.{◌≡◌, ℕ, ◌-◌, Bool, true, false, List, [], ◌∷◌, ◌++◌, ◌||◌, length, refl, sym, ap, ap₂}
use Rattle.std.proofs.Common.{◌∙◌, eqb, not, Option, None, Some, subst, inl, inr}
use Rattle.std.specs.Prelude.{MatchBool}
use Rattle.ov_ids.specs.Members.{Has, IsApart}
use Rattle.ov_ids.specs.Sets.{has, IsIn, adding, without}
use Rattle.ov_ids.proofs.Members.{has_tested, has_append_right}
use Rattle.ov_wire.specs.declared.message.Message.{Message}
use Rattle.ov_wire.specs.declared.message.Body.{Body}
use Rattle.ov_wire.specs.declared.message.Body.TheVariants.{Join, ForwardJoin, Joined, Neighbor, NeighborReply}
use Rattle.ov_wire.specs.declared.message.Body.TheVariants.{Disconnect, Shuffle, ShuffleReply, Gossip, IHave, Graft}
use Rattle.ov_wire.specs.declared.message.Body.TheVariants.{Prune}
use Rattle.ov_words.specs.Pick.{Choice, AreDrawn}
use Rattle.ov_views.specs.ViewsState.{ViewsState, has_place, has_passive_place, is_close, is_known}
use Rattle.ov_views.specs.Changes.{Keeps, Chosen, AddsPassive, DropsRandom, MakesRoom, AddsActive, GoesDown}
use Rattle.ov_views.specs.Sampling.{AreChosen, IsNext, GivesUp, TakesIn, Integrates}
use Rattle.ov_views.specs.Sending.{Idles, say, farewells}
use Rattle.ov_views.specs.JoinRows.{AllowedJoin, AllowedForwardJoin, AllowedJoined, Remembers, walk_ends, walk_targets}
use Rattle.ov_views.specs.JoinRows.{forwards}
use Rattle.ov_views.specs.NeighborRows.{AttemptState, AllowedNeighbor, awaits, gives_up, untried, starts_attempt}
use Rattle.ov_views.specs.NeighborRows.{GoesOnAsking, Replies}
use Rattle.ov_views.specs.ShuffleRows.{AllowedShuffle, AllowedShuffleReply, walks_on, Starts}
use Rattle.ov_views.specs.Allowed.{HyParViewState, HyParViewInput, boots, hears, hears_of_crash, shuffles, Allowed}
use Rattle.ov_views.specs.declared.change.ViewChange.{ViewChange}
use Rattle.ov_views.specs.declared.change.ViewChange.TheVariants.{Up, Down}

-- what is made in one way of equal things is equal
pub via : {X Y : Type 0} (make : X → Y) {x x' : X} {y y' : Y} → y ≡ make x → y' ≡ make x' → x ≡ x' → y ≡ y'
via make h k e = h ∙ ap make e ∙ sym k

pub via₂ : {X Z Y : Type 0} (make : X → Z → Y) {x x' : X} {z z' : Z} {y y' : Y} → y ≡ make x z → y' ≡ make x' z'
    → x ≡ x' → z ≡ z' → y ≡ y'
via₂ make h k e f = h ∙ ap₂ make e f ∙ sym k

-- what follows of two facts, by the cases of one test
pub in_each_case : {P Q S T R : Type 0} (b : Bool) → (P → S → R) → (Q → T → R) → MatchBool b P Q → MatchBool b S T → R
in_each_case true f g h k = f h k
in_each_case false f g h k = g h k

-- both lists of choices are drawn from the first of these words
abbrev AreBothDrawn : List ℕ → List Choice → List Choice → Type 0
AreBothDrawn words c d = (left : List ℕ) × (right : List ℕ) × AreDrawn c words left × AreDrawn d words right

as_both : (words : List ℕ) (c d c' d' : List Choice) → c ≡ c' → d ≡ d' → AreBothDrawn words c d
    → AreBothDrawn words c' d'
as_both words c d c' d' e f h =
    (h.0, h.1, subst (λ x. AreDrawn x words h.0) e h.2, subst (λ x. AreDrawn x words h.1) f h.3)

-- the first of two lists of choices that are put together are drawn from the first words
front_left : (words : List ℕ) (c d : List Choice) (left : List ℕ) → AreDrawn (c ++ d) words left
    → (mid : List ℕ) × AreDrawn c words mid × AreDrawn d mid left
front_left words [] d left h = (words, refl, h)
front_left [] (x ∷ c) d left h = absurd h
front_left (w ∷ words) (x ∷ c) d left h =
    let k = front_left words c d left h.1 in (k.0, (h.0, k.1), k.2)

one_left : (words : List ℕ) (c : List Choice) (a b : List ℕ) → AreDrawn c words a → AreDrawn c words b → a ≡ b
one_left words [] a b h k = h ∙ sym k
one_left [] (x ∷ c) a b h k = absurd h
one_left (w ∷ words) (x ∷ c) a b h k = one_left words c a b h.1 k.1

fronts : (words : List ℕ) (c d c' d' : List Choice) → AreBothDrawn words (c ++ d) (c' ++ d') → AreBothDrawn words c c'
fronts words c d c' d' h =
    let a = front_left words c d h.0 h.2 in
    let b = front_left words c' d' h.1 h.3 in (a.0, b.0, a.1, b.1)

-- what follows the same choices
rests : (words : List ℕ) (c d c' d' : List Choice) → c ≡ c' → AreBothDrawn words (c ++ d) (c' ++ d')
    → (mid : List ℕ) × AreBothDrawn mid d d'
rests words c d c' d' same h =
    let a = front_left words c d h.0 h.2 in
    let b = front_left words c' d' h.1 h.3 in
    let e = one_left words c' a.0 b.0 (subst (λ x. AreDrawn x words a.0) same a.1) b.1 in
    (b.0, (h.0, h.1, subst (λ m. AreDrawn d m h.0) e a.2, b.2))

some_same : (o : Option ℕ) (a b : ℕ) → o ≡ Some a → o ≡ Some b → a ≡ b
some_same o a b h k = let e : Some a ≡ Some b = sym h ∙ k in cc

-- the same word picks the same member of one set
first_same : (words : List ℕ) (set : List ℕ) (a b : ℕ) (c d : List Choice)
    → AreBothDrawn words (record { from = set; member = a } ∷ c) (record { from = set; member = b } ∷ d)
    → (a ≡ b) × (mid : List ℕ) × AreBothDrawn mid c d
first_same [] set a b c d h = absurd h.2
first_same (w ∷ words) set a b c d h = (some_same _ a b h.2.0 h.3.0, words, (h.0, h.1, h.2.1, h.3.1))

-- one choice from a set: the member, and what follows
chosen_same : (words : List ℕ) (set : List ℕ) (a b : ℕ) (c d rest rest' : List Choice) → AreBothDrawn words c d
    → Chosen set a c rest → Chosen set b d rest' → (a ≡ b) × (mid : List ℕ) × AreBothDrawn mid rest rest'
chosen_same words set a b c d rest rest' drawn h k =
    first_same words set a b rest rest' (as_both words c d _ _ h.1 k.1 drawn)

-- the same choices, if what follows is the same
chosen_with : (set : List ℕ) (a b : ℕ) (c d rest rest' : List Choice) → Chosen set a c rest → Chosen set b d rest'
    → a ≡ b → rest ≡ rest' → c ≡ d
chosen_with set a b c d rest rest' h k e f =
    via₂ (λ x (y : List Choice). record { from = set; member = x } ∷ y) h.1 k.1 e f

-- a step of the views that only one result fits
pub record SameViews (c d : List Choice) (w u : ViewsState) : Type 0 where
  pub choices : c ≡ d
  pub views : w ≡ u

kept_same : (v : ViewsState) (c d : List Choice) (w u : ViewsState) → Keeps v c w → Keeps v d u → SameViews c d w u
kept_same v c d w u h k = record { choices = h.0 ∙ sym k.0; views = h.1 ∙ sym k.1 }

passive_same : (words : List ℕ) (v : ViewsState) (x : ℕ) (c d : List Choice) (w u : ViewsState)
    → AreBothDrawn words c d → AddsPassive v x c w → AddsPassive v x d u → SameViews c d w u
passive_same words v x c d w u drawn =
    in_each_case (is_known v x) (kept_same v c d w u)
    (in_each_case (has_passive_place v) (kept_same (record v { passive = adding x v.passive }) c d w u)
    (λ h k. let e = chosen_same words v.passive h.0 k.0 c d [] [] drawn h.1 k.1 in record {
      choices = chosen_with v.passive h.0 k.0 c d [] [] h.1 k.1 e.0 refl;
      views = via (λ z. record v { passive = adding x (without z v.passive) }) h.2 k.2 e.0;
    }))

-- a step of the views that tells changes of the active view
record SameMoves (c d : List Choice) (w u : ViewsState) (a b : List ViewChange) : Type 0 where
  choices : c ≡ d
  views : w ≡ u
  changes : a ≡ b

unmoved_same : (v : ViewsState) (c d : List Choice) (w u : ViewsState) (a b : List ViewChange)
    → Keeps v c w × (a ≡ []) → Keeps v d u × (b ≡ []) → SameMoves c d w u a b
unmoved_same v c d w u a b h k =
    record { choices = h.0.0 ∙ sym k.0.0; views = h.0.1 ∙ sym k.0.1; changes = h.1 ∙ sym k.1 }

drops_same : (words : List ℕ) (v : ViewsState) (c d : List Choice) (w u : ViewsState) (a b : List ViewChange)
    → AreBothDrawn words c d → DropsRandom v c w a → DropsRandom v d u b → SameMoves c d w u a b
drops_same words v c d w u a b drawn =
    in_each_case (eqb (length v.active) 0) (unmoved_same v c d w u a b)
    (λ h k.
    let e = chosen_same words v.active h.0 k.0 c d h.1 k.1 drawn h.2 k.2 in
    let same = passive_same e.1 (record v { active = without h.0 v.active }) h.0 h.1 k.1 w u e.2 h.3
    (subst (λ z. AddsPassive (record v { active = without z v.active }) z k.1 u) (sym e.0) k.3) in record {
      choices = chosen_with v.active h.0 k.0 c d h.1 k.1 h.2 k.2 e.0 same.choices;
      views = same.views;
      changes = via (λ z. Down z ∷ []) h.4 k.4 e.0;
    })

room_same : (words : List ℕ) (v : ViewsState) (c d : List Choice) (w u : ViewsState) (a b : List ViewChange)
    → AreBothDrawn words c d → MakesRoom v c w a → MakesRoom v d u b → SameMoves c d w u a b
room_same words v c d w u a b drawn =
    in_each_case (has_place v) (unmoved_same v c d w u a b) (drops_same words v c d w u a b drawn)

active_same : (words : List ℕ) (v : ViewsState) (x : ℕ) (c d : List Choice) (w u : ViewsState) (a b : List ViewChange)
    → AreBothDrawn words c d → AddsActive v x c w a → AddsActive v x d u b → SameMoves c d w u a b
active_same words v x c d w u a b drawn =
    in_each_case (is_close v x) (unmoved_same v c d w u a b)
    (λ h k.
    let same = room_same words (record v { passive = without x v.passive }) c d h.0 k.0 h.1 k.1 drawn h.2 k.2 in
    record {
      choices = same.choices;
      views = via (λ (z : ViewsState). record z { active = adding x z.active }) h.3 k.3 same.views;
      changes = via (λ z. z ++ Up x ∷ []) h.4 k.4 same.changes;
    })

goes_down_same : (v : ViewsState) (x : ℕ) (a b : List ViewChange) → GoesDown v x a → GoesDown v x b → a ≡ b
goes_down_same v x a b = in_each_case (has v.active x) (λ h k. h ∙ sym k) (λ h k. h ∙ sym k)

samples_same : (words : List ℕ) (set ids ids' : List ℕ) (c d : List Choice) → AreBothDrawn words c d
    → length ids ≡ length ids' → AreChosen set ids c → AreChosen set ids' d → (ids ≡ ids') × (c ≡ d)
samples_same words set [] [] c d drawn long h k = (refl, h ∙ sym k)
samples_same words set [] (y ∷ ids') c d drawn long h k = cc
samples_same words set (x ∷ ids) [] c d drawn long h k = cc
samples_same words set (x ∷ ids) (y ∷ ids') c d drawn long h k =
    let e = chosen_same words set x y c d h.0 k.0 drawn h.1 k.1 in
    let shorter : length ids ≡ length ids' = cc in
    let same = samples_same e.1 (without x set) ids ids' h.0 k.0 e.2 shorter h.2
    (subst (λ z. AreChosen (without z set) ids' k.0) (sym e.0) k.2) in
    (ap₂ (λ z (more : List ℕ). z ∷ more) e.0 same.0, chosen_with set x y c d h.0 k.0 h.1 k.1 e.0 same.1)

-- the first passive member in a list is one
next_same : (passive passed passed' : List ℕ) (x y : ℕ) (left left' : List ℕ) → IsApart passive passed
    → IsApart passive passed' → IsIn passive x → IsIn passive y → passed ++ x ∷ left ≡ passed' ++ y ∷ left'
    → (x ≡ y) × (left ≡ left')
next_same passive [] [] x y left left' a b i j e = (cc, cc)
next_same passive [] (z ∷ passed') x y left left' a b i j e =
    let f : x ≡ z = cc in
    absurd (b z (inl refl) (subst (Has passive) f ((has_tested passive x (has passive x) refl).0 i)))
next_same passive (z ∷ passed) [] x y left left' a b i j e =
    let f : y ≡ z = cc in
    absurd (a z (inl refl) (subst (Has passive) f ((has_tested passive y (has passive y) refl).0 j)))
next_same passive (z ∷ passed) (z' ∷ passed') x y left left' a b i j e =
    next_same passive passed passed' x y left left' (λ m h. a m (inr h)) (λ m h. b m (inr h)) i j cc

not_apart : (passive sent : List ℕ) (x : ℕ) (left : List ℕ) → IsNext passive sent x left → ¬ IsApart passive sent
not_apart passive sent x left h apart =
    apart x (subst (λ l. Has l x) (sym h.3) (has_append_right h.0 (x ∷ left) x (inl refl)))
    ((has_tested passive x (has passive x) refl).0 h.2)

gives_same : (words passive sent : List ℕ) (x y : ℕ) (left left' : List ℕ) (c d : List Choice) → AreBothDrawn words c d
    → GivesUp passive sent x left c → GivesUp passive sent y left' d → (x ≡ y) × (left ≡ left') × (c ≡ d)
gives_same words passive sent x y left left' c d drawn h k =
    elim h [
      | inl m ↦ elim k [
        | inl n ↦ let e = next_same passive m.0.0 n.0.0 x y left left' m.0.1 n.0.1 m.0.2 n.0.2 (sym m.0.3 ∙ n.0.3) in
            (e.0, e.1, m.1 ∙ sym n.1)
        | inr n ↦ absurd (not_apart passive sent x left m.0 n.0)
      ]
      | inr m ↦ elim k [
        | inl n ↦ absurd (not_apart passive sent y left' n.0 m.0)
        | inr n ↦ let e = chosen_same words passive x y c d [] [] drawn m.1 n.1 in
            (e.0, m.2 ∙ sym n.2, chosen_with passive x y c d [] [] m.1 n.1 e.0 refl)
      ]
    ]

record SameTaken (c d : List Choice) (w u : ViewsState) (left left' : List ℕ) : Type 0 where
  choices : c ≡ d
  views : w ≡ u
  sent : left ≡ left'

taken_same : (words : List ℕ) (v : ViewsState) (x : ℕ) (sent : List ℕ) (c d : List Choice) (w u : ViewsState)
    (left left' : List ℕ) → AreBothDrawn words c d → TakesIn v x sent c w left → TakesIn v x sent d u left'
    → SameTaken c d w u left left'
taken_same words v x sent c d w u left left' drawn =
    in_each_case (is_known v x)
    (λ h k. record { choices = h.0.0 ∙ sym k.0.0; views = h.0.1 ∙ sym k.0.1; sent = h.1 ∙ sym k.1 })
    (in_each_case (has_passive_place v)
    (λ h k. record { choices = h.0.0 ∙ sym k.0.0; views = h.0.1 ∙ sym k.0.1; sent = h.1 ∙ sym k.1 })
    (λ h k. let e = gives_same words v.passive sent h.0 k.0 left left' c d drawn h.1 k.1 in record {
      choices = e.2;
      views = via (λ z. record v { passive = adding x (without z v.passive) }) h.2 k.2 e.0;
      sent = e.1;
    }))

integrated_same : (words : List ℕ) (v : ViewsState) (ids sent : List ℕ) (c d : List Choice) (w u : ViewsState)
    → AreBothDrawn words c d → Integrates v ids sent c w → Integrates v ids sent d u → SameViews c d w u
integrated_same words v [] sent c d w u drawn h k = kept_same v c d w u h k
integrated_same words v (x ∷ ids) sent c d w u drawn h k =
    let both = as_both words c d (h.2 ++ h.3) (k.2 ++ k.3) h.6 k.6 drawn in
    let t = taken_same words v x sent h.2 k.2 h.0 k.0 h.1 k.1 (fronts words h.2 h.3 k.2 k.3 both) h.4 k.4 in
    let r = rests words h.2 h.3 k.2 k.3 t.choices both in
    let later = subst (λ z. Integrates z ids h.1 k.3 u) (sym t.views)
    (subst (λ l. Integrates k.0 ids l k.3 u) (sym t.sent) k.5) in
    let same = integrated_same r.0 h.0 ids h.1 h.3 k.3 w u r.1 h.5 later in record {
      choices = via₂ (λ (y z : List Choice). y ++ z) h.6 k.6 t.choices same.choices;
      views = same.views;
    }

-- a row that only one result fits
record SameRow (c d : List Choice) (w u : ViewsState) (a b : List ViewChange) (s t : List (ℕ × Message)) : Type 0 where
  choices : c ≡ d
  views : w ≡ u
  changes : a ≡ b
  sends : s ≡ t

idle_same : (v : ViewsState) (c d : List Choice) (w u : ViewsState) (a b : List ViewChange) (s t : List (ℕ × Message))
    → Idles v c w a s → Idles v d u b t → SameRow c d w u a b s t
idle_same v c d w u a b s t h k = record {
  choices = h.0.0 ∙ sym k.0.0;
  views = h.0.1 ∙ sym k.0.1;
  changes = h.1 ∙ sym k.1;
  sends = h.2 ∙ sym k.2;
}

-- a node becomes active, and what is sent depends on the changes and on the views then
enters_same : (words : List ℕ) (v : ViewsState) (x : ℕ) (c d : List Choice) (w u : ViewsState) (a b : List ViewChange)
    (s t : List (ℕ × Message)) (sent : List ViewChange → ViewsState → List (ℕ × Message)) → AreBothDrawn words c d
    → AddsActive v x c w a × (s ≡ sent a w) → AddsActive v x d u b × (t ≡ sent b u) → SameRow c d w u a b s t
enters_same words v x c d w u a b s t sent drawn h k =
    let e = active_same words v x c d w u a b drawn h.0 k.0 in record {
      choices = e.choices;
      views = e.views;
      changes = e.changes;
      sends = via₂ sent h.1 k.1 e.changes e.views;
    }

replied_same : (v : ViewsState) (x : ℕ) (accepted : Bool) (c d : List Choice) (w u : ViewsState) (a b : List ViewChange)
    (s t : List (ℕ × Message)) → Replies v x accepted c w a s → Replies v x accepted d u b t → SameRow c d w u a b s t
replied_same v x accepted c d w u a b s t h k = record {
  choices = h.0.0 ∙ sym k.0.0;
  views = h.0.1 ∙ sym k.0.1;
  changes = h.1 ∙ sym k.1;
  sends = h.2 ∙ sym k.2;
}

-- an attempt goes on in one way
asked_same : (words : List ℕ) (v : ViewsState) (tried : List ℕ) (c d : List Choice) (a b : AttemptState)
    (s t : List (ℕ × Message)) → AreBothDrawn words c d → GoesOnAsking v tried c a s → GoesOnAsking v tried d b t
    → (c ≡ d) × (a ≡ b) × (s ≡ t)
asked_same words v tried c d a b s t drawn =
    in_each_case (gives_up v tried) (λ h k. (h.0 ∙ sym k.0, h.1 ∙ sym k.1, h.2 ∙ sym k.2))
    (λ h k. let e = chosen_same words (untried v tried) h.0 k.0 c d [] [] drawn h.1 k.1 in (
      chosen_with (untried v tried) h.0 k.0 c d [] [] h.1 k.1 e.0 refl,
      via (λ q. record { asked = Some q; tried = adding q tried }) h.2 k.2 e.0,
      via (λ q. (q, say v.me (Neighbor (eqb (length v.active) 0))) ∷ []) h.3 k.3 e.0,
    ))

remembered_same : (words : List ℕ) (v : ViewsState) (n ttl : ℕ) (c d : List Choice) (w u : ViewsState)
    → AreBothDrawn words c d → Remembers v n ttl c w → Remembers v n ttl d u → SameViews c d w u
remembered_same words v n ttl c d w u drawn =
    in_each_case (eqb ttl v.params.prwl) (passive_same words v n c d w u drawn) (kept_same v c d w u)

started_same : (words : List ℕ) (v : ViewsState) (c d : List Choice) (list list' : List ℕ) (s t : List (ℕ × Message))
    → AreBothDrawn words c d → Starts v c list s → Starts v d list' t → (c ≡ d) × (list ≡ list') × (s ≡ t)
started_same words v c d list list' s t drawn h k =
    let e = chosen_same words v.active h.receiver k.receiver c d (h.active_choices ++ h.passive_choices)
    (k.active_choices ++ k.passive_choices) drawn h.receiver_chosen k.receiver_chosen in
    let active = samples_same e.1 v.active h.active_sample k.active_sample h.active_choices k.active_choices
    (fronts e.1 h.active_choices h.passive_choices k.active_choices k.passive_choices e.2)
    (h.active_sampled.0 ∙ sym k.active_sampled.0) h.active_sampled.1 k.active_sampled.1 in
    let r = rests e.1 h.active_choices h.passive_choices k.active_choices k.passive_choices active.1 e.2 in
    let passive = samples_same r.0 v.passive h.passive_sample k.passive_sample h.passive_choices k.passive_choices r.1
    (h.passive_sampled.0 ∙ sym k.passive_sampled.0) h.passive_sampled.1 k.passive_sampled.1 in
    let listed = via₂ (λ (x y : List ℕ). v.me ∷ (x ++ y)) h.listed k.listed active.0 passive.0 in (
      chosen_with v.active h.receiver k.receiver c d (h.active_choices ++ h.passive_choices)
          (k.active_choices ++ k.passive_choices) h.receiver_chosen k.receiver_chosen e.0
          (ap₂ (λ (x y : List Choice). x ++ y) active.1 passive.1),
      listed,
      via₂ (λ x (l : List ℕ). (x, say v.me (Shuffle v.me v.params.shuffle_ttl l)) ∷ []) h.sent k.sent e.0 listed,
    )

-- a step of HyParView's part that only one result fits
pub record SameAllowed (c d : List Choice) (m n : HyParViewState) (a b : List ViewChange) (s t : List (ℕ × Message))
    : Type 0 where
  pub choices : c ≡ d
  pub state : m ≡ n
  pub changes : a ≡ b
  pub sends : s ≡ t

of_parts : (m n : HyParViewState) → m.views ≡ n.views → m.attempt ≡ n.attempt → m.sent ≡ n.sent → m ≡ n
of_parts m n e f g = λ j. record { views = e j; attempt = f j; sent = g j }

-- nothing happens
rests_same : (n m m' : HyParViewState) (c d : List Choice) (a b : List ViewChange) (s t sends : List (ℕ × Message))
    → ((c ≡ []) × (m ≡ n) × (a ≡ [])) × (s ≡ sends) → ((d ≡ []) × (m' ≡ n) × (b ≡ [])) × (t ≡ sends)
    → SameAllowed c d m m' a b s t
rests_same n m m' c d a b s t sends h k = record {
  choices = h.0.0 ∙ sym k.0.0;
  state = h.0.1 ∙ sym k.0.1;
  changes = h.0.2 ∙ sym k.0.2;
  sends = h.1 ∙ sym k.1;
}

-- a row of the views alone
views_same : (n m m' : HyParViewState) (c d : List Choice) (a b : List ViewChange) (s t : List (ℕ × Message))
    → (m.attempt ≡ n.attempt) × (m.sent ≡ n.sent) → (m'.attempt ≡ n.attempt) × (m'.sent ≡ n.sent)
    → SameRow c d m.views m'.views a b s t → SameAllowed c d m m' a b s t
views_same n m m' c d a b s t h k row = record {
  choices = row.choices;
  state = of_parts m m' row.views (h.0 ∙ sym k.0) (h.1 ∙ sym k.1);
  changes = row.changes;
  sends = row.sends;
}

walked_same : (words : List ℕ) (v : ViewsState) (s n ttl : ℕ) (c d : List Choice) (w u : ViewsState)
    (a b : List ViewChange) (x y : List (ℕ × Message)) → AreBothDrawn words c d
    → AllowedForwardJoin v s n ttl c w a x → AllowedForwardJoin v s n ttl d u b y → SameRow c d w u a b x y
walked_same words v s n ttl c d w u a b x y drawn =
    in_each_case (eqb s v.me || eqb n v.me) (idle_same v c d w u a b x y)
    (in_each_case (walk_ends v s n ttl)
    (enters_same words v n c d w u a b x y (λ e _. farewells v.me e ++ (n, say v.me Joined) ∷ []) drawn)
    (λ h k.
    let both = as_both words c d (h.0 ++ h.1) (k.0 ++ k.1) h.3 k.3 drawn in
    let r = remembered_same words v n ttl h.0 k.0 w u (fronts words h.0 h.1 k.0 k.1 both) h.4 k.4 in
    let more = rests words h.0 h.1 k.0 k.1 r.choices both in
    let e = chosen_same more.0 (walk_targets v s n) h.2 k.2 h.1 k.1 [] [] more.1 h.5 k.5 in
    let target : h.2 ≡ k.2 = e.0 in
    let last : h.1 ≡ k.1 = chosen_with (walk_targets v s n) h.2 k.2 h.1 k.1 [] [] h.5 k.5 target refl in record {
      choices = via₂ (λ (y z : List Choice). y ++ z) {x = h.0} {x' = k.0} {z = h.1} {z' = k.1} h.3 k.3 r.choices last;
      views = r.views;
      changes = h.6 ∙ sym k.6;
      sends = via (λ q. (q, say v.me (ForwardJoin n (ttl - 1))) ∷ []) h.7 k.7 target;
    }))

joined_same : (words : List ℕ) (v : ViewsState) (s : ℕ) (c d : List Choice) (w u : ViewsState) (a b : List ViewChange)
    (x y : List (ℕ × Message)) → AreBothDrawn words c d → AllowedJoin v s c w a x → AllowedJoin v s d u b y
    → SameRow c d w u a b x y
joined_same words v s c d w u a b x y drawn =
    in_each_case (eqb s v.me) (idle_same v c d w u a b x y)
    (enters_same words v s c d w u a b x y
    (λ e z. farewells v.me e ++ (s, say v.me Joined) ∷ forwards v.me s v.params.arwl (without s z.active)) drawn)

welcomed_same : (words : List ℕ) (v : ViewsState) (s : ℕ) (c d : List Choice) (w u : ViewsState)
    (a b : List ViewChange) (x y : List (ℕ × Message)) → AreBothDrawn words c d → AllowedJoined v s c w a x
    → AllowedJoined v s d u b y → SameRow c d w u a b x y
welcomed_same words v s c d w u a b x y drawn =
    in_each_case (eqb s v.me) (idle_same v c d w u a b x y)
    (enters_same words v s c d w u a b x y (λ e _. farewells v.me e) drawn)

asks_same : (words : List ℕ) (v : ViewsState) (s : ℕ) (high : Bool) (c d : List Choice) (w u : ViewsState)
    (a b : List ViewChange) (x y : List (ℕ × Message)) → AreBothDrawn words c d → AllowedNeighbor v s high c w a x
    → AllowedNeighbor v s high d u b y → SameRow c d w u a b x y
asks_same words v s high c d w u a b x y drawn =
    let enters = enters_same words v s c d w u a b x y
    (λ e _. farewells v.me e ++ (s, say v.me (NeighborReply true)) ∷ []) drawn in
    in_each_case (eqb s v.me) (idle_same v c d w u a b x y)
    (in_each_case (has v.active s) (replied_same v s true c d w u a b x y)
    (in_each_case high enters
    (in_each_case (has_place v) enters (replied_same v s false c d w u a b x y))))

answered_same : (words : List ℕ) (n m m' : HyParViewState) (s : ℕ) (accepted : Bool) (c d : List Choice)
    (a b : List ViewChange) (x y : List (ℕ × Message)) → AreBothDrawn words c d
    → Allowed n (hears s (NeighborReply accepted)) c m a x → Allowed n (hears s (NeighborReply accepted)) d m' b y
    → SameAllowed c d m m' a b x y
answered_same words n m m' s accepted c d a b x y drawn h k =
    in_each_case (eqb s n.views.me)
    (λ f g. let e = idle_same n.views c d m.views m'.views a b x y f.0 g.0 in record {
      choices = e.choices;
      state = of_parts m m' e.views (f.1 ∙ sym g.1) (h.0 ∙ sym k.0);
      changes = e.changes;
      sends = e.sends;
    })
    (in_each_case (awaits n.attempt s)
    (in_each_case accepted
    (λ f g. let e = enters_same words n.views s c d m.views m'.views a b x y (λ z _. farewells n.views.me z) drawn
    (f.0, f.2) (g.0, g.2) in record {
      choices = e.choices;
      state = of_parts m m' e.views (f.1 ∙ sym g.1) (h.0 ∙ sym k.0);
      changes = e.changes;
      sends = e.sends;
    })
    (λ f g. let e = asked_same words n.views n.attempt.tried c d m.attempt m'.attempt x y drawn f.0 g.0 in record {
      choices = e.0;
      state = of_parts m m' (f.1 ∙ sym g.1) e.1 (h.0 ∙ sym k.0);
      changes = f.2 ∙ sym g.2;
      sends = e.2;
    }))
    (λ f g. record {
      choices = f.0.0 ∙ sym g.0.0;
      state = of_parts m m' (f.0.1 ∙ sym g.0.1) (f.1 ∙ sym g.1) (h.0 ∙ sym k.0);
      changes = f.2 ∙ sym g.2;
      sends = f.3 ∙ sym g.3;
    })) h.1 k.1

-- what follows where s went down by DISCONNECT, and u are the views without it
abbrev GoesOnWithout : ViewsState → AttemptState → ℕ → ViewsState → List Choice → ViewsState → AttemptState
    → List (ℕ × Message) → Type 0
GoesOnWithout v a s u choices w b sends = MatchBool (starts_attempt v.params.refill u)
    ((first : List Choice) × (next : List Choice) × (choices ≡ first ++ next) × AddsPassive u s first w
    × GoesOnAsking w [] next b sends)
    (AddsPassive u s choices w × (b ≡ a) × (sends ≡ []))

goes_on_same : (words : List ℕ) (n m m' : HyParViewState) (s : ℕ) (u : ViewsState) (c d : List Choice)
    (a b : List ViewChange) (x y : List (ℕ × Message)) → AreBothDrawn words c d → m.sent ≡ m'.sent → a ≡ b
    → GoesOnWithout n.views n.attempt s u c m.views m.attempt x
    → GoesOnWithout n.views n.attempt s u d m'.views m'.attempt y → SameAllowed c d m m' a b x y
goes_on_same words n m m' s u c d a b x y drawn sent told = in_each_case (starts_attempt n.views.params.refill u)
    (λ f g.
    let both = as_both words c d (f.0 ++ f.1) (g.0 ++ g.1) f.2 g.2 drawn in
    let e = passive_same words u s f.0 g.0 m.views m'.views (fronts words f.0 f.1 g.0 g.1 both) f.3 g.3 in
    let more = rests words f.0 f.1 g.0 g.1 e.choices both in
    let asked = asked_same more.0 m.views [] f.1 g.1 m.attempt m'.attempt x y more.1 f.4
    (subst (λ z. GoesOnAsking z [] g.1 m'.attempt y) (sym e.views) g.4) in record {
      choices = via₂ (λ (y z : List Choice). y ++ z) f.2 g.2 e.choices asked.0;
      state = of_parts m m' e.views asked.1 sent;
      changes = told;
      sends = asked.2;
    })
    (λ f g. let e = passive_same words u s c d m.views m'.views drawn f.0 g.0 in record {
      choices = e.choices;
      state = of_parts m m' e.views (f.1 ∙ sym g.1) sent;
      changes = told;
      sends = f.2 ∙ sym g.2;
    })

parted_same : (words : List ℕ) (n m m' : HyParViewState) (s : ℕ) (c d : List Choice) (a b : List ViewChange)
    (x y : List (ℕ × Message)) → AreBothDrawn words c d → Allowed n (hears s Disconnect) c m a x
    → Allowed n (hears s Disconnect) d m' b y → SameAllowed c d m m' a b x y
parted_same words n m m' s c d a b x y drawn h k =
    in_each_case (eqb s n.views.me || not (has n.views.active s))
    (λ f g. let e = idle_same n.views c d m.views m'.views a b x y f.0 g.0 in record {
      choices = e.choices;
      state = of_parts m m' e.views (f.1 ∙ sym g.1) (h.0 ∙ sym k.0);
      changes = e.changes;
      sends = e.sends;
    })
    (λ f g. goes_on_same words n m m' s f.0 c d a b x y drawn (h.0 ∙ sym k.0)
    (goes_down_same n.views s a b f.1.1 g.1.1) f.2
    (subst (λ z. GoesOnWithout n.views n.attempt s z d m'.views m'.attempt y) (g.1.0 ∙ sym f.1.0) g.2)) h.1 k.1

shuffled_same : (words : List ℕ) (v : ViewsState) (s o ttl : ℕ) (ids : List ℕ) (c d : List Choice) (w u : ViewsState)
    (a b : List ViewChange) (x y : List (ℕ × Message)) → AreBothDrawn words c d
    → AllowedShuffle v s o ttl ids c w a x → AllowedShuffle v s o ttl ids d u b y → SameRow c d w u a b x y
shuffled_same words v s o ttl ids c d w u a b x y drawn =
    in_each_case (eqb s v.me) (idle_same v c d w u a b x y)
    (in_each_case (walks_on v ttl)
    (λ h k. let e = chosen_same words (without s v.active) h.0 k.0 c d [] [] drawn h.1 k.1 in record {
      choices = chosen_with (without s v.active) h.0 k.0 c d [] [] h.1 k.1 e.0 refl;
      views = h.2 ∙ sym k.2;
      changes = h.3 ∙ sym k.3;
      sends = via (λ q. (q, say v.me (Shuffle o (ttl - 1) ids)) ∷ []) h.4 k.4 e.0;
    })
    (in_each_case (eqb o v.me) (idle_same v c d w u a b x y)
    (λ h k.
    let both = as_both words c d (h.0 ++ h.1) (k.0 ++ k.1) h.3 k.3 drawn in
    let those = samples_same words v.passive h.2 k.2 h.0 k.0 (fronts words h.0 h.1 k.0 k.1 both) (h.4.0 ∙ sym k.4.0)
    h.4.1 k.4.1 in
    let more = rests words h.0 h.1 k.0 k.1 those.1 both in
    let e = integrated_same more.0 v ids h.2 h.1 k.1 w u more.1 h.5
    (subst (λ l. Integrates v ids l k.1 u) (sym those.0) k.5) in record {
      choices = via₂ (λ (y z : List Choice). y ++ z) h.3 k.3 those.1 e.choices;
      views = e.views;
      changes = h.6 ∙ sym k.6;
      sends = via (λ l. (o, say v.me (ShuffleReply l)) ∷ []) h.7 k.7 those.0;
    })))

returned_same : (words : List ℕ) (v : ViewsState) (sent : List ℕ) (s : ℕ) (ids : List ℕ) (c d : List Choice)
    (w u : ViewsState) (a b : List ViewChange) (x y : List (ℕ × Message)) → AreBothDrawn words c d
    → AllowedShuffleReply v sent s ids c w a x → AllowedShuffleReply v sent s ids d u b y → SameRow c d w u a b x y
returned_same words v sent s ids c d w u a b x y drawn =
    in_each_case (eqb s v.me) (idle_same v c d w u a b x y)
    (λ h k. let e = integrated_same words v ids sent c d w u drawn h.0 k.0 in record {
      choices = e.choices;
      views = e.views;
      changes = h.1 ∙ sym k.1;
      sends = h.2 ∙ sym k.2;
    })

heard_same : (words : List ℕ) (n m m' : HyParViewState) (s : ℕ) (body : Body) (c d : List Choice)
    (a b : List ViewChange) (x y : List (ℕ × Message)) → AreBothDrawn words c d → Allowed n (hears s body) c m a x
    → Allowed n (hears s body) d m' b y → SameAllowed c d m m' a b x y
heard_same words n m m' s Join c d a b x y drawn h k =
    views_same n m m' c d a b x y h.0 k.0
    (joined_same words n.views s c d m.views m'.views a b x y drawn h.1 k.1)
heard_same words n m m' s (ForwardJoin node ttl) c d a b x y drawn h k =
    views_same n m m' c d a b x y h.0 k.0
    (walked_same words n.views s node ttl c d m.views m'.views a b x y drawn h.1 k.1)
heard_same words n m m' s Joined c d a b x y drawn h k =
    views_same n m m' c d a b x y h.0 k.0
    (welcomed_same words n.views s c d m.views m'.views a b x y drawn h.1 k.1)
heard_same words n m m' s (Neighbor high) c d a b x y drawn h k =
    views_same n m m' c d a b x y h.0 k.0
    (asks_same words n.views s high c d m.views m'.views a b x y drawn h.1 k.1)
heard_same words n m m' s (NeighborReply accepted) c d a b x y drawn h k =
    answered_same words n m m' s accepted c d a b x y drawn h k
heard_same words n m m' s Disconnect c d a b x y drawn h k =
    parted_same words n m m' s c d a b x y drawn h k
heard_same words n m m' s (Shuffle origin ttl ids) c d a b x y drawn h k =
    views_same n m m' c d a b x y h.0 k.0
    (shuffled_same words n.views s origin ttl ids c d m.views m'.views a b x y drawn h.1 k.1)
heard_same words n m m' s (ShuffleReply ids) c d a b x y drawn h k =
    views_same n m m' c d a b x y h.0 k.0
    (returned_same words n.views n.sent s ids c d m.views m'.views a b x y drawn h.1 k.1)
heard_same words n m m' s (Gossip id round payload) c d a b x y drawn h k = rests_same n m m' c d a b x y [] h k
heard_same words n m m' s (IHave id) c d a b x y drawn h k = rests_same n m m' c d a b x y [] h k
heard_same words n m m' s (Graft id) c d a b x y drawn h k = rests_same n m m' c d a b x y [] h k
heard_same words n m m' s Prune c d a b x y drawn h k = rests_same n m m' c d a b x y [] h k

-- of one state, at one input and with the same words, only one result is allowed
pub allowed_same : (words left right : List ℕ) (n m m' : HyParViewState) (input : HyParViewInput) (c d : List Choice)
    (a b : List ViewChange) (x y : List (ℕ × Message)) → AreDrawn c words left → AreDrawn d words right
    → Allowed n input c m a x → Allowed n input d m' b y → SameAllowed c d m m' a b x y
allowed_same words left right n m m' (boots None) c d a b x y e f h k = rests_same n m m' c d a b x y [] h k
allowed_same words left right n m m' (boots (Some contact)) c d a b x y e f h k =
    rests_same n m m' c d a b x y ((contact, say n.views.me Join) ∷ []) h k
allowed_same words left right n m m' (hears s body) c d a b x y e f h k =
    heard_same words n m m' s body c d a b x y (left, right, e, f) h k
allowed_same words left right n m m' (hears_of_crash p) c d a b x y e f h k =
    let views = h.1.0.0 ∙ sym k.1.0.0 in
    let told = goes_down_same n.views p a b h.1.0.1 k.1.0.1 in
    let asked : (tried : List ℕ) → GoesOnAsking m.views tried c m.attempt x → GoesOnAsking m'.views tried d m'.attempt y
    → (c ≡ d) × (m.attempt ≡ m'.attempt) × (x ≡ y) =
    λ tried f' g'. asked_same words m.views tried c d m.attempt m'.attempt x y (left, right, e, f) f'
    (subst (λ z. GoesOnAsking z tried d m'.attempt y) (sym views) g') in
    let same : (c ≡ d) × (m.attempt ≡ m'.attempt) × (x ≡ y) =
    in_each_case (has n.views.active p) (asked [])
    (in_each_case (awaits n.attempt p) (asked n.attempt.tried)
    (λ f' g'. (f'.0 ∙ sym g'.0, f'.1 ∙ sym g'.1, f'.2 ∙ sym g'.2))) h.1.1 k.1.1 in record {
      choices = same.0;
      state = of_parts m m' views same.1 (h.0 ∙ sym k.0);
      changes = told;
      sends = same.2;
    }
allowed_same words left right n m m' shuffles c d a b x y e f h k =
    let same : (c ≡ d) × (m.sent ≡ m'.sent) × (x ≡ y) =
    in_each_case (eqb (length n.views.active) 0) (λ f' g'. (f'.0 ∙ sym g'.0, f'.1 ∙ sym g'.1, f'.2 ∙ sym g'.2))
    (started_same words n.views c d m.sent m'.sent x y (left, right, e, f)) h.3 k.3 in record {
      choices = same.0;
      state = of_parts m m' (h.0 ∙ sym k.0) (h.1 ∙ sym k.1) same.1;
      changes = h.2 ∙ sym k.2;
      sends = same.2;
    }
