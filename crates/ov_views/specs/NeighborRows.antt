-- The rows of a node's behaviour at NEIGHBOR, NEIGHBORREPLY, DISCONNECT and a crash report. v are the views before
-- the step and w those after; a is the attempt before it and b the one after. NEIGHBOR with its priorities and
-- DISCONNECT are HyParView's (Leitão, Pereira, Rodrigues, DSN 2007). How an attempt goes on, what a reply does that
-- nobody waits for, that a message from the node itself does nothing, and the rules by which DISCONNECT starts an
-- attempt, are chosen here.
use Rattle.std.specs.Prelude.{◌≡◌, ℕ, Bool, true, false, not, ◌||◌, ◌&&◌, ◌==◌, List, [], ◌∷◌, ◌++◌, length}
use Rattle.std.specs.Prelude.{Option, Some, None, MatchBool, if◌then◌else◌}
use Rattle.ov_ids.specs.Sets.{IsSet, IsIn, has, adding, without_all}
use Rattle.ov_ids.specs.declared.refill_rule.Refill.{Refill}
use Rattle.ov_ids.specs.declared.refill_rule.Refill.TheVariants.{Never, Alone, Always}
use Rattle.ov_wire.specs.declared.Message.{Message}
use Rattle.ov_wire.specs.declared.Body.TheVariants.{Neighbor, NeighborReply, Disconnect}
use Rattle.ov_words.specs.Pick.{Choice}
use Rattle.ov_views.specs.ViewsState.{ViewsState, has_place}
use Rattle.ov_views.specs.Changes.{Keeps, Chosen, AddsPassive, AddsActive, RemovesActive, Forgets}
use Rattle.ov_views.specs.Sending.{say, farewells, Idles}
use Rattle.ov_views.specs.declared.change.ViewChange.{ViewChange}

-- an attempt to find an active member: the node that it asked and waits for, and the set of the nodes that it has tried
pub record AttemptState : Type 0 where
  pub asked : Option ℕ
  pub tried : List ℕ

-- the tried nodes are a set, the asked node is one of them, and if nobody is asked, nobody is tried
pub record IsAttempt (a : AttemptState) : Type 0 where
  pub set : IsSet a.tried
  pub among : (q : ℕ) → a.asked ≡ Some q → IsIn a.tried q
  pub none : a.asked ≡ None → a.tried ≡ []

-- no attempt
abbrev pub idle : AttemptState
idle = record { asked = None; tried = [] }

-- the attempt waits for s
abbrev pub awaits : AttemptState → ℕ → Bool
awaits a s = is_asked a.asked s
  where
    is_asked : Option ℕ → ℕ → Bool
    is_asked None s = false
    is_asked (Some q) s = q == s

-- the passive members that an attempt which tried these has not tried
abbrev pub untried : ViewsState → List ℕ → List ℕ
untried v tried = without_all tried v.passive

-- such an attempt can ask nobody: the active view is full, or every passive member was tried
abbrev pub gives_up : ViewsState → List ℕ → Bool
gives_up v tried = not (has_place v) || (length (untried v tried) == 0)

-- An attempt that tried these goes on as b. It ends if it can ask nobody. Otherwise it asks a random passive member
-- that it has not tried, by NEIGHBOR, and that member counts as tried. The priority is high if nobody is active
abbrev pub GoesOnAsking : ViewsState → List ℕ → List Choice → AttemptState → List (ℕ × Message) → Type 0
GoesOnAsking v tried choices b sends =
    MatchBool (gives_up v tried) ((choices ≡ []) × (b ≡ idle) × (sends ≡ []))
    ((q : ℕ) × Chosen (untried v tried) q choices []
    × (b ≡ record { asked = Some q; tried = adding q tried })
    × (sends ≡ (q, say v.me (Neighbor (length v.active == 0))) ∷ []))

-- s is answered yes or no, and nothing changes
abbrev pub Replies : ViewsState → ℕ → Bool → List Choice → ViewsState → List ViewChange → List (ℕ × Message) → Type 0
Replies v s accepted choices w changes sends =
    Keeps v choices w × (changes ≡ []) × (sends ≡ (s, say v.me (NeighborReply accepted)) ∷ [])

-- s becomes active and is answered yes
abbrev pub LetsIn : ViewsState → ℕ → List Choice → ViewsState → List ViewChange → List (ℕ × Message) → Type 0
LetsIn v s choices w changes sends =
    AddsActive v s choices w changes × (sends ≡ farewells v.me changes ++ (s, say v.me (NeighborReply true)) ∷ [])

-- NEIGHBOR from s. If s is active, it is answered yes. With high priority it becomes active and is answered yes. With
-- low priority the same happens if a place is free, and otherwise it is answered no
abbrev pub AllowedNeighbor :
    ViewsState → ℕ → Bool → List Choice → ViewsState → List ViewChange → List (ℕ × Message) → Type 0
AllowedNeighbor v s high choices w changes sends =
    MatchBool (s == v.me) (Idles v choices w changes sends)
    (MatchBool (has v.active s) (Replies v s true choices w changes sends)
    (MatchBool high (LetsIn v s choices w changes sends)
    (MatchBool (has_place v) (LetsIn v s choices w changes sends) (Replies v s false choices w changes sends))))

-- NEIGHBORREPLY from s. A yes from the asked node ends the attempt, and s becomes active; after its no the attempt goes
-- on. A yes from any other node that is not active is answered by DISCONNECT. Any other reply does nothing
abbrev pub AllowedReply : ViewsState → AttemptState → ℕ → Bool → List Choice → ViewsState → AttemptState →
    List ViewChange → List (ℕ × Message) → Type 0
AllowedReply v a s accepted choices w b changes sends =
    MatchBool (s == v.me) (Idles v choices w changes sends × (b ≡ a))
    (MatchBool (awaits a s)
    (MatchBool accepted
    (AddsActive v s choices w changes × (b ≡ idle) × (sends ≡ farewells v.me changes))
    (GoesOnAsking v a.tried choices b sends × (w ≡ v) × (changes ≡ [])))
    (Keeps v choices w × (b ≡ a) × (changes ≡ [])
    × (sends ≡ (if accepted && not (has v.active s) then (s, say v.me Disconnect) ∷ [] else []))))

-- DISCONNECT from s by the profile's rule: if s is active, it goes down and then becomes passive. No attempt starts
abbrev pub ProfileDisconnect :
    ViewsState → ℕ → List Choice → ViewsState → List ViewChange → List (ℕ × Message) → Type 0
ProfileDisconnect v s choices w changes sends =
    MatchBool ((s == v.me) || not (has v.active s)) (Idles v choices w changes sends)
    ((u : ViewsState) × RemovesActive v s u changes × AddsPassive u s choices w × (sends ≡ []))

-- whether the loss of an active member by DISCONNECT starts an attempt: never, if nobody is active any more, or
-- always. u are the views without that member
abbrev pub starts_attempt : Refill → ViewsState → Bool
starts_attempt Never u = false
starts_attempt Alone u = length u.active == 0
starts_attempt Always u = true

-- DISCONNECT from s: if s is active, it goes down and then becomes passive. Where the rule says so, a new attempt then
-- begins with nobody tried, in place of one that waits, as it does at a crash report. Otherwise the attempt stays and
-- nothing is sent. From anyone else nothing changes
abbrev pub AllowedDisconnect : ViewsState → AttemptState → ℕ → List Choice → ViewsState → AttemptState →
    List ViewChange → List (ℕ × Message) → Type 0
AllowedDisconnect v a s choices w b changes sends =
    MatchBool ((s == v.me) || not (has v.active s)) (Idles v choices w changes sends × (b ≡ a))
    ((u : ViewsState) × RemovesActive v s u changes
    × MatchBool (starts_attempt v.params.refill u)
    ((first : List Choice) × (next : List Choice) × (choices ≡ first ++ next)
    × AddsPassive u s first w × GoesOnAsking w [] next b sends)
    (AddsPassive u s choices w × (b ≡ a) × (sends ≡ [])))

-- A crash report of p: p leaves the view that has it. If it was active, a new attempt begins with nobody tried, in
-- place of one that waits. Otherwise, if the attempt waits for p, it goes on
abbrev pub AllowedCrashReport : ViewsState → AttemptState → ℕ → List Choice → ViewsState → AttemptState →
    List ViewChange → List (ℕ × Message) → Type 0
AllowedCrashReport v a p choices w b changes sends =
    Forgets v p w changes
    × MatchBool (has v.active p) (GoesOnAsking w [] choices b sends)
    (MatchBool (awaits a p) (GoesOnAsking w a.tried choices b sends) ((choices ≡ []) × (b ≡ a) × (sends ≡ [])))
