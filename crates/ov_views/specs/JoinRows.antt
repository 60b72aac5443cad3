-- The rows of a node's behaviour at JOIN, FORWARDJOIN and JOINED. v are the views before the step and w those after.
-- JOIN and FORWARDJOIN are HyParView's (Leitão, Pereira, Rodrigues, DSN 2007, Algorithm 1). Chosen here are JOINED,
-- that a walk does not go to the new node itself, that a walk which can go nowhere ends, and that a message does
-- nothing if its sender, or the new node that it names, is the node that gets it.
use Rattle.std.specs.Prelude.{◌≡◌, ℕ, ◌-◌, Bool, not, ◌&&◌, ◌||◌, ◌==◌, nat_le, List, [], ◌∷◌}
use Rattle.std.specs.Prelude.{◌++◌, length, map, MatchBool}
use Rattle.ov_ids.specs.Sets.{without}
use Rattle.ov_wire.specs.declared.Message.{Message}
use Rattle.ov_wire.specs.declared.Body.TheVariants.{Joined, ForwardJoin}
use Rattle.ov_words.specs.Pick.{Choice}
use Rattle.ov_views.specs.ViewsState.{ViewsState}
use Rattle.ov_views.specs.Changes.{Keeps, Chosen, AddsPassive, AddsActive}
use Rattle.ov_views.specs.Sending.{say, farewells, Idles}
use Rattle.ov_views.specs.declared.change.ViewChange.{ViewChange}

-- FORWARDJOIN of the new node to each of these
abbrev pub forwards : ℕ → ℕ → ℕ → List ℕ → List (ℕ × Message)
forwards me node ttl members = map (λ target. (target, say me (ForwardJoin node ttl))) members

-- JOIN from s: s becomes active and is sent JOINED, and every other active member is sent FORWARDJOIN with ARWL steps
abbrev pub AllowedJoin : ViewsState → ℕ → List Choice → ViewsState → List ViewChange → List (ℕ × Message) → Type 0
AllowedJoin v s choices w changes sends =
    MatchBool (s == v.me) (Idles v choices w changes sends)
    (AddsActive v s choices w changes
    × (sends ≡ farewells v.me changes ++ (s, say v.me Joined) ∷ forwards v.me s v.params.arwl (without s w.active)))

-- the active members that a walk for n may go on to from here, if it came from s
abbrev pub walk_targets : ViewsState → ℕ → ℕ → List ℕ
walk_targets v s n = without n (without s v.active)

-- the walk for n, from s, ends here: no step is left, at most one member is active, or there is nobody to go on to
abbrev pub walk_ends : ViewsState → ℕ → ℕ → ℕ → Bool
walk_ends v s n ttl = (ttl == 0) || (nat_le (length v.active) 1 || (length (walk_targets v s n) == 0))

-- n becomes passive if PRWL steps are left
abbrev pub Remembers : ViewsState → ℕ → ℕ → List Choice → ViewsState → Type 0
Remembers v n ttl choices w = MatchBool (ttl == v.params.prwl) (AddsPassive v n choices w) (Keeps v choices w)

-- FORWARDJOIN for n from s. If the walk ends, n becomes active and is sent JOINED. Otherwise n becomes passive if PRWL
-- steps are left, and the walk goes on with one step less to a random active member other than s and n
abbrev pub AllowedForwardJoin :
    ViewsState → ℕ → ℕ → ℕ → List Choice → ViewsState → List ViewChange → List (ℕ × Message) → Type 0
AllowedForwardJoin v s n ttl choices w changes sends =
    MatchBool ((s == v.me) || (n == v.me)) (Idles v choices w changes sends)
    (MatchBool (walk_ends v s n ttl)
    (AddsActive v n choices w changes × (sends ≡ farewells v.me changes ++ (n, say v.me Joined) ∷ []))
    ((first : List Choice) × (last : List Choice) × (target : ℕ) × (choices ≡ first ++ last)
    × Remembers v n ttl first w
    × Chosen (walk_targets v s n) target last []
    × (changes ≡ []) × (sends ≡ (target, say v.me (ForwardJoin n (ttl - 1))) ∷ [])))

-- FORWARDJOIN for n from s is handed on and does nothing else: neither is the node itself, its walk goes on, and n does
-- not become passive
abbrev pub is_only_handed_on : ViewsState → ℕ → ℕ → ℕ → Bool
is_only_handed_on v s n ttl =
    not ((s == v.me) || (n == v.me)) && (not (walk_ends v s n ttl) && not (ttl == v.params.prwl))

-- JOINED from s: s becomes active
abbrev pub AllowedJoined : ViewsState → ℕ → List Choice → ViewsState → List ViewChange → List (ℕ × Message) → Type 0
AllowedJoined v s choices w changes sends =
    MatchBool (s == v.me) (Idles v choices w changes sends)
    (AddsActive v s choices w changes × (sends ≡ farewells v.me changes))
