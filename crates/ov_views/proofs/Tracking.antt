-- The active view goes along with the changes that are told, at every step that a node may do.
use Rattle.std.proofs.Common.{◌≡◌, ℕ, Bool, true, false, List, [], ◌∷◌, ◌++◌, ◌||◌, ◌≤◌, length, length-append, arith}
use Rattle.std.proofs.Common.{refl, sym, ap, ◌∙◌, eqb, not, None, Some}
use Rattle.std.specs.Prelude.{MatchBool}
use Rattle.ov_ids.specs.Sets.{has, adding, without}
use Rattle.ov_ids.proofs.Cases.{either_way}
use Rattle.ov_ids.proofs.Sets.{without_absent}
use Rattle.ov_wire.specs.declared.message.Message.{Message}
use Rattle.ov_wire.specs.declared.message.Body.{Body}
use Rattle.ov_wire.specs.declared.message.Body.TheVariants.{Join, ForwardJoin, Joined, Neighbor, NeighborReply}
use Rattle.ov_wire.specs.declared.message.Body.TheVariants.{Disconnect, Shuffle, ShuffleReply, Gossip, IHave, Graft}
use Rattle.ov_wire.specs.declared.message.Body.TheVariants.{Prune}
use Rattle.ov_words.specs.Pick.{Choice}
use Rattle.ov_views.specs.ViewsState.{ViewsState, has_place, has_passive_place, is_close, is_known}
use Rattle.ov_views.specs.Changes.{AddsPassive, DropsRandom, MakesRoom, AddsActive, GoesDown, RemovesActive, Forgets}
use Rattle.ov_views.specs.Changes.{after_changes}
use Rattle.ov_views.specs.Sampling.{TakesIn, Integrates}
use Rattle.ov_views.specs.Sending.{Idles}
use Rattle.ov_views.specs.JoinRows.{Remembers, walk_ends}
use Rattle.ov_views.specs.NeighborRows.{awaits, starts_attempt}
use Rattle.ov_views.specs.ShuffleRows.{walks_on}
use Rattle.ov_views.specs.Allowed.{HyParViewState, HyParViewInput, boots, hears, hears_of_crash, shuffles, Allowed}
use Rattle.ov_views.specs.declared.change.ViewChange.{ViewChange}
use Rattle.ov_views.specs.declared.change.ViewChange.TheVariants.{Up, Down}
use Rattle.ov_views.proofs.Keeping.{AddsPassive-keeps}

-- the node stays, its active view is the one after these changes, and they are two at most
pub record Tracks (v : ViewsState) (changes : List ViewChange) (w : ViewsState) : Type 0 where
  pub me : w.me ≡ v.me
  pub active : w.active ≡ after_changes changes v.active
  pub few : length changes ≤ 2

-- nothing is told, and neither node nor active view changes
quiet : (v w : ViewsState) (changes : List ViewChange) → w.me ≡ v.me → w.active ≡ v.active → changes ≡ [] →
    Tracks v changes w
quiet v w changes me same none =
    record {
      me = me;
      active = same ∙ ap (λ c. after_changes c v.active) (sym none);
      few = omega (arith, ap length none);
    }

still : (v w : ViewsState) (changes : List ViewChange) → w ≡ v → changes ≡ [] → Tracks v changes w
still v w changes e none =
    quiet v w changes (ap (λ (u : ViewsState). u.me) e) (ap (λ (u : ViewsState). u.active) e) none

idle : (v : ViewsState) (cs : List Choice) (w : ViewsState) (changes : List ViewChange) (sends : List (ℕ × Message)) →
    Idles v cs w changes sends → Tracks v changes w
idle v cs w changes sends h = still v w changes h.0.1 h.1

passive : (v : ViewsState) (x : ℕ) (cs : List Choice) (w : ViewsState) (changes : List ViewChange) →
    AddsPassive v x cs w → changes ≡ [] → Tracks v changes w
passive v x cs w changes h none = let k = AddsPassive-keeps v x cs w h in quiet v w changes k.me k.active none

after_append : (xs ys : List ViewChange) (a : List ℕ) →
    after_changes (xs ++ ys) a ≡ after_changes ys (after_changes xs a)
after_append [] ys a = refl
after_append (Up x ∷ xs) ys a = after_append xs ys (adding x a)
after_append (Down x ∷ xs) ys a = after_append xs ys (without x a)

drops : (v : ViewsState) (cs : List Choice) (w : ViewsState) (changes : List ViewChange) → DropsRandom v cs w changes →
    Tracks v changes w
drops v cs w changes =
    either_way (eqb (length v.active) 0) _ _ _ (λ k. still v w changes k.0.1 k.1)
    (λ g. let k = AddsPassive-keeps _ _ _ _ g.3 in
    record {
      me = k.me;
      active = k.active ∙ ap (λ c. after_changes c v.active) (sym g.4);
      few = omega (arith, ap length g.4);
    })

room : (v : ViewsState) (cs : List Choice) (w : ViewsState) (changes : List ViewChange) → MakesRoom v cs w changes →
    Tracks v changes w
room v cs w changes = either_way (has_place v) _ _ _ (λ k. still v w changes k.0.1 k.1) (drops v cs w changes)

few_drops : (v : ViewsState) (cs : List Choice) (w : ViewsState) (changes : List ViewChange) →
    MakesRoom v cs w changes → length changes ≤ 1
few_drops v cs w changes =
    either_way (has_place v) _ _ _ (λ k. omega (arith, ap length k.1))
    (either_way (eqb (length v.active) 0) _ _ _ (λ k. omega (arith, ap length k.1)) (λ g. omega (arith, ap length g.4)))

enters : (v : ViewsState) (x : ℕ) (cs : List Choice) (w : ViewsState) (changes : List ViewChange) →
    AddsActive v x cs w changes → Tracks v changes w
enters v x cs w changes =
    either_way (is_close v x) _ _ _ (λ k. still v w changes k.0.1 k.1)
    (λ g. let t = room _ cs g.0 g.1 g.2 in record {
      me = ap (λ (u : ViewsState). u.me) g.3 ∙ t.me;
      active = ap (λ (u : ViewsState). u.active) g.3 ∙ ap (adding x) t.active
          ∙ sym (after_append g.1 (Up x ∷ []) v.active) ∙ ap (λ c. after_changes c v.active) (sym g.4);
      few = omega (
        arith,
        few_drops (record v { passive = without x v.passive }) cs g.0 g.1 g.2,
        ap length g.4,
        length-append g.1 (Up x ∷ []),
      );
    })

-- x goes down, if it was active
leaves : (v : ViewsState) (x : ℕ) (w : ViewsState) (changes : List ViewChange) → w.me ≡ v.me →
    w.active ≡ without x v.active → GoesDown v x changes → Tracks v changes w
leaves v x w changes me gone h = record {
  me = me;
  active = gone ∙ by (has v.active x) refl h;
  few = either_way (has v.active x) _ _ _ (λ c. omega (arith, ap length c)) (λ c. omega (arith, ap length c)) h;
}
  where
    by : (b : Bool) → has v.active x ≡ b → MatchBool b (changes ≡ Down x ∷ []) (changes ≡ []) →
        without x v.active ≡ after_changes changes v.active
    by true e c = ap (λ d. after_changes d v.active) (sym c)
    by false e c = without_absent x v.active e ∙ ap (λ d. after_changes d v.active) (sym c)

removes : (v : ViewsState) (x : ℕ) (w : ViewsState) (changes : List ViewChange) → RemovesActive v x w changes →
    Tracks v changes w
removes v x w changes h = leaves v x w changes (ap (λ (u : ViewsState). u.me) h.0)
    (ap (λ (u : ViewsState). u.active) h.0) h.1

forgets : (v : ViewsState) (x : ℕ) (w : ViewsState) (changes : List ViewChange) → Forgets v x w changes →
    Tracks v changes w
forgets v x w changes h = leaves v x w changes (ap (λ (u : ViewsState). u.me) h.0)
    (ap (λ (u : ViewsState). u.active) h.0) h.1

taken : (v : ViewsState) (x : ℕ) (sent : List ℕ) (cs : List Choice) (w : ViewsState) (left : List ℕ) →
    TakesIn v x sent cs w left → Tracks v [] w
taken v x sent cs w left =
    either_way (is_known v x) _ _ _ (λ k. still v w [] k.0.1 refl)
    (either_way (has_passive_place v) _ _ _
    (λ k. quiet v w [] (ap (λ (u : ViewsState). u.me) k.0.1) (ap (λ (u : ViewsState). u.active) k.0.1) refl)
    (λ g. quiet v w [] (ap (λ (u : ViewsState). u.me) g.2) (ap (λ (u : ViewsState). u.active) g.2) refl))

integrated : (v : ViewsState) (ids sent : List ℕ) (cs : List Choice) (w : ViewsState) → Integrates v ids sent cs w →
    Tracks v [] w
integrated v [] sent cs w h = still v w [] h.1 refl
integrated v (x ∷ ids) sent cs w h =
    let first = taken v x sent h.2 h.0 h.1 h.4 in
    let later = integrated h.0 ids h.1 h.3 w h.5 in
    quiet v w [] (later.me ∙ first.me) (later.active ∙ first.active) refl

with_none : (v w : ViewsState) (changes : List ViewChange) → changes ≡ [] → Tracks v [] w → Tracks v changes w
with_none v w changes none t = quiet v w changes t.me t.active none

remembered : (v : ViewsState) (n ttl : ℕ) (cs : List Choice) (w : ViewsState) → Remembers v n ttl cs w → Tracks v [] w
remembered v n ttl cs w = either_way (eqb ttl v.params.prwl) _ _ _ (λ k. passive v n cs w [] k refl)
    (λ k. still v w [] k.1 refl)

message : (n : HyParViewState) (s : ℕ) (body : Body) (cs : List Choice) (m : HyParViewState) (changes : List ViewChange)
    (sends : List (ℕ × Message)) → Allowed n (hears s body) cs m changes sends → Tracks n.views changes m.views
message n s Join cs m changes sends h =
    either_way (eqb s n.views.me) _ _ _ (idle n.views cs m.views changes sends)
    (λ k. enters n.views s cs m.views changes k.0) h.1
message n s (ForwardJoin node ttl) cs m changes sends h =
    either_way (eqb s n.views.me || eqb node n.views.me) _ _ _ (idle n.views cs m.views changes sends)
    (either_way (walk_ends n.views s node ttl) _ _ _ (λ k. enters n.views node cs m.views changes k.0)
    (λ k. with_none n.views m.views changes k.6 (remembered n.views node ttl k.0 m.views k.4))) h.1
message n s Joined cs m changes sends h =
    either_way (eqb s n.views.me) _ _ _ (idle n.views cs m.views changes sends)
    (λ k. enters n.views s cs m.views changes k.0) h.1
message n s (Neighbor high) cs m changes sends h =
    either_way (eqb s n.views.me) _ _ _ (idle n.views cs m.views changes sends)
    (either_way (has n.views.active s) _ _ _ (λ k. still n.views m.views changes k.0.1 k.1)
    (either_way high _ _ _ (λ k. enters n.views s cs m.views changes k.0)
    (either_way (has_place n.views) _ _ _ (λ k. enters n.views s cs m.views changes k.0)
    (λ k. still n.views m.views changes k.0.1 k.1)))) h.1
message n s (NeighborReply accepted) cs m changes sends h =
    either_way (eqb s n.views.me) _ _ _ (λ k. idle n.views cs m.views changes sends k.0)
    (either_way (awaits n.attempt s) _ _ _
    (either_way accepted _ _ _ (λ k. enters n.views s cs m.views changes k.0)
    (λ k. still n.views m.views changes k.1 k.2))
    (λ k. still n.views m.views changes k.0.1 k.2)) h.1
message n s Disconnect cs m changes sends h =
    either_way (eqb s n.views.me || not (has n.views.active s)) _ _ _ (λ k. idle n.views cs m.views changes sends k.0)
    (λ g. let gone = removes n.views s g.0 changes g.1 in
    let then : Tracks g.0 [] m.views = either_way (starts_attempt n.views.params.refill g.0) _ _ _
    (λ k. passive g.0 s k.0 m.views [] k.3 refl) (λ k. passive g.0 s cs m.views [] k.0 refl) g.2 in
    record { me = then.me ∙ gone.me; active = then.active ∙ gone.active; few = gone.few }) h.1
message n s (Shuffle origin ttl ids) cs m changes sends h =
    either_way (eqb s n.views.me) _ _ _ (idle n.views cs m.views changes sends)
    (either_way (walks_on n.views ttl) _ _ _ (λ k. still n.views m.views changes k.2 k.3)
    (either_way (eqb origin n.views.me) _ _ _ (idle n.views cs m.views changes sends)
    (λ k. with_none n.views m.views changes k.6 (integrated n.views ids k.2 k.1 m.views k.5)))) h.1
message n s (ShuffleReply ids) cs m changes sends h =
    either_way (eqb s n.views.me) _ _ _ (idle n.views cs m.views changes sends)
    (λ k. with_none n.views m.views changes k.1 (integrated n.views ids n.sent cs m.views k.0)) h.1
message n s (Gossip id round payload) cs m changes sends h =
    still n.views m.views changes (ap (λ (u : HyParViewState). u.views) h.0.1) h.0.2
message n s (IHave id) cs m changes sends h =
    still n.views m.views changes (ap (λ (u : HyParViewState). u.views) h.0.1) h.0.2
message n s (Graft id) cs m changes sends h =
    still n.views m.views changes (ap (λ (u : HyParViewState). u.views) h.0.1) h.0.2
message n s Prune cs m changes sends h =
    still n.views m.views changes (ap (λ (u : HyParViewState). u.views) h.0.1) h.0.2

-- at every step that is allowed
pub tracked : (n : HyParViewState) (p : HyParViewInput) (cs : List Choice) (m : HyParViewState)
    (changes : List ViewChange) (sends : List (ℕ × Message)) → Allowed n p cs m changes sends
    → Tracks n.views changes m.views
tracked n (boots None) cs m changes sends h =
    still n.views m.views changes (ap (λ (u : HyParViewState). u.views) h.0.1) h.0.2
tracked n (boots (Some contact)) cs m changes sends h =
    still n.views m.views changes (ap (λ (u : HyParViewState). u.views) h.0.1) h.0.2
tracked n (hears s body) cs m changes sends h = message n s body cs m changes sends h
tracked n (hears_of_crash p) cs m changes sends h = forgets n.views p m.views changes h.1.0
tracked n shuffles cs m changes sends h = still n.views m.views changes h.0 h.2
