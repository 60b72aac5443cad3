-- Which messages a node stores after a step, and what it delivers and sends.
use Rattle.std.proofs.Common.{◌≡◌, ◌≢◌, ℕ, ◌+◌, ◌<◌, ◌≤◌, Bool, true, false, not, ◌||◌, List, [], ◌∷◌, Option, None}
use Rattle.std.proofs.Common.{Some, ◌⊎◌, inl, inr, refl, sym, ap, subst, ◌∙◌, eqb, arith}
use Rattle.std.specs.Prelude.{MatchBool, MatchOption, is_some}
use Rattle.std.specs.FinMap as map
use Rattle.std.proofs.lemmas.Option.{none-some, same_Some}
use Rattle.ov_ids.specs.declared.id.MsgId.{MsgId}
use Rattle.ov_ids.proofs.Cases.{either_way}
use Rattle.ov_wire.specs.Messages.{say}
use Rattle.ov_wire.specs.declared.message.Message.{Message}
use Rattle.ov_wire.specs.declared.message.Body.{Body}
use Rattle.ov_wire.specs.declared.message.Body.TheVariants.{Join, ForwardJoin, Joined, Neighbor, NeighborReply}
use Rattle.ov_wire.specs.declared.message.Body.TheVariants.{Disconnect, Shuffle, ShuffleReply, Gossip, IHave, Graft}
use Rattle.ov_wire.specs.declared.message.Body.TheVariants.{Prune}
use Rattle.ov_words.specs.Pick.{Choice}
use Rattle.ov_views.specs.declared.change.ViewChange.{ViewChange}
use Rattle.ov_views.specs.declared.change.ViewChange.TheVariants.{Up, Down}
use Rattle.ov_plum.specs.Ids.{id_cmp}
use Rattle.ov_plum.specs.Notes.{oldest}
use Rattle.ov_plum.specs.PlumState.{PlumState, HeldState, BranchesState, is_linked}
use Rattle.ov_plum.specs.PlumRows.{AllowedFrom, AllowedGossip, AllowedTimer, Delivered, passed_on, spread, gossip}
use Rattle.ov_plum.proofs.Maps.{id_cmp_total, id_cmp_same}
use Rattle.ov_peer.specs.Step.{TreePart, Told, PeerStep, delivery_at}
use Rattle.ov_peer.specs.PeerState.{PeerState}
use Rattle.ov_peer.specs.declared.input_and_output.Delivery.{Delivery}
use Rattle.ov_peer.specs.declared.input_and_output.Input.{Input}
use Rattle.ov_peer.specs.declared.input_and_output.Input.TheVariants as input
use Rattle.ov_net.proofs.Steps.Places.{some_way, inserted_here, inserted_stays, inserted_cases}
use Rattle.ov_net.proofs.Messages.Quiet.{AllCarry, no_sends, one_send, carry_append, carry_each, heard_quiet}

-- the messages that a tree stores
abbrev pub Store : Type 0
Store = map.FinMap id_cmp HeldState

-- the message with this id and payload is stored
abbrev pub Holds : Store → MsgId → List ℕ → Type 0
Holds held id payload = (kept : HeldState) × (map.get held id ≡ Some kept) × (kept.payload ≡ payload)

-- how a delivered message came to the tree t. It is the node's next broadcast, and its number is below the next number
-- afterwards, which is made; or it came in a GOSSIP, and it was not stored. No other input delivers
abbrev pub Comes : PlumState → Input → ℕ → MsgId → List ℕ → Type 0
Comes t (input.Broadcast said) made id payload =
    (payload ≡ said) × (id.origin ≡ t.me) × (id.seq ≡ t.made) × (id.seq < made)
Comes t (input.Receive m) made id payload =
    (map.get t.held id ≡ None) × (round : ℕ) × (m.body ≡ Gossip id round payload)
Comes t _ made id payload = ⊥

-- a step of the tree t, after which these messages are stored and the next number is made. The next number does not
-- fall. Stored messages stay stored. A message that is stored now was stored before or is delivered. Each GOSSIP that
-- is sent is of a stored message. A message that is delivered is stored, and came as above
pub record Spreads (t : PlumState) (i : Input) (held : Store) (made : ℕ) (sends : List (ℕ × Message))
    (delivered : Option Delivered) : Type 0 where
  pub grows : t.made ≤ made
  pub stays : (id : MsgId) → map.get t.held id ≢ None → map.get held id ≢ None
  pub known : (id : MsgId) (kept : HeldState) → map.get held id ≡ Some kept
      → (map.get t.held id ≡ Some kept) ⊎ (delivered ≡ Some (id, kept.payload))
  pub carried : AllCarry (Holds held) sends
  pub came : (id : MsgId) (payload : List ℕ) → delivered ≡ Some (id, payload)
      → Holds held id payload × Comes t i made id payload

-- nothing is delivered, and the same messages are stored as before
rests : (t : PlumState) (i : Input) (u : PlumState) (sends : List (ℕ × Message)) (delivered : Option Delivered)
    → u.held ≡ t.held → u.made ≡ t.made → delivered ≡ None → AllCarry (Holds t.held) sends
    → Spreads t i u.held u.made sends delivered
rests t i u sends delivered held made none carried = record {
  grows = omega (arith, made);
  stays = λ id h. subst (λ (m : Store). map.get m id ≢ None) (sym held) h;
  known = λ id kept h. inl (ap (λ (m : Store). map.get m id) (sym held) ∙ h);
  carried = subst (λ (m : Store). AllCarry (Holds m) sends) (sym held) carried;
  came = λ id payload h. absurd (none-some _ (sym none ∙ h));
}

-- a message is delivered, stored and sent on
takes_in : (t : PlumState) (i : Input) (u : PlumState) (sends : List (ℕ × Message)) (delivered : Option Delivered)
    (me : ℕ) (id : MsgId) (kept : HeldState) (b : BranchesState)
    → u.held ≡ map.insert t.held id kept → t.made ≤ u.made → sends ≡ spread me id kept b
    → delivered ≡ Some (id, kept.payload) → Comes t i u.made id kept.payload → Spreads t i u.held u.made sends delivered
takes_in t i u sends delivered me id kept b held made sent is comes = record {
  grows = made;
  stays = λ q h. subst (λ (m : Store). map.get m q ≢ None) (sym held) (inserted_stays id_cmp_total t.held id kept q h);
  known = λ q k h.
      let was = ap (λ (m : Store). map.get m q) (sym held) ∙ h in
      elim (inserted_cases id_cmp_total id_cmp_same t.held id kept q k was) [
        | inl c ↦ let e = c.0 in let f = c.1 in inr (is ∙ λ j. Some (e j, (f j).payload))
        | inr c ↦ inl c.1
      ];
  carried = subst (AllCarry (Holds u.held)) (sym sent)
      (carry_append (Holds u.held) _ _ (carry_each (Holds u.held) (say me (gossip id kept)) here b.eager)
      (carry_each (Holds u.held) (say me (IHave id)) tt b.lazy));
  came = λ q payload h.
      subst (λ (d : Delivered). Holds u.held d.0 d.1 × Comes t i u.made d.0 d.1)
      (same_Some (id, kept.payload) (q, payload) (sym is ∙ h)) (here, comes);
}
  where
    here : Holds u.held id kept.payload
    here = (kept, ap (λ (m : Store). map.get m id) held ∙ inserted_here id_cmp_total t.held id kept, refl)

not_held : (o : Option HeldState) → is_some o ≡ false → o ≡ None
not_held None e = refl
not_held (Some k) e = cc

-- what follows in both cases of a test, whose value is known in each
either_known : (b : Bool) (P Q R : Type 0) → (b ≡ true → P → R) → (b ≡ false → Q → R) → MatchBool b P Q → R
either_known true P Q R f g h = f refl h
either_known false P Q R f g h = g refl h

gossiped : (t : PlumState) (m : Message) (s : ℕ) (id : MsgId) (round : ℕ) (payload : List ℕ) (u : PlumState)
    (sends : List (ℕ × Message)) (delivered : Option Delivered)
    → m.body ≡ Gossip id round payload → AllowedGossip t s id round payload u sends delivered
    → Spreads t (input.Receive m) u.held u.made sends delivered
gossiped t m s id round payload u sends delivered is =
    either_known (map.contains_key t.held id) _ _ _
    (λ _ k. rests t _ u sends delivered (ap (λ (r : PlumState). r.held) k.0) (ap (λ (r : PlumState). r.made) k.0) k.2
    (one_send _ sends _ tt k.1))
    (λ e k. takes_in t _ u sends delivered t.me id (passed_on round payload) _
    (ap (λ (r : PlumState). r.held) k.0)
    (let made : u.made ≡ t.made = ap (λ (r : PlumState). r.made) k.0 in omega (arith, made)) k.1 k.2
    (not_held _ e, round, is))

grafted : (t : PlumState) (s : ℕ) (id : MsgId) (sends : List (ℕ × Message))
    → MatchOption (map.get t.held id) (sends ≡ []) (λ (kept : HeldState). sends ≡ (s, say t.me (gossip id kept)) ∷ [])
    → AllCarry (Holds t.held) sends
grafted t s id sends h = by (map.get t.held id) refl h
  where
    by : (o : Option HeldState) → map.get t.held id ≡ o
        → MatchOption o (sends ≡ []) (λ (kept : HeldState). sends ≡ (s, say t.me (gossip id kept)) ∷ [])
        → AllCarry (Holds t.held) sends
    by None e k = no_sends _ sends k
    by (Some kept) e k = one_send _ sends _ (kept, e, refl) k

-- nothing changes, and nothing is sent
quiet : (t : PlumState) (i : Input) (u : PlumState) (sends : List (ℕ × Message)) (delivered : Option Delivered) → u ≡ t
    → (sends ≡ []) × (delivered ≡ None) → Spreads t i u.held u.made sends delivered
quiet t i u sends delivered e q =
    rests t i u sends delivered (ap (λ (r : PlumState). r.held) e) (ap (λ (r : PlumState). r.made) e) q.1
    (no_sends _ sends q.0)

received : (t : PlumState) (m : Message) (s : ℕ) (body : Body) (u : PlumState) (sends : List (ℕ × Message))
    (delivered : Option Delivered)
    → m.body ≡ body → AllowedFrom t s body u sends delivered → Spreads t (input.Receive m) u.held u.made sends delivered
received t m s (Gossip id round payload) u sends delivered is h = gossiped t m s id round payload u sends delivered is h
received t m s (IHave id) u sends delivered is h =
    either_way (map.contains_key t.held id || not (is_linked t.branches s)) _ _ _
    (λ k. quiet t _ u sends delivered k h.0)
    (λ k. rests t _ u sends delivered (ap (λ (r : PlumState). r.held) k) (ap (λ (r : PlumState). r.made) k) h.0.1
    (no_sends _ sends h.0.0)) h.1
received t m s (Graft id) u sends delivered is h =
    rests t _ u sends delivered (ap (λ (r : PlumState). r.held) h.0) (ap (λ (r : PlumState). r.made) h.0) h.1
    (grafted t s id sends h.2)
received t m s Prune u sends delivered is h =
    rests t _ u sends delivered (ap (λ (r : PlumState). r.held) h.0) (ap (λ (r : PlumState). r.made) h.0) h.1.1
    (no_sends _ sends h.1.0)
received t m s Join u sends delivered is h = quiet t _ u sends delivered h.0 h.1
received t m s (ForwardJoin node ttl) u sends delivered is h = quiet t _ u sends delivered h.0 h.1
received t m s Joined u sends delivered is h = quiet t _ u sends delivered h.0 h.1
received t m s (Neighbor high) u sends delivered is h = quiet t _ u sends delivered h.0 h.1
received t m s (NeighborReply accepted) u sends delivered is h = quiet t _ u sends delivered h.0 h.1
received t m s Disconnect u sends delivered is h = quiet t _ u sends delivered h.0 h.1
received t m s (Shuffle origin ttl ids) u sends delivered is h = quiet t _ u sends delivered h.0 h.1
received t m s (ShuffleReply ids) u sends delivered is h = quiet t _ u sends delivered h.0 h.1

fired : (t : PlumState) (id : MsgId) (u : PlumState) (sends : List (ℕ × Message)) (delivered : Option Delivered)
    → AllowedTimer t id u sends delivered → Spreads t (input.Timer id) u.held u.made sends delivered
fired t id u sends delivered h =
    some_way (oldest id t.notes) _ _ _
    (λ k. rests t _ u sends delivered (ap (λ (r : PlumState). r.held) k.0) (ap (λ (r : PlumState). r.made) k.0) h.1
    (no_sends _ sends k.1))
    (λ s k. rests t _ u sends delivered (ap (λ (r : PlumState). r.held) k.0) (ap (λ (r : PlumState). r.made) k.0) h.1
    (one_send _ sends _ tt k.1)) h.2

tree_spreads : (t : PlumState) (i : Input) (u : PlumState) (sends : List (ℕ × Message)) (delivered : Option Delivered)
    → TreePart t i u sends delivered → Spreads t i u.held u.made sends delivered
tree_spreads t (input.Boot contact) u sends delivered h = quiet t _ u sends delivered h.0 h.1
tree_spreads t (input.Receive m) u sends delivered h =
    either_way (eqb m.from t.me) _ _ _ (λ k. quiet t _ u sends delivered k.0 k.1)
    (received t m m.from m.body u sends delivered refl) h
tree_spreads t (input.CrashReport p) u sends delivered h = quiet t _ u sends delivered h.0 h.1
tree_spreads t input.Shuffle u sends delivered h = quiet t _ u sends delivered h.0 h.1
tree_spreads t (input.Broadcast payload) u sends delivered h =
    let made : u.made ≡ t.made + 1 = ap (λ (r : PlumState). r.made) h.0 in
    takes_in t _ u sends delivered t.me (record { origin = t.me; seq = t.made })
    (record { round = 0; payload = payload }) t.branches
    (ap (λ (r : PlumState). r.held) h.0) (omega (arith, made)) h.1 h.2 (refl, refl, refl, omega (arith, made))
tree_spreads t (input.Timer id) u sends delivered h = fired t id u sends delivered h

-- changes of the neighbours do not change what is stored
told_same : (t : PlumState) (changes : List ViewChange) (u : PlumState) → Told t changes u
    → (t.held ≡ u.held) × (t.made ≡ u.made)
told_same t [] u h = (ap (λ (r : PlumState). r.held) (sym h), ap (λ (r : PlumState). r.made) (sym h))
told_same t (Up x ∷ changes) u h =
    let later = told_same h.0 changes u h.2 in
    (ap (λ (r : PlumState). r.held) (sym h.1.0) ∙ later.0, ap (λ (r : PlumState). r.made) (sym h.1.0) ∙ later.1)
told_same t (Down x ∷ changes) u h =
    let later = told_same h.0 changes u h.2 in
    (ap (λ (r : PlumState). r.held) (sym h.1.0) ∙ later.0, ap (λ (r : PlumState). r.made) (sym h.1.0) ∙ later.1)

-- a step of the tree, which is then told of changes of the active view
told_spreads : (t : PlumState) (i : Input) (middle : PlumState) (changes : List ViewChange) (u : PlumState)
    (sends : List (ℕ × Message)) (delivered : Option Delivered)
    → Spreads t i middle.held middle.made sends delivered → Told middle changes u
    → Spreads t i u.held u.made sends delivered
told_spreads t i middle changes u sends delivered s told =
    let same = told_same middle changes u told in
    subst (λ n. Spreads t i u.held n sends delivered) same.1
    (subst (λ (m : Store). Spreads t i m middle.made sends delivered) same.0 s)

-- a step of a node
pub peer_spreads : (p : PeerState) (i : Input) (cs : List Choice) (q : PeerState) (sends : List (ℕ × Message))
    (changes : List ViewChange) (delivery : Option Delivery)
    → PeerStep p i cs q sends changes delivery
    → (delivered : Option Delivered) × Spreads p.tree i q.tree.held q.tree.made sends delivered
    × (delivery ≡ delivery_at p.hyparview.views.me delivered)
peer_spreads p i cs q sends changes delivery h =
    let parts = h.parts in
    let middle = h.between.tree in
    let spread = tree_spreads p.tree i middle parts.tree_sends parts.delivered parts.tree in
    let s = told_spreads p.tree i middle changes q.tree parts.tree_sends parts.delivered spread h.told.told in
    let quiet =
    heard_quiet (Holds q.tree.held) p.hyparview i cs h.between.hyparview changes parts.hyparview_sends
    parts.hyparview in
    let all = carry_append (Holds q.tree.held) parts.hyparview_sends parts.tree_sends quiet s.carried in (
      parts.delivered,
      record {
        grows = s.grows;
        stays = s.stays;
        known = s.known;
        carried = subst (AllCarry (Holds q.tree.held)) (sym parts.sends_both) all;
        came = s.came;
      },
      parts.delivers,
    )
