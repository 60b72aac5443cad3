-- HyParView's part of a node sends no GOSSIP.
use Rattle.std.proofs.Common.{◌≡◌, ℕ, Bool, true, false, not, cond, ◌||◌, ◌&&◌, List, [], ◌∷◌, ◌++◌, None, Some, length}
use Rattle.std.proofs.Common.{sym, subst, eqb}
use Rattle.std.specs.Prelude.{map}
use Rattle.std.specs.List.{AllByRecursion}
use Rattle.ov_ids.specs.Sets.{has}
use Rattle.ov_ids.specs.declared.id.MsgId.{MsgId}
use Rattle.ov_ids.proofs.Cases.{either_way}
use Rattle.ov_wire.specs.Messages.{say}
use Rattle.ov_wire.specs.declared.message.Message.{Message}
use Rattle.ov_wire.specs.declared.message.Body.{Body}
use Rattle.ov_wire.specs.declared.message.Body.TheVariants.{Join, ForwardJoin, Joined, Neighbor, NeighborReply}
use Rattle.ov_wire.specs.declared.message.Body.TheVariants.{Disconnect, Shuffle, ShuffleReply, Gossip, IHave, Graft}
use Rattle.ov_wire.specs.declared.message.Body.TheVariants.{Prune}
use Rattle.ov_words.specs.Pick.{Choice}
use Rattle.ov_views.specs.Allowed.{HyParViewState, Allowed, hears}
use Rattle.ov_views.specs.JoinRows.{AllowedJoin, AllowedForwardJoin, AllowedJoined, walk_ends}
use Rattle.ov_views.specs.ViewsState.{ViewsState, has_place}
use Rattle.ov_views.specs.NeighborRows.{AttemptState, AllowedNeighbor, AllowedReply, AllowedDisconnect}
use Rattle.ov_views.specs.NeighborRows.{starts_attempt}
use Rattle.ov_views.specs.NeighborRows.{AllowedCrashReport, GoesOnAsking, awaits, gives_up}
use Rattle.ov_views.specs.Sending.{Idles, farewells}
use Rattle.ov_views.specs.ShuffleRows.{AllowedStart, AllowedShuffle, AllowedShuffleReply, walks_on}
use Rattle.ov_views.specs.declared.change.ViewChange.{ViewChange}
use Rattle.ov_views.specs.declared.change.ViewChange.TheVariants.{Up, Down}
use Rattle.ov_peer.specs.Step.{HyParViewPart}
use Rattle.ov_peer.specs.declared.input_and_output.Input.{Input}
use Rattle.ov_peer.specs.declared.input_and_output.Input.TheVariants as input

-- P holds of the id and the payload of a GOSSIP. Nothing is said of other messages
abbrev pub Carries : (MsgId → List ℕ → Type 0) → Body → Type 0
Carries P (Gossip id round payload) = P id payload
Carries P _ = Unit {0}

-- P holds of each GOSSIP among these messages
abbrev pub AllCarry : (MsgId → List ℕ → Type 0) → List (ℕ × Message) → Type 0
AllCarry P sends = AllByRecursion (λ (s : ℕ × Message). Carries P s.1.body) sends

-- a P that implies Q
pub carry_on : (P Q : MsgId → List ℕ → Type 0) → ((id : MsgId) (payload : List ℕ) → P id payload → Q id payload)
    → (body : Body) → Carries P body → Carries Q body
carry_on P Q f (Gossip id round payload) h = f id payload h
carry_on P Q f _ h = tt

module _ (P : MsgId → List ℕ → Type 0) where
  pub no_sends : (sends : List (ℕ × Message)) → sends ≡ [] → AllCarry P sends
  no_sends sends e = subst (AllCarry P) (sym e) tt

  pub one_send : (sends : List (ℕ × Message)) (s : ℕ × Message) → Carries P s.1.body → sends ≡ s ∷ [] → AllCarry P sends
  one_send sends s fits e = subst (AllCarry P) (sym e) (fits, tt)

  pub carry_append : (xs ys : List (ℕ × Message)) → AllCarry P xs → AllCarry P ys → AllCarry P (xs ++ ys)
  carry_append [] ys a b = b
  carry_append (x ∷ xs) ys a b = (a.0, carry_append xs ys a.1 b)

  -- one message to each of these
  pub carry_each : (m : Message) → Carries P m.body → (to : List ℕ) → AllCarry P (map (λ x. (x, m)) to)
  carry_each m fits [] = tt
  carry_each m fits (x ∷ to) = (fits, carry_each m fits to)

  farewells_carry : (me : ℕ) (changes : List ViewChange) → AllCarry P (farewells me changes)
  farewells_carry me [] = tt
  farewells_carry me (Up x ∷ changes) = farewells_carry me changes
  farewells_carry me (Down x ∷ changes) = (tt, farewells_carry me changes)

  -- farewells, and then these messages
  after_farewells : (me : ℕ) (changes : List ViewChange) (last sends : List (ℕ × Message)) → AllCarry P last
      → sends ≡ farewells me changes ++ last → AllCarry P sends
  after_farewells me changes last sends a e =
      subst (AllCarry P) (sym e) (carry_append (farewells me changes) last (farewells_carry me changes) a)

  idles : (v : ViewsState) (cs : List Choice) (w : ViewsState) (changes : List ViewChange) (sends : List (ℕ × Message))
      → Idles v cs w changes sends → AllCarry P sends
  idles v cs w changes sends h = no_sends sends h.2

  joins : (v : ViewsState) (s : ℕ) (cs : List Choice) (w : ViewsState) (changes : List ViewChange)
      (sends : List (ℕ × Message)) → AllowedJoin v s cs w changes sends → AllCarry P sends
  joins v s cs w changes sends =
      either_way (eqb s v.me) _ _ _ (idles v cs w changes sends)
      (λ k. after_farewells v.me changes _ sends (tt, carry_each (say v.me (ForwardJoin s v.params.arwl)) tt _) k.1)

  forwards_join : (v : ViewsState) (s n ttl : ℕ) (cs : List Choice) (w : ViewsState) (changes : List ViewChange)
      (sends : List (ℕ × Message)) → AllowedForwardJoin v s n ttl cs w changes sends → AllCarry P sends
  forwards_join v s n ttl cs w changes sends =
      either_way (eqb s v.me || eqb n v.me) _ _ _ (idles v cs w changes sends)
      (either_way (walk_ends v s n ttl) _ _ _ (λ k. after_farewells v.me changes _ sends (tt, tt) k.1)
      (λ k. one_send sends _ tt k.7))

  joined : (v : ViewsState) (s : ℕ) (cs : List Choice) (w : ViewsState) (changes : List ViewChange)
      (sends : List (ℕ × Message)) → AllowedJoined v s cs w changes sends → AllCarry P sends
  joined v s cs w changes sends =
      either_way (eqb s v.me) _ _ _ (idles v cs w changes sends)
      (λ k. subst (AllCarry P) (sym k.1) (farewells_carry v.me changes))

  neighbor : (v : ViewsState) (s : ℕ) (high : Bool) (cs : List Choice) (w : ViewsState) (changes : List ViewChange)
      (sends : List (ℕ × Message)) → AllowedNeighbor v s high cs w changes sends → AllCarry P sends
  neighbor v s high cs w changes sends =
      either_way (eqb s v.me) _ _ _ (idles v cs w changes sends)
      (either_way (has v.active s) _ _ _ (λ k. one_send sends _ tt k.2)
      (either_way high _ _ _ (λ k. after_farewells v.me changes _ sends (tt, tt) k.1)
      (either_way (has_place v) _ _ _ (λ k. after_farewells v.me changes _ sends (tt, tt) k.1)
      (λ k. one_send sends _ tt k.2))))

  goes_on : (v : ViewsState) (tried : List ℕ) (cs : List Choice) (b : AttemptState) (sends : List (ℕ × Message))
      → GoesOnAsking v tried cs b sends → AllCarry P sends
  goes_on v tried cs b sends =
      either_way (gives_up v tried) _ _ _ (λ k. no_sends sends k.2) (λ k. one_send sends _ tt k.3)

  -- one message or none
  at_most_one : (b : Bool) (s : ℕ × Message) (sends : List (ℕ × Message)) → Carries P s.1.body
      → sends ≡ cond b (s ∷ []) [] → AllCarry P sends
  at_most_one b s sends fits e = subst (AllCarry P) (sym e) (by b)
    where
      by : (b : Bool) → AllCarry P (cond b (s ∷ []) [])
      by true = (fits, tt)
      by false = tt

  reply : (v : ViewsState) (a : AttemptState) (s : ℕ) (accepted : Bool) (cs : List Choice) (w : ViewsState)
      (b : AttemptState) (changes : List ViewChange) (sends : List (ℕ × Message)) →
      AllowedReply v a s accepted cs w b changes sends → AllCarry P sends
  reply v a s accepted cs w b changes sends =
      either_way (eqb s v.me) _ _ _ (λ k. idles v cs w changes sends k.0)
      (either_way (awaits a s) _ _ _
      (either_way accepted _ _ _ (λ k. subst (AllCarry P) (sym k.2) (farewells_carry v.me changes))
      (λ k. goes_on v a.tried cs b sends k.0))
      (λ k. at_most_one (accepted && not (has v.active s)) (s, say v.me Disconnect) sends tt k.3))

  disconnect : (v : ViewsState) (a : AttemptState) (s : ℕ) (cs : List Choice) (w : ViewsState) (b : AttemptState)
      (changes : List ViewChange) (sends : List (ℕ × Message)) → AllowedDisconnect v a s cs w b changes sends
      → AllCarry P sends
  disconnect v a s cs w b changes sends =
      either_way (eqb s v.me || not (has v.active s)) _ _ _ (λ k. idles v cs w changes sends k.0)
      (λ k. either_way (starts_attempt v.params.refill k.0) _ _ _ (λ j. goes_on w [] j.1 b sends j.4)
      (λ j. no_sends sends j.2) k.2)

  crash_report : (v : ViewsState) (a : AttemptState) (p : ℕ) (cs : List Choice) (w : ViewsState) (b : AttemptState)
      (changes : List ViewChange) (sends : List (ℕ × Message)) → AllowedCrashReport v a p cs w b changes sends
      → AllCarry P sends
  crash_report v a p cs w b changes sends h =
      either_way (has v.active p) _ _ _ (goes_on w [] cs b sends)
      (either_way (awaits a p) _ _ _ (goes_on w a.tried cs b sends) (λ k. no_sends sends k.2)) h.1

  starts : (v : ViewsState) (sent : List ℕ) (cs : List Choice) (kept : List ℕ) (sends : List (ℕ × Message))
      → AllowedStart v sent cs kept sends → AllCarry P sends
  starts v sent cs kept sends =
      either_way (eqb (length v.active) 0) _ _ _ (λ k. no_sends sends k.2) (λ k. one_send sends _ tt k.sent)

  shuffle : (v : ViewsState) (s o ttl : ℕ) (ids : List ℕ) (cs : List Choice) (w : ViewsState)
      (changes : List ViewChange) (sends : List (ℕ × Message)) → AllowedShuffle v s o ttl ids cs w changes sends
      → AllCarry P sends
  shuffle v s o ttl ids cs w changes sends =
      either_way (eqb s v.me) _ _ _ (idles v cs w changes sends)
      (either_way (walks_on v ttl) _ _ _ (λ k. one_send sends _ tt k.4)
      (either_way (eqb o v.me) _ _ _ (idles v cs w changes sends) (λ k. one_send sends _ tt k.7)))

  shuffle_reply : (v : ViewsState) (sent : List ℕ) (s : ℕ) (ids : List ℕ) (cs : List Choice) (w : ViewsState)
      (changes : List ViewChange) (sends : List (ℕ × Message)) →
      AllowedShuffleReply v sent s ids cs w changes sends → AllCarry P sends
  shuffle_reply v sent s ids cs w changes sends =
      either_way (eqb s v.me) _ _ _ (idles v cs w changes sends) (λ k. no_sends sends k.2)

  message : (n : HyParViewState) (s : ℕ) (body : Body) (cs : List Choice) (m : HyParViewState)
      (changes : List ViewChange) (sends : List (ℕ × Message)) → Allowed n (hears s body) cs m changes sends
      → AllCarry P sends
  message n s Join cs m changes sends h = joins n.views s cs m.views changes sends h.1
  message n s (ForwardJoin node ttl) cs m changes sends h =
      forwards_join n.views s node ttl cs m.views changes sends h.1
  message n s Joined cs m changes sends h = joined n.views s cs m.views changes sends h.1
  message n s (Neighbor high) cs m changes sends h = neighbor n.views s high cs m.views changes sends h.1
  message n s (NeighborReply accepted) cs m changes sends h =
      reply n.views n.attempt s accepted cs m.views m.attempt changes sends h.1
  message n s Disconnect cs m changes sends h =
      disconnect n.views n.attempt s cs m.views m.attempt changes sends h.1
  message n s (Shuffle origin ttl ids) cs m changes sends h =
      shuffle n.views s origin ttl ids cs m.views changes sends h.1
  message n s (ShuffleReply ids) cs m changes sends h = shuffle_reply n.views n.sent s ids cs m.views changes sends h.1
  message n s (Gossip id round payload) cs m changes sends h = no_sends sends h.1
  message n s (IHave id) cs m changes sends h = no_sends sends h.1
  message n s (Graft id) cs m changes sends h = no_sends sends h.1
  message n s Prune cs m changes sends h = no_sends sends h.1

  -- at every input: any P holds of each GOSSIP, since there is none
  pub heard_quiet : (n : HyParViewState) (i : Input) (cs : List Choice) (m : HyParViewState) (changes : List ViewChange)
      (sends : List (ℕ × Message)) → HyParViewPart n i cs m changes sends → AllCarry P sends
  heard_quiet n (input.Boot None) cs m changes sends h = no_sends sends h.1
  heard_quiet n (input.Boot (Some contact)) cs m changes sends h = one_send sends _ tt h.1
  heard_quiet n (input.Receive msg) cs m changes sends h = message n msg.from msg.body cs m changes sends h
  heard_quiet n (input.CrashReport p) cs m changes sends h =
      crash_report n.views n.attempt p cs m.views m.attempt changes sends h.1
  heard_quiet n input.Shuffle cs m changes sends h = starts n.views n.sent cs m.sent sends h.3
  heard_quiet n (input.Broadcast payload) cs m changes sends h = no_sends sends h.1
  heard_quiet n (input.Timer id) cs m changes sends h = no_sends sends h.1
