-- The invariant of a world: it holds at the beginning and after each event.
use Rattle.std.proofs.Common.{◌≡◌, ◌≤◌, ◌<◌, ◌+◌, ℕ, zero, suc, Bool, true, false, cond, List, [], ◌∷◌, ◌++◌, length}
use Rattle.std.proofs.Common.{length-append, Option, None, Some, is_some, inl, inr, refl, sym, ap, subst, ◌∙◌, arith}
use Rattle.std.specs.Prelude.{slice_get, remove, take}
use Rattle.std.specs.Cmp.{nat_cmp_total}
use Rattle.std.specs.FinMap as map
use Rattle.std.specs.Ordering.{nat_cmp}
use Rattle.ov_ids.specs.ParamsState.{ParamsState}
use Rattle.ov_ids.specs.Scales.{most_born_at}
use Rattle.ov_ids.specs.declared.world_scale.Scale.TheVariants.{Profile}
use Rattle.ov_ids.specs.Members.{Has}
use Rattle.ov_ids.proofs.Members.{has_append_cases, has_append_left, has_append_right}
use Rattle.ov_ids.proofs.Stepping.{step_none}
use Rattle.ov_wire.specs.declared.message.Message.{Message}
use Rattle.ov_graph.specs.Links.{LinkGraph, IsGraph, IsSmall, Linked}
use Rattle.ov_peer.specs.PeerState.{PeerState}
use Rattle.ov_peer.specs.declared.input_and_output.Delivery.{Delivery}
use Rattle.ov_peer.specs.declared.input_and_output.Input.{Input}
use Rattle.ov_peer.specs.declared.input_and_output.Input.TheVariants as input
use Rattle.ov_net.specs.Code.Codes.{world_of}
use Rattle.ov_net.specs.Code.Effects.{AreEffects, HaveRoom, IsAfter, NamedNodeChanges, packets_after}
use Rattle.ov_net.specs.Code.LinkChanges.{AreChanged, Gains, MayGain, newborn_of}
use Rattle.ov_net.specs.Code.WorldGraph.{IsMutual}
use Rattle.ov_net.specs.Journal.{AreLinks, changes_of}
use Rattle.ov_net.specs.Limits.{most_world_nodes, most_packets, most_entries}
use Rattle.ov_net.specs.Net.{Net, LivesAs}
use Rattle.ov_net.specs.NetStep.{NetStep, Happens, TakesInput, LiveTakesInput, Received}
use Rattle.ov_net.specs.Refusals.{MayHappen, EventJudged, ContactThen, BirthLast, PlacesLast}
use Rattle.ov_net.specs.World.{WorldState, Stands, HasFewNodes, opening_world}
use Rattle.ov_net.specs.declared.planned_effects.Effects.{Effects}
use Rattle.ov_net.specs.declared.journal_entry_and_changes.Change.{Change}
use Rattle.ov_net.specs.declared.journal_entry_and_changes.Change.TheVariants.{Born}
use Rattle.ov_net.specs.declared.journal_entry_and_changes.Entry.{Entry}
use Rattle.ov_net.specs.declared.event.Event.{Event}
use Rattle.ov_net.specs.declared.event.Event.TheVariants.{Boot, Deliver, Lose, Repeat, Crash, CrashReport, Shuffle}
use Rattle.ov_net.specs.declared.event.Event.TheVariants.{Broadcast, Timer, Snapshot}
use Rattle.ov_net.specs.declared.fault.NetFault.TheVariants.{UsedId, TooManyNodes, TooManyEntries}
use Rattle.ov_net.specs.declared.member.Member.{Member}
use Rattle.ov_net.specs.declared.member.Member.TheVariants as member
use Rattle.ov_net.proofs.Journal.Outcomes.{Outcome, outcome, not_none}
use Rattle.ov_net.proofs.Journal.Telling.{own_begun, own_kept, tells_begun, tells_kept}
use Rattle.ov_net.proofs.Links.Kept.{by_views, by_journal, few_keys, few_live, mutual_after}
use Rattle.ov_net.proofs.Messages.Tracing.{traced_begun, traced_kept}
use Rattle.ov_net.proofs.Steps.EventEffects.{contact_next}

-- a node in place of another does not make more nodes
put_again : (w : Net) (a : ℕ) (was now : Member) → map.get w.nodes a ≡ Some was
    → map.len (map.insert w.nodes a now) ≡ map.len w.nodes
put_again w a was now there =
    map.len-insert nat_cmp_total w.nodes a now
    ∙ ap (λ (o : Option Member). cond (is_some o) (map.len w.nodes) (map.len w.nodes + 1)) there

-- a node makes one more at most
put_more : (w : Net) (a : ℕ) (now : Member) → map.len (map.insert w.nodes a now) ≤ map.len w.nodes + 1
put_more w a now = by (is_some (map.get w.nodes a)) (map.len-insert nat_cmp_total w.nodes a now)
  where
    by : (b : Bool) → map.len (map.insert w.nodes a now) ≡ cond b (map.len w.nodes) (map.len w.nodes + 1)
        → map.len (map.insert w.nodes a now) ≤ map.len w.nodes + 1
    by true e = omega (arith, e)
    by false e = omega (arith, e)

same_nodes : (w u : Net) (packets : List (ℕ × Message)) → u ≡ record w { packets = packets }
    → map.len u.nodes ≡ map.len w.nodes
same_nodes w u packets e = ap (λ (x : Net). map.len x.nodes) e

moved_nodes : (w : Net) (a : ℕ) (p : PeerState) (i : Input) (words : List ℕ) (u : Net) (changes : List Change)
    (delivery : Option Delivery) → LivesAs w a p → TakesInput w a p i words u changes delivery
    → map.len u.nodes ≡ map.len w.nodes
moved_nodes w a p i words u changes delivery lives h =
    ap (λ (x : Net). map.len x.nodes) h.4 ∙ put_again w a (member.Live p) (member.Live h.0) lives

live_nodes : (w : Net) (a : ℕ) (i : Input) (words : List ℕ) (u : Net) (changes : List Change)
    (delivery : Option Delivery) → LiveTakesInput w a i words u changes delivery → map.len u.nodes ≡ map.len w.nodes
live_nodes w a i words u changes delivery h = moved_nodes w a h.0 i words u changes delivery h.1 h.2

received_nodes : (w : Net) (a : ℕ) (message : Message) (m : Option Member) (words : List ℕ) (u : Net)
    (changes : List Change) (delivery : Option Delivery) → map.get w.nodes a ≡ m
    → Received w a message m words u changes delivery → map.len u.nodes ≡ map.len w.nodes
received_nodes w a message (Some (member.Live p)) words u changes delivery lives h =
    moved_nodes w a p (input.Receive message) words u changes delivery lives h
received_nodes w a message (Some member.Gone) words u changes delivery e h = same_nodes w u w.packets h.0
received_nodes w a message None words u changes delivery e h = same_nodes w u w.packets h.0

fewer_than : (contact : Option ℕ) (w : Net) → ContactThen w contact (BirthLast w) None
    → map.len w.nodes < most_world_nodes w.params
fewer_than contact w h =
    let birth = contact_next w contact (BirthLast w) h in
    (step_none (map.len w.nodes < most_world_nodes w.params) TooManyNodes (PlacesLast w) birth).0

few_nodes : (w : Net) (event : Event) (words : List ℕ) (u : Net) (changes : List Change) (delivery : Option Delivery)
    → EventJudged w event None → Happens w event words u changes delivery
    → map.len w.nodes ≤ most_world_nodes w.params → map.len u.nodes ≤ most_world_nodes w.params
few_nodes w (Boot a contact) words u changes delivery judged h few =
    let room = fewer_than contact w (step_none _ UsedId (ContactThen w contact (BirthLast w)) judged).1 in
    let same : map.len u.nodes ≡ map.len (map.insert w.nodes a (member.Live h.2.0)) =
    ap (λ (x : Net). map.len x.nodes) h.2.4 in
    omega (arith, same, put_more w a (member.Live h.2.0), room)
few_nodes w (Deliver i) words u changes delivery judged h few =
    let same = received_nodes (record w { packets = remove w.packets i }) h.0.0 h.0.1 (map.get w.nodes h.0.0) words u
    changes delivery refl h.2 in omega (arith, same, few)
few_nodes w (Lose i) words u changes delivery judged h few =
    let same = same_nodes w u (remove w.packets i) h.2.0 in omega (arith, same, few)
few_nodes w (Repeat i) words u changes delivery judged h few =
    let same = same_nodes w u (w.packets ++ h.0 ∷ []) h.2.0 in omega (arith, same, few)
few_nodes w (Crash a) words u changes delivery judged h few =
    let same : map.len u.nodes ≡ map.len w.nodes = ap (λ (x : Net). map.len x.nodes) h.2
    ∙ put_again w a (member.Live h.0) member.Gone h.1 in omega (arith, same, few)
few_nodes w (CrashReport a crashed) words u changes delivery judged h few =
    let same = live_nodes w a (input.CrashReport crashed) words u changes delivery h.1 in omega (arith, same, few)
few_nodes w (Shuffle a) words u changes delivery judged h few =
    let same = live_nodes w a input.Shuffle words u changes delivery h in omega (arith, same, few)
few_nodes w (Broadcast a payload) words u changes delivery judged h few =
    let same = live_nodes w a (input.Broadcast payload) words u changes delivery h in omega (arith, same, few)
few_nodes w (Timer a id) words u changes delivery judged h few =
    let same = live_nodes w a (input.Timer id) words u changes delivery h in omega (arith, same, few)
few_nodes w Snapshot words u changes delivery judged h few =
    let same = same_nodes w u w.packets h.0 in omega (arith, same, few)

received_params : (w : Net) (a : ℕ) (message : Message) (m : Option Member) (words : List ℕ) (u : Net)
    (changes : List Change) (delivery : Option Delivery) → Received w a message m words u changes delivery
    → u.params ≡ w.params
received_params w a message (Some (member.Live p)) words u changes delivery h = ap (λ (x : Net). x.params) h.4
received_params w a message (Some member.Gone) words u changes delivery h = ap (λ (x : Net). x.params) h.0
received_params w a message None words u changes delivery h = ap (λ (x : Net). x.params) h.0

-- no event changes the parameters
same_params : (w : Net) (event : Event) (words : List ℕ) (u : Net) (changes : List Change) (delivery : Option Delivery)
    → Happens w event words u changes delivery → u.params ≡ w.params
same_params w (Boot a contact) words u changes delivery h = ap (λ (x : Net). x.params) h.2.4
same_params w (Deliver i) words u changes delivery h =
    received_params (record w { packets = remove w.packets i }) h.0.0 h.0.1 (map.get w.nodes h.0.0) words u changes
    delivery h.2
same_params w (Lose i) words u changes delivery h = ap (λ (x : Net). x.params) h.2.0
same_params w (Repeat i) words u changes delivery h = ap (λ (x : Net). x.params) h.2.0
same_params w (Crash a) words u changes delivery h = ap (λ (x : Net). x.params) h.2
same_params w (CrashReport a crashed) words u changes delivery h = ap (λ (x : Net). x.params) h.1.2.4
same_params w (Shuffle a) words u changes delivery h = ap (λ (x : Net). x.params) h.2.4
same_params w (Broadcast a payload) words u changes delivery h = ap (λ (x : Net). x.params) h.2.4
same_params w (Timer a id) words u changes delivery h = ap (λ (x : Net). x.params) h.2.4
same_params w Snapshot words u changes delivery h = ap (λ (x : Net). x.params) h.0

numbered_more : (journal : List Entry) (k : ℕ) (e : Entry)
    → ((i : ℕ) (x : Entry) → slice_get journal i ≡ Some x → x.number ≡ k + i + 1) → e.number ≡ k + length journal + 1
    → (i : ℕ) (x : Entry) → slice_get (journal ++ e ∷ []) i ≡ Some x → x.number ≡ k + i + 1
numbered_more [] k e each last zero x at = sym (ap (number_or k) at) ∙ last
  where
    number_or : ℕ → Option Entry → ℕ
    number_or d None = d
    number_or d (Some y) = y.number
numbered_more [] k e each last (suc i) x at = absurd cc
numbered_more (y ∷ journal) k e each last zero x at = each zero x at
numbered_more (y ∷ journal) k e each last (suc i) x at =
    let r = numbered_more journal (suc k) e (λ j z h. let s = each (suc j) z h in omega (arith, s))
    (omega (arith, last)) i x at in omega (arith, r)

stands_begun : (params : ParamsState) → Stands (opening_world params)
stands_begun params = record {
  nodes = omega (arith, map.len-empty nat_cmp Member);
  packets = omega arith;
  entries = omega arith;
  numbered = λ i e at. absurd cc;
  own = own_begun params;
  tells = tells_begun params;
  traced = traced_begun params;
}

pub stands_new : (params : ParamsState) (nodes : map.FinMap nat_cmp Member) (packets : List (ℕ × Message))
    (journal : List Entry) → nodes ≡ map.empty → packets ≡ [] → journal ≡ []
    → Stands (world_of params nodes packets journal)
stands_new params nodes packets journal n p j =
    let e : ◌≡◌ {A = WorldState} (world_of params nodes packets journal) (opening_world params) =
    λ i. world_of params (n i) (p i) (j i) in
    subst Stands (sym e) (stands_begun params)

stands_kept : (c : WorldState) (event : Event) (words : List ℕ) (u : Net) (e : Entry) → Stands c
    → MayHappen c.net (length c.journal) event → NetStep c.net event words u e
    → e.number ≡ length c.journal + 1 → length u.packets ≤ most_packets c.net.params
    → Stands (record { net = u; journal = c.journal ++ e ∷ [] })
stands_kept c event words u e s judged step number few =
    let j = step_none (length c.journal < most_entries c.net.params) TooManyEntries (EventJudged c.net event) judged in
    let same = sym (same_params c.net event words u e.changes e.delivery step.2) in
    let longer : length (c.journal ++ e ∷ []) ≤ most_entries c.net.params =
    omega (arith, j.0, length-append c.journal (e ∷ [])) in
    record {
      nodes = subst (λ (p : ParamsState). map.len u.nodes ≤ most_world_nodes p) same
          (few_nodes c.net event words u e.changes e.delivery j.1 step.2 s.nodes);
      packets = subst (λ (p : ParamsState). length u.packets ≤ most_packets p) same few;
      entries = subst (λ (p : ParamsState). length (c.journal ++ e ∷ []) ≤ most_entries p) same longer;
      numbered = λ i x at.
          let r = numbered_more c.journal 0 e (λ k y h. let n = s.numbered k y h in omega (arith, n))
          (omega (arith, number)) i x at in omega (arith, r);
      own = own_kept c.net event words u e s.own step;
      tells = tells_kept c event words u e s.tells s.own step;
      traced = traced_kept c event words u e s.traced s.own step;
    }

-- the invariant after an event, of the parts that the code has
pub stands_next : (seen c : WorldState) (event : Event) (words : List ℕ) (b : Effects) (e : Entry) (u : Net)
    (journal : List Entry) → seen ≡ c → Stands seen
    → MayHappen c.net (length c.journal) event → AreEffects c.net event words b → HaveRoom c.net b
    → (e.event ≡ event) × (e.words ≡ words) × (e.changes ≡ b.changes) × (e.delivery ≡ b.delivery)
    × (e.number ≡ length seen.journal + 1)
    → IsAfter seen.net b u → journal ≡ seen.journal ++ e ∷ [] → Stands (record { net = u; journal = journal })
stands_next seen c event words b e u journal same s judged_of effects_of few_of entry after j =
    let back = sym same in
    let judged = subst (λ (x : WorldState). MayHappen x.net (length x.journal) event) back judged_of in
    let effects = subst (λ (x : WorldState). AreEffects x.net event words b) back effects_of in
    let few = subst (λ (x : WorldState). HaveRoom x.net b) back few_of in
    let happens = effects.happens u after in
    let told : Happens seen.net event words u e.changes e.delivery =
    subst (λ d. Happens seen.net event words u e.changes d) (sym entry.3)
    (subst (λ x. Happens seen.net event words u x b.delivery) (sym entry.2) happens) in
    let next = stands_kept seen event words u e s judged (entry.0, entry.1, told) entry.4
    (subst (λ (v : List (ℕ × Message)). length v ≤ most_packets seen.net.params) (sym after.packets) few) in
    subst (λ (k : List Entry). Stands (record { net = u; journal = k })) (sym j) next

-- and the event is a step of the world
pub step_next : (seen c : WorldState) (event : Event) (words : List ℕ) (b : Effects) (e : Entry) (u : Net) → seen ≡ c
    → AreEffects c.net event words b
    → (e.event ≡ event) × (e.words ≡ words) × (e.changes ≡ b.changes) × (e.delivery ≡ b.delivery) → IsAfter seen.net b u
    → NetStep c.net event words u e
step_next seen c event words b e u same effects entry after =
    let happens = effects.happens u (subst (λ (x : WorldState). IsAfter x.net b u) same after) in (
      entry.0,
      entry.1,
      subst (λ d. Happens c.net event words u e.changes d) (sym entry.3) (subst
          (λ x. Happens c.net event words u x b.delivery) (sym entry.2) happens),
    )

pub one_longer : (journal : List Entry) (e : Entry) → length (journal ++ e ∷ []) ≡ length journal + 1
one_longer journal e = length-append journal (e ∷ [])

-- what an event does to the nodes, by its effects
pub outcome_next : (seen c : WorldState) (event : Event) (words : List ℕ) (b : Effects)
    (nodes : map.FinMap nat_cmp Member) → seen ≡ c → AreEffects c.net event words b
    → NamedNodeChanges b.node seen.net.nodes nodes
    → Outcome (map.get seen.net.nodes) (map.get nodes) (newborn_of event) b.changes
outcome_next seen c event words b nodes same effects changed =
    let u : Net = record { params = seen.net.params; nodes = nodes; packets = packets_after seen.net b } in
    let own = subst (λ (x : WorldState). AreEffects x.net event words b) (sym same) effects in
    outcome seen.net event words u b.changes b.delivery
    (own.happens u (record { params = refl; nodes = changed; packets = refl }))

-- a world's graph, and what it was before
pub record GraphAfter (seen : WorldState) (event : Event) (nodes : map.FinMap nat_cmp Member) (changes : List Change)
    (g k : LinkGraph) : Type 0 where
  pub was : IsMutual (map.get seen.net.nodes) g
  pub outcome : Outcome (map.get seen.net.nodes) (map.get nodes) (newborn_of event) changes
  pub gains : Gains (newborn_of event) g k
  pub graph : IsGraph k

pub graph_after : (seen c : WorldState) (event : Event) (words : List ℕ) (b : Effects)
    (nodes : map.FinMap nat_cmp Member) (g k : LinkGraph) → seen ≡ c → Stands seen
    → AreLinks seen.journal (length seen.journal) g → AreEffects c.net event words b
    → NamedNodeChanges b.node seen.net.nodes nodes → Gains (newborn_of event) g k → IsGraph k
    → GraphAfter seen event nodes b.changes g k
graph_after seen c event words b nodes g k same s are effects changed gains graph = record {
  was = by_views seen g s.tells are;
  outcome = outcome_next seen c event words b nodes same effects changed;
  gains = gains;
  graph = graph;
}

-- the graph of a world of the profile's scale is small, and the newborn node of an event that may happen is not in it,
-- and has room
pub may_gain : (seen c : WorldState) (event : Event) (g : LinkGraph) → seen ≡ c → Stands seen
    → seen.net.params.scale ≡ Profile → AreLinks seen.journal (length seen.journal) g
    → MayHappen c.net (length c.journal) event → MayGain (newborn_of event) g
may_gain seen c event g same s profile are judged =
    by event (step_none (length seen.journal < most_entries seen.net.params) TooManyEntries (EventJudged seen.net event)
    (subst (λ (x : WorldState). MayHappen x.net (length x.journal) event) (sym same) judged)).1
  where
    most : most_world_nodes seen.net.params ≡ 256
    most = ap most_born_at profile

    small : IsSmall g
    small = let few = few_live seen.net.nodes g (by_views seen g s.tells are) in
        let nodes = s.nodes in omega (arith, few, nodes, most)

    by : (e : Event) → EventJudged seen.net e None → MayGain (newborn_of e) g
    by (Boot a contact) j =
        let w = seen.net in
        let r = step_none (map.get w.nodes a ≡ None) UsedId (ContactThen w contact (BirthLast w)) j in
        let room = fewer_than contact w r.1 in
        let is = by_views seen g s.tells are in
        let few = few_live w.nodes g is in (
          (λ i. let l = (is.nodes a).0 i in not_none (member.Live l.0) (map.get w.nodes a) l.1 r.0),
          omega (arith, room, few, most),
        )
    by (Deliver i) j = small
    by (Lose i) j = small
    by (Repeat i) j = small
    by (Crash a) j = small
    by (CrashReport a crashed) j = small
    by (Shuffle a) j = small
    by (Broadcast a payload) j = small
    by (Timer a id) j = small
    by Snapshot j = small

-- the graph after an event, changed with its changes
pub graph_next : (seen : WorldState) (event : Event) (nodes : map.FinMap nat_cmp Member) (changes : List Change)
    (g k h : LinkGraph) → GraphAfter seen event nodes changes g k → AreChanged nodes changes k h
    → (params : ParamsState) (packets : List (ℕ × Message)) (journal : List Entry)
    → Stands (world_of params nodes packets journal) → AreLinks journal (length journal) h
graph_next seen event nodes changes g k h after changed params packets journal s =
    by_journal (world_of params nodes packets journal) h s.tells
    (mutual_after (map.get seen.net.nodes) nodes (newborn_of event) changes g k h after.was after.outcome after.gains
    after.graph changed)

-- at the beginning there is no node
pub links_begun : (journal : List Entry) (g : LinkGraph) → journal ≡ [] → g ≡ record { nodes = []; links = [] }
    → AreLinks journal (length journal) g
unfolding Linked
links_begun journal g e f =
    subst (λ (j : List Entry). AreLinks j (length j) g) (sym e) (subst (AreLinks [] 0) (sym f) (record {
      graph = record { nodes_ascend = tt; links_ascend = tt; joins = λ l i. absurd i };
      nodes = λ a. ((λ i. absurd i), (λ l. absurd l.0));
      links = λ a b. ((λ l. elim l [ inl i ↦ absurd i | inr i ↦ absurd i ]), (λ h. absurd h.0.0));
    }))

-- a change of the first entries is one of all
has_earlier : (journal : List Entry) (m : ℕ) (change : Change) → Has (changes_of (take m journal)) change
    → Has (changes_of journal) change
has_earlier journal zero change h = absurd h
has_earlier [] (suc m) change h = absurd h
has_earlier (e ∷ journal) (suc m) change h =
    elim (has_append_cases e.changes (changes_of (take m journal)) change h) [
      | inl i ↦ has_append_left e.changes (changes_of journal) change i
      | inr i ↦ has_append_right e.changes (changes_of journal) change (has_earlier journal m change i)
    ]

-- who was alive at a moment was born, so these are no more than may be born
pub few_at_each_moment : (c : WorldState) → Stands c → HasFewNodes c.net.params c.journal
few_at_each_moment c s m g links =
    let few = few_keys g.nodes c.net.nodes links.graph.nodes_ascend
    (λ a i none. s.tells.unborn a (Born a) none (has_earlier c.journal m (Born a) ((links.nodes a).0 i).0) refl) in
    let most = s.nodes in omega (arith, few, most)
