-- What acts leave of the nodes: who lives goes on living, nobody is born, and nobody has made a broadcast more.
use Rattle.std.proofs.Common.{◌≡◌, ◌≢◌, ℕ, zero, suc, ◌+◌, Bool, true, false, cond, List, Option, Some, None, refl, sym}
use Rattle.std.proofs.Common.{[], ◌∷◌, ◌≤◌, ap, subst, ◌∙◌, inl, inr, arith, length}
use Rattle.std.proofs.lemmas.Bool.{cases_eq}
use Rattle.std.specs.Prelude.{MatchBool, is_some, nat_lt, remove}
use Rattle.std.specs.Ordering.{eq_by_cmp, nat_cmp}
use Rattle.std.specs.FinMap as map
use Rattle.std.specs.Cmp.{nat_cmp_total}
use Rattle.std.specs.FinMap.{get-empty, get-insert, len-empty, len-insert, nat_cmp-IsAntisymmetric}
use Rattle.ov_wire.specs.declared.message.Message.{Message}
use Rattle.ov_peer.specs.PeerState.{PeerState}
use Rattle.ov_peer.specs.declared.input_and_output.Delivery.{Delivery}
use Rattle.ov_peer.specs.declared.input_and_output.Input.{Input}
use Rattle.ov_peer.specs.declared.input_and_output.Input.TheVariants as input
use Rattle.ov_ids.specs.Scales.{most_born_at}
use Rattle.ov_ids.specs.declared.id.MsgId.{MsgId}
use Rattle.ov_ids.specs.declared.world_scale.Scale.TheVariants.{Profile, Large}
use Rattle.ov_net.specs.Limits.{most_world_nodes}
use Rattle.ov_net.specs.Net.{Net, LivesAs}
use Rattle.ov_net.specs.NetStep.{LiveTakesInput, Received, TakesInput}
use Rattle.ov_net.specs.declared.journal_entry_and_changes.Change.{Change}
use Rattle.ov_net.specs.declared.journal_entry_and_changes.Entry.{Entry}
use Rattle.ov_script.specs.declared.recordable_event.Act.{Act}
use Rattle.std.proofs.Common.{◌++◌, append_assoc, append-nil}
use Rattle.ov_net.specs.declared.member.Member.{Member}
use Rattle.ov_net.specs.declared.member.Member.TheVariants.{Live, Gone}
use Rattle.rand_pcg.specs.Lcg.{Lcg}
use Rattle.ov_ids.specs.Members.{Has}
use Rattle.ov_net.proofs.Journal.Outcomes.{same_live}
use Rattle.ov_net.proofs.Steps.Places.{has_at, has_remove, inserted_cases, inserted_here}
use Rattle.ov_script.specs.declared.recordable_event.Act.TheVariants as act
use Rattle.ov_grow.specs.Choices.{IsRandomOrder, later, one_of}
use Rattle.ov_grow_options.specs.Limits.{most_nodes}
use Rattle.ov_grow.specs.Growing.{scale_for}
use Rattle.ov_grow.specs.Growth.{Growth, Does, IsLive}
use Rattle.ov_grow.specs.Rounds.{AreLiveInOrder}
use Rattle.ov_grow.specs.Turns.{Arrives, IsDelivered, MayBeRepeated, SenderIsTold, Turn, TurnsUpTo}
use Rattle.ov_grow.specs.Code.Standing.{AllLive, AreBorn, BornIn, MayBear}
use Rattle.ov_grow.specs.declared.phase_rules.PhaseRules.{PhaseRules}
use Rattle.std.proofs.lemmas.Bool.Decides.{nat_tests}
use Rattle.ov_grow.proofs.Made.{MakesNone, none_made}
use Rattle.ov_grow.proofs.SameParams.{does_params}
use Rattle.ov_grow.proofs.Turning.{whose_same}

-- who lives goes on living, nobody is born, as many were born, and nobody has made a broadcast more
pub record KeepsNodes (m n : map.FinMap nat_cmp Member) : Type 0 where
  pub live : (a : ℕ) (p : PeerState) → map.get m a ≡ Some (Live p) → (q : PeerState) × (map.get n a ≡ Some (Live q))
  pub born : (a : ℕ) → map.get n a ≢ None → map.get m a ≢ None
  pub count : map.len n ≡ map.len m
  pub made : (a : ℕ) (q : PeerState) → map.get n a ≡ Some (Live q)
      → (p : PeerState) × (map.get m a ≡ Some (Live p)) × (q.tree.made ≤ p.tree.made)

-- the same of where growing stands, the parameters are the same, and the journal has more entries
pub record Keeps (s u : Growth) : Type 0 where
  pub params : u.world.net.params ≡ s.world.net.params
  pub nodes : KeepsNodes s.world.net.nodes u.world.net.nodes
  pub more : List Entry
  pub journal : u.world.journal ≡ s.world.journal ++ more

same_nodes : (m n : map.FinMap nat_cmp Member) → n ≡ m → KeepsNodes m n
same_nodes m n same = record {
  live = λ a p lives. (p, subst (λ x. map.get x a ≡ Some (Live p)) (sym same) lives);
  born = λ a born. subst (λ x. map.get x a ≢ None) same born;
  count = ap (λ x. map.len x) same;
  made = λ a q lives. (q, subst (λ x. map.get x a ≡ Some (Live q)) same lives, omega arith);
}

nodes_trans : (m n k : map.FinMap nat_cmp Member) → KeepsNodes m n → KeepsNodes n k → KeepsNodes m k
nodes_trans m n k one two = record {
  live = λ a p lives. let (q, then) = one.live a p lives in two.live a q then;
  born = λ a born. one.born a (two.born a born);
  count = two.count ∙ one.count;
  made = λ a q lives. let (p, then, fewer) = two.made a q lives in
      let (x, first, less) = one.made a p then in (x, first, omega (arith, fewer, less));
}

pub keeps_same : (s u : Growth) → u.world ≡ s.world → Keeps s u
keeps_same s u same = record {
  params = ap (λ w. w.net.params) same;
  nodes = same_nodes s.world.net.nodes u.world.net.nodes (ap (λ w. w.net.nodes) same);
  more = [];
  journal = ap (λ w. w.journal) same ∙ sym (append-nil s.world.journal);
}

pub keeps_trans : (s t u : Growth) → Keeps s t → Keeps t u → Keeps s u
keeps_trans s t u one two = record {
  params = two.params ∙ one.params;
  nodes = nodes_trans s.world.net.nodes t.world.net.nodes u.world.net.nodes one.nodes two.nodes;
  more = one.more ++ two.more;
  journal = two.journal
      ∙ (ap (λ xs. xs ++ two.more) one.journal ∙ append_assoc s.world.journal one.more two.more);
}

did_keeps : (s u : Growth) (what : Act) → Does s what u → KeepsNodes s.world.net.nodes u.world.net.nodes → Keeps s u
did_keeps s u what did nodes = record {
  params = does_params s u what did;
  nodes = nodes;
  more = did.entry ∷ [];
  journal = did.step.journal;
}

pub lives_still : (here : Bool) (p q : PeerState) (o : Option Member) → o ≡ Some (Live p)
    → (x : PeerState) × (cond here (Some (Live q)) o ≡ Some (Live x))
lives_still true p q o lives = (q, refl)
lives_still false p q o lives = (p, lives)

is_there : (o : Option Member) → o ≢ None → (x : Member) × (o ≡ Some x)
is_there None born = absurd (born refl)
is_there (Some x) born = (x, refl)

not_none : (o : Option Member) (x : Member) → o ≡ Some x → o ≢ None
not_none o x is none = absurd cc

-- a live node has a new state, and has made no broadcast more
new_state : (m : map.FinMap nat_cmp Member) (a : ℕ) (p q : PeerState) → map.get m a ≡ Some (Live p)
    → q.tree.made ≤ p.tree.made → KeepsNodes m (map.insert m a (Live q))
new_state m a p q lives fewer = record {
  live = λ b x living. let (y, is) = lives_still (eq_by_cmp nat_cmp b a) x q (map.get m b) living in
      (y, get-insert nat_cmp_total m a (Live q) b ∙ is);
  born = λ b born. let (x, is) = is_there (map.get (map.insert m a (Live q)) b) born in
      elim (inserted_cases nat_cmp_total nat_cmp-IsAntisymmetric m a (Live q) b x is) [
        | inl here ↦ subst (λ i. map.get m i ≢ None) here.0 (not_none (map.get m a) (Live p) lives)
        | inr there ↦ not_none (map.get m b) x there.1
      ];
  count = len-insert nat_cmp_total m a (Live q)
      ∙ ap (λ b. cond b (map.len m) (map.len m + 1)) (ap (λ o. is_some o) lives);
  made = λ b x is. elim (inserted_cases nat_cmp_total nat_cmp-IsAntisymmetric m a (Live q) b (Live x) is) [
    | inl here ↦ (
      p,
      subst (λ i. map.get m i ≡ Some (Live p)) here.0 lives,
      subst (λ (y : PeerState). y.tree.made ≤ p.tree.made) (same_live q x here.1) fewer,
    )
    | inr there ↦ (x, there.1, omega arith)
  ];
}

takes_keeps : (w u : Net) (a : ℕ) (p : PeerState) (i : Input) (words : List ℕ) (changes : List Change)
    (delivery : Option Delivery) → MakesNone i → LivesAs w a p → TakesInput w a p i words u changes delivery
    → KeepsNodes w.nodes u.nodes
takes_keeps w u a p i words changes delivery none lives (q, sends, views, (left, enough, (cs, are, step)), same, is) =
    let made : q.tree.made ≡ p.tree.made = none_made p i cs q sends views delivery none step in
    subst (λ n. KeepsNodes w.nodes n) (sym (ap (λ (x : Net). x.nodes) same))
    (new_state w.nodes a p q lives (omega (arith, made)))

live_keeps : (w u : Net) (a : ℕ) (i : Input) (words : List ℕ) (changes : List Change) (delivery : Option Delivery)
    → MakesNone i → LiveTakesInput w a i words u changes delivery → KeepsNodes w.nodes u.nodes
live_keeps w u a i words changes delivery none (p, lives, takes) =
    takes_keeps w u a p i words changes delivery none lives takes

received_keeps : (w u : Net) (a : ℕ) (m : Message) (o : Option Member) (words : List ℕ) (changes : List Change)
    (delivery : Option Delivery) → map.get w.nodes a ≡ o → Received w a m o words u changes delivery
    → KeepsNodes w.nodes u.nodes
received_keeps w u a m (Some (Live p)) words changes delivery is takes =
    takes_keeps w u a p (input.Receive m) words changes delivery tt is takes
received_keeps w u a m (Some Gone) words changes delivery is only =
    same_nodes w.nodes u.nodes (ap (λ (x : Net). x.nodes) only.0)
received_keeps w u a m None words changes delivery is only =
    same_nodes w.nodes u.nodes (ap (λ (x : Net). x.nodes) only.0)

lose_keeps : (s u : Growth) (place : ℕ) → Does s (act.Lose place) u → Keeps s u
lose_keeps s u place did =
    let (packet, at, only) = did.step.step.2 in
    did_keeps s u (act.Lose place) did
    (same_nodes s.world.net.nodes u.world.net.nodes (ap (λ (x : Net). x.nodes) only.0))

repeat_keeps : (s u : Growth) (place : ℕ) → Does s (act.Repeat place) u → Keeps s u
repeat_keeps s u place did =
    let (packet, at, only) = did.step.step.2 in
    did_keeps s u (act.Repeat place) did
    (same_nodes s.world.net.nodes u.world.net.nodes (ap (λ (x : Net). x.nodes) only.0))

deliver_keeps : (s u : Growth) (place : ℕ) → Does s (act.Deliver place) u → Keeps s u
deliver_keeps s u place did =
    let (packet, at, received) = did.step.step.2 in
    did_keeps s u (act.Deliver place) did
    (received_keeps _ u.world.net packet.0 packet.1 (map.get s.world.net.nodes packet.0) did.words did.entry.changes
    did.entry.delivery refl received)

pub report_keeps : (s u : Growth) (node crashed : ℕ) → Does s (act.CrashReport node crashed) u → Keeps s u
report_keeps s u node crashed did =
    let (gone, takes) = did.step.step.2 in
    did_keeps s u (act.CrashReport node crashed) did
    (live_keeps s.world.net u.world.net node (input.CrashReport crashed) did.words did.entry.changes
    did.entry.delivery tt
    takes)

pub shuffle_keeps : (s u : Growth) (node : ℕ) → Does s (act.Shuffle node) u → Keeps s u
shuffle_keeps s u node did =
    did_keeps s u (act.Shuffle node) did
    (live_keeps s.world.net u.world.net node input.Shuffle did.words did.entry.changes did.entry.delivery tt
    did.step.step.2)

pub timer_keeps : (s u : Growth) (node : ℕ) (id : MsgId) → Does s (act.Timer node id) u → Keeps s u
timer_keeps s u node id did =
    did_keeps s u (act.Timer node id) did
    (live_keeps s.world.net u.world.net node (input.Timer id) did.words did.entry.changes did.entry.delivery tt
    did.step.step.2)

pub snapshot_keeps : (s u : Growth) → Does s act.Snapshot u → Keeps s u
snapshot_keeps s u did =
    did_keeps s u act.Snapshot did
    (same_nodes s.world.net.nodes u.world.net.nodes (ap (λ (x : Net). x.nodes) did.step.step.2.0))

told_keeps : (b s u : Growth) (place : ℕ) (tells : Bool) → MatchBool tells (SenderIsTold b place s u) (u ≡ s)
    → Keeps s u
told_keeps b s u place true (packet, at, inl (failed, did)) = report_keeps s u packet.1.from packet.0 did
told_keeps b s u place true (packet, at, inr (fine, same)) = keeps_same s u (ap (λ g. g.world) same)
told_keeps b s u place false same = keeps_same s u (ap (λ g. g.world) same)

delivered_keeps : (rules : PhaseRules) (place : ℕ) (s u : Growth) → IsDelivered rules place s u → Keeps s u
delivered_keeps rules place s u (t, did, told) =
    keeps_trans s t u (deliver_keeps s t place did) (told_keeps s t u place rules.tells_crashes told)

repeated_keeps : (rules : PhaseRules) (place : ℕ) (s u : Growth) → MayBeRepeated rules place s u → Keeps s u
repeated_keeps rules place s u (true, t, tries, did) =
    keeps_trans s t u (keeps_same s t (ap (λ g. g.world) tries.1)) (repeat_keeps t u place did)
repeated_keeps rules place s u (false, t, tries, same) =
    keeps_same s u (ap (λ g. g.world) same ∙ ap (λ g. g.world) tries.1)

lost_keeps : (rules : PhaseRules) (place : ℕ) (s u : Growth) (lost : Bool)
    → MatchBool lost (Does s (act.Lose place) u) (Arrives rules place s u) → Keeps s u
lost_keeps rules place s u true did = lose_keeps s u place did
lost_keeps rules place s u false (t, again, arrived) =
    keeps_trans s t u (repeated_keeps rules place s t again) (delivered_keeps rules place t u arrived)

-- a turn
pub turn_keeps : (rules : PhaseRules) (s u : Growth) → Turn rules s u → Keeps s u
turn_keeps rules s u (place, lost, t, v, whose, tries, rest) =
    keeps_trans s v u (keeps_same s v (ap (λ g. g.world) tries.1 ∙ whose_same rules.order place s t whose))
    (lost_keeps rules place v u lost rest)

-- so many turns
pub turns_keep : (rules : PhaseRules) (n : ℕ) (s u : Growth) → TurnsUpTo rules n s u → Keeps s u
turns_keep rules zero s u same = keeps_same s u (ap (λ g. g.world) same)
turns_keep rules (suc n) s u (inl none) = keeps_same s u (ap (λ g. g.world) none.1)
turns_keep rules (suc n) s u (inr (some, t, turn, more)) =
    keeps_trans s t u (turn_keeps rules s t turn) (turns_keep rules n t u more)

-- shuffles
pub shuffles_live : (nodes : List ℕ) (s u : Growth) (node : ℕ) → AllLive nodes s → Does s (act.Shuffle node) u
    → AllLive nodes u
shuffles_live nodes s u node all did = λ a has.
    let (p, lives) = all a has in (shuffle_keeps s u node did).nodes.live a p lives

-- who is in a random order of the live nodes lives
pub order_has : (ids order : List ℕ) (before after : Lcg) (a : ℕ) → IsRandomOrder ids order before after → Has order a
    → Has ids a
order_has ids [] before after a none has = absurd has
order_has ids (first ∷ order) before after a (at, rest) (inl same) =
    subst (λ x. Has ids x) same (has_at ids (one_of (length ids) before) first at)
order_has ids (first ∷ order) before after a (at, rest) (inr has) =
    has_remove ids (one_of (length ids) before) a
    (order_has (remove ids (one_of (length ids) before)) order (later before) after a rest has)

pub order_lives : (s u : Growth) (order : List ℕ) → AreLiveInOrder s order u → AllLive order u
order_lives s u order (live, after, are, orders, same) = λ a has.
    subst (λ g. IsLive g a) (sym same) (are.live a (order_has live order s.choices after a orders has))

-- turns leave those that were born
pub born_keeps : (n : ℕ) (s u : Growth) → Keeps s u → AreBorn n s → AreBorn n u
born_keeps n s u keeps born = record {
  live = λ a least most. let (p, lives) = born.live a least most in keeps.nodes.live a p lives;
  born = λ a has. born.born a (keeps.nodes.born a has);
  count = keeps.nodes.count ∙ born.count;
}

pub born_turns : (rules : PhaseRules) (pace n : ℕ) (s u : Growth) → TurnsUpTo rules pace s u → AreBorn n s → AreBorn n u
born_turns rules pace n s u turns = born_keeps n s u (turns_keep rules pace s u turns)

-- as many nodes as an overlay may be grown with may be born in a world of the scale that they need
pub room_for : (n : ℕ) → n ≤ most_nodes → n ≤ most_born_at (scale_for n)
room_for n most = by (nat_lt (most_born_at Profile) n) refl
  where
    by : (b : Bool) → nat_lt (most_born_at Profile) n ≡ b → n ≤ most_born_at (cond b Large Profile)
    by true is = most
    by false is = grind (arith, nat_tests)

-- turns and births leave how many may be born
pub bear_turns : (rules : PhaseRules) (pace n : ℕ) (s u : Growth) → TurnsUpTo rules pace s u → MayBear n s → MayBear n u
bear_turns rules pace n s u turns may =
    subst (λ p. n ≤ most_world_nodes p) (sym (turns_keep rules pace s u turns).params) may

pub bear_more : (n : ℕ) (s u : Growth) (what : Act) → Does s what u → MayBear n s → MayBear n u
bear_more n s u what did may = subst (λ p. n ≤ most_world_nodes p) (sym (does_params s u what did)) may

-- nobody was born yet
pub none_born : (s : Growth) → s.world.net.nodes ≡ map.empty → AreBorn 0 s
none_born s none = record {
  live = λ a least most. absurd (omega (arith, least, most));
  born = λ a born. absurd (born (ap (λ m. map.get m a) none ∙ get-empty nat_cmp a));
  count = ap (λ m. map.len m) none ∙ len-empty nat_cmp Member;
}

-- one node more was born
pub one_born : (n id : ℕ) (contact : Option ℕ) (s u : Growth) → AreBorn n s → id ≡ n + 1
    → Does s (act.Boot id contact) u → AreBorn (n + 1) u
one_born n id contact s u born is did =
    let m = s.world.net.nodes in
    let (fresh, rest, (q, sends, views, drawn, same, changed), changes) = did.step.step.2 in
    let nodes : u.world.net.nodes ≡ map.insert m id (Live q) = ap (λ (x : Net). x.nodes) same in
    subst (λ (x : map.FinMap nat_cmp Member). BornIn (n + 1) x) (sym nodes) (record {
      live = λ a least most. elim (cases_eq a id) [
        | inl here ↦ (
          q,
          subst (λ i. map.get (map.insert m id (Live q)) i ≡ Some (Live q)) (sym here)
              (inserted_here nat_cmp_total m id (Live q)),
        )
        | inr other ↦ let (p, lives) = born.live a least (omega (arith, most, is, other)) in
            let (x, living) = lives_still (eq_by_cmp nat_cmp a id) p q (map.get m a) lives in
            (x, get-insert nat_cmp_total m id (Live q) a ∙ living)
      ];
      born = λ a has. let (x, there) = is_there (map.get (map.insert m id (Live q)) a) has in
          elim (inserted_cases nat_cmp_total nat_cmp-IsAntisymmetric m id (Live q) a x there) [
            | inl here ↦ omega (arith, here.0, is)
            | inr old ↦ let least = born.born a (not_none (map.get m a) x old.1) in omega (arith, least)
          ];
      count = len-insert nat_cmp_total m id (Live q)
          ∙ (ap (λ b. cond b (map.len m) (map.len m + 1)) (ap (λ o. is_some o) fresh) ∙ ap (λ k. k + 1) born.count);
    })
