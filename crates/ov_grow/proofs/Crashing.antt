-- Which nodes may crash, and what crashes leave of the nodes.
use Rattle.std.proofs.Common.{◌≡◌, ◌≢◌, ◌<◌, ◌≤◌, ◌+◌, ◌*◌, ◌/◌, ℕ, zero, suc, Bool, true, false, cond, List, [], ◌∷◌}
use Rattle.std.proofs.Common.{length, take, Option, Some, None, refl, sym, ap, subst, ◌∙◌, inl, inr, arith, ◌-◌}
use Rattle.std.specs.Prelude.{remove, slice_get}
use Rattle.std.specs.declared.cmp.Ordering.{Ordering}
use Rattle.std.specs.declared.cmp.Ordering.TheVariants.{Less, Equal, Greater}
use Rattle.std.specs.Ordering.{eq_by_cmp, is_eq, nat_cmp}
use Rattle.std.specs.Cmp.{nat_cmp_total}
use Rattle.std.specs.FinMap as map
use Rattle.std.specs.FinMap.{get-empty, get-insert, nat_cmp-IsAntisymmetric}
use Rattle.std.proofs.lemmas.Option.{none-some, same_Some}
use Rattle.rand_pcg.specs.Lcg.{Lcg}
use Rattle.ov_ids.specs.Members.{Has, IsDistinct}
use Rattle.ov_ids.proofs.Members.{ascends_distinct}
use Rattle.ov_peer.specs.PeerState.{PeerState}
use Rattle.ov_peer.specs.declared.input_and_output.Input.TheVariants as input
use Rattle.ov_net.specs.Net.{Net}
use Rattle.ov_net.specs.declared.member.Member.{Member}
use Rattle.ov_net.specs.declared.member.Member.TheVariants.{Live, Gone}
use Rattle.ov_net.proofs.Journal.Outcomes.{gone_dead, same_live}
use Rattle.ov_net.proofs.Steps.Places.{has_at, has_remove, inserted_cases, inserted_here}
use Rattle.std.proofs.Math.Nat.{div-lt_iff_lt-mul, mul-lt-mul_of_pos_left}
use Rattle.std.proofs.lemmas.List.{take-append-le}
use Rattle.ov_graph.specs.Links.{LinkGraph, AreAllLinked}
use Rattle.ov_cert.specs.declared.cert.Cert.{Cert}
use Rattle.ov_cert.specs.declared.cert.Cert.TheVariants.{Linked, Split}
use Rattle.ov_even.specs.Answer.{IsAnswer}
use Rattle.ov_even.proofs.AnalysisSteps.Assembling.{whole_group}
use Rattle.ov_even.proofs.EvenTest.Splitting.{parted_splits}
use Rattle.ov_net.specs.Journal.{AreLinks, LivesAfter, changes_of}
use Rattle.ov_grow_options.specs.Limits.{most_share}
use Rattle.ov_grow_options.specs.declared.options.GrowOptions.{GrowOptions}
use Rattle.ov_script.specs.declared.recordable_event.Act.TheVariants as act
use Rattle.ov_grow.specs.Choices.{IsRandomOrder, later, one_of}
use Rattle.ov_grow.specs.Growth.{Growth, Does, IsLive, SomebodyLives}
use Rattle.ov_grow.specs.Rounds.{DoesEach}
use Rattle.ov_grow_options.specs.declared.options.Crash.{Crash}
use Rattle.ov_grow_options.specs.declared.options.Crash.TheVariants.{Share, Cut}
use Rattle.ov_grow.specs.Phases.{AreShareOfLive, AreToCrash, IsCutAt, cut_of, Births, Join, joining}
use Rattle.ov_grow.specs.Code.Standing.{AllLive, HaveMade, MayCrash, StillLive}
use Rattle.ov_grow.specs.declared.phase_rules.PhaseRules.{PhaseRules}
use Rattle.ov_grow.proofs.Keeping.{keeps_same, lives_still, order_has, order_lives, turns_keep}
use Rattle.ov_grow.proofs.Made.{none_made}
use Rattle.ov_grow.proofs.Making.{MakesMost, made_keeps, makes_none, makes_then, run_out_keeps}

-- a birth: nobody else changes, and the new node has made no broadcast
boot_made : (s u : Growth) (id : ℕ) (contact : Option ℕ) → Does s (act.Boot id contact) u → MakesMost 0 s u
boot_made s u id contact did =
    let m = s.world.net.nodes in
    let (fresh, rest, (q, sends, views, (left, enough, (cs, are, step)), same, is), changes) = did.step.step.2 in
    let nodes : u.world.net.nodes ≡ map.insert m id (Live q) = ap (λ (x : Net). x.nodes) same in
    let none : q.tree.made ≡ 0 = none_made _ (input.Boot contact) cs q sends views did.entry.delivery tt step in
    record {
      live = λ a (r, living). let (x, still) = lives_still (eq_by_cmp nat_cmp a id) r q (map.get m a) living in
          (x, ap (λ n. map.get n a) nodes ∙ (get-insert nat_cmp_total m id (Live q) a ∙ still));
      made = λ k most a x living. elim (inserted_cases nat_cmp_total nat_cmp-IsAntisymmetric m id (Live q) a (Live x)
          (subst (λ n. map.get n a ≡ Some (Live x)) nodes living)) [
            | inl here ↦ subst (λ (y : PeerState). y.tree.made ≤ k + 0) (same_live q x here.1) (omega (arith, none))
            | inr there ↦ let least = most a x there.1 in omega (arith, least)
          ];
      more = did.entry ∷ [];
      journal = did.step.journal;
    }

births_made : (rules : PhaseRules) (pace id n : ℕ) (s u : Growth) → Births rules pace id n s u → MakesMost 0 s u
births_made rules pace id zero s u same = makes_none s u (keeps_same s u (ap (λ g. g.world) same))
births_made rules pace id (suc n) s u (place, t, v, w, turns, chooses, did, more) =
    makes_then 0 0 0 s t u (omega arith) (makes_none s t (turns_keep rules pace s t turns))
    (makes_then 0 0 0 t v u (omega arith) (makes_none t v (keeps_same t v (ap (λ g. g.world) chooses.1)))
    (makes_then 0 0 0 v w u (omega arith) (boot_made v w id (Some (1 + place)) did)
    (births_made rules pace (id + 1) n w u more)))

-- whom an act of birth brings into the world lives
booted : (s u : Growth) (id : ℕ) (contact : Option ℕ) → Does s (act.Boot id contact) u → IsLive u id
booted s u id contact did =
    let m = s.world.net.nodes in
    let (fresh, rest, (q, sends, views, drawn, same, is), changes) = did.step.step.2 in
    (q, ap (λ (x : Net). map.get x.nodes id) same ∙ inserted_here nat_cmp_total m id (Live q))

-- when nodes have joined, some node lives, and none has made a broadcast
pub join_lives : (o : GrowOptions) (s u : Growth) → Join o s u → SomebodyLives u
join_lives o s u (t, v, w, says, did, births, out) =
    let first : IsLive v 1 = booted t v 1 None did in
    let second : IsLive w 1 = (births_made (joining o) _ 2 (o.nodes - 1) v w births).live 1 first in
    (1, (makes_none w u (run_out_keeps (joining o) w u out)).live 1 second)

pub join_made : (o : GrowOptions) (s u : Growth) → Join o s u → s.world.net.nodes ≡ map.empty → HaveMade 0 u
join_made o s u (t, v, w, says, did, births, out) none =
    let all : MakesMost 0 s u =
    makes_then 0 0 0 s t u (omega arith) (makes_none s t (keeps_same s t (ap (λ g. g.world) says)))
    (makes_then 0 0 0 t v u (omega arith) (boot_made t v 1 None did)
    (makes_then 0 0 0 v w u (omega arith) (births_made (joining o) _ 2 (o.nodes - 1) v w births)
    (makes_none w u (run_out_keeps (joining o) w u out)))) in
    all.made 0 (λ a p lives. absurd (none-some (Live p)
    (sym (ap (λ n. map.get n a) none ∙ get-empty nat_cmp a) ∙ lives)))

-- what compares equal is equal
tied : (r : Ordering) → is_eq r ≡ true → r ≡ Equal
tied Less e = cc
tied Equal e = refl
tied Greater e = cc

same_number : (a b : ℕ) → eq_by_cmp nat_cmp a b ≡ true → a ≡ b
same_number a b e = nat_cmp-IsAntisymmetric a b (tied (nat_cmp a b) e)

-- two numbers that differ do not compare equal
differs : (node a : ℕ) → node ≢ a → eq_by_cmp nat_cmp a node ≡ false
differs node a other = by (eq_by_cmp nat_cmp a node) refl
  where
    by : (b : Bool) → eq_by_cmp nat_cmp a node ≡ b → eq_by_cmp nat_cmp a node ≡ false
    by true e = absurd (other (sym (same_number a node e)))
    by false e = e

inserted_other : (m : map.FinMap nat_cmp Member) (node a : ℕ) (p : PeerState) → node ≢ a
    → map.get m a ≡ Some (Live p) → map.get (map.insert m node Gone) a ≡ Some (Live p)
inserted_other m node a p other lives =
    get-insert nat_cmp_total m node Gone a
    ∙ (ap (λ b. cond b (Some Gone) (map.get m a)) (differs node a other) ∙ lives)

-- who does not crash goes on living
pub crash_live : (s u : Growth) (node a : ℕ) → Does s (act.Crash node) u → node ≢ a → IsLive s a → IsLive u a
crash_live s u node a did other (p, lives) =
    let (x, living, same, changes, delivery) = did.step.step.2 in
    (p, ap (λ (w : Net). map.get w.nodes a) same ∙ inserted_other s.world.net.nodes node a p other lives)

-- crashes make no broadcast
crash_made : (k : ℕ) (s u : Growth) (node : ℕ) → Does s (act.Crash node) u → HaveMade k s → HaveMade k u
crash_made k s u node did most = λ a q lives.
    let (x, living, same, changes, delivery) = did.step.step.2 in
    elim (inserted_cases nat_cmp_total nat_cmp-IsAntisymmetric s.world.net.nodes node Gone a (Live q)
    (subst (λ (w : Net). map.get w.nodes a ≡ Some (Live q)) same lives)) [
      | inl here ↦ absurd (gone_dead q here.1)
      | inr there ↦ most a q there.1
    ]

pub crashes_made : (k : ℕ) (nodes : List ℕ) (s u : Growth) → DoesEach act.Crash nodes s u → HaveMade k s → HaveMade k u
crashes_made k [] s u same most = subst (λ g. HaveMade k g) (sym same) most
crashes_made k (node ∷ nodes) s u (t, did, more) most =
    crashes_made k nodes t u more (crash_made k s t node did most)

pub crashes_live : (nodes : List ℕ) (s u : Growth) (a : ℕ) → DoesEach act.Crash nodes s u → ¬ Has nodes a → IsLive s a
    → IsLive u a
crashes_live [] s u a same left lives = subst (λ g. IsLive g a) (sym same) lives
crashes_live (node ∷ nodes) s u a (t, did, more) left lives =
    crashes_live nodes t u a more (λ has. left (inr has)) (crash_live s t node a did (λ same. left (inl same)) lives)

-- a list of which an item is taken out has no item twice, and this item no more
distinct_remove : (xs : List ℕ) (i : ℕ) → IsDistinct xs → IsDistinct (remove xs i)
distinct_remove [] zero d = tt
distinct_remove [] (suc i) d = tt
distinct_remove (y ∷ ys) zero d = d.1
distinct_remove (y ∷ ys) (suc i) d = ((λ has. d.0 (has_remove ys i y has)), distinct_remove ys i d.1)

not_left : (xs : List ℕ) (i x : ℕ) → IsDistinct xs → slice_get xs i ≡ Some x → ¬ Has (remove xs i) x
not_left [] i x d at = absurd (none-some x at)
not_left (y ∷ ys) zero x d at = λ has. d.0 (subst (λ z. Has ys z) (sym (same_Some y x at)) has)
not_left (y ∷ ys) (suc i) x d at = λ has. elim has [
  | inl same ↦ d.0 (subst (λ z. Has ys z) (sym same) (has_at ys i x at))
  | inr more ↦ not_left ys i x d.1 at more
]

-- a random order of different ids
order_distinct : (ids order : List ℕ) (before after : Lcg) → IsRandomOrder ids order before after → IsDistinct ids
    → IsDistinct order
order_distinct ids [] before after orders d = tt
order_distinct ids (first ∷ order) before after (at, rest) d =
    let place = one_of (length ids) before in (
      (λ has. not_left ids place first d at (order_has (remove ids place) order (later before) after first rest has)),
      order_distinct (remove ids place) order (later before) after rest (distinct_remove ids place d),
    )

-- the first of different ids
take_has : (xs : List ℕ) (k x : ℕ) → Has (take k xs) x → Has xs x
take_has xs zero x has = absurd has
take_has [] (suc k) x has = absurd has
take_has (y ∷ ys) (suc k) x (inl same) = inl same
take_has (y ∷ ys) (suc k) x (inr has) = inr (take_has ys k x has)

take_distinct : (xs : List ℕ) (k : ℕ) → IsDistinct xs → IsDistinct (take k xs)
take_distinct xs zero d = tt
take_distinct [] (suc k) d = tt
take_distinct (y ∷ ys) (suc k) d = ((λ has. d.0 (take_has ys k y has)), take_distinct ys k d.1)

-- if not all are taken, one is left
one_left : (xs : List ℕ) (k : ℕ) → k < length xs → IsDistinct xs → (x : ℕ) × Has xs x × (¬ Has (take k xs) x)
one_left [] k few d = absurd (omega (arith, few))
one_left (y ∷ ys) zero few d = (y, inl refl, λ has. has)
one_left (y ∷ ys) (suc k) few d =
    let (x, has, left) = one_left ys k (omega (arith, few)) d.1 in (
      x,
      inr has,
      λ taken. elim taken [ inl same ↦ d.0 (subst (λ z. Has ys z) (sym same) has) | inr more ↦ left more ],
    )

some_order : (ids order : List ℕ) (before after : Lcg) (a : ℕ) → IsRandomOrder ids order before after → Has ids a
    → 0 < length order
some_order ids [] before after a (none, same) has = absurd (subst (λ xs. Has xs a) none has)
some_order ids (first ∷ order) before after a orders has = omega arith

share_less : (n share : ℕ) → 0 < n → share ≤ 99 → n * share / 100 < n
share_less n share some less =
    let big : 0 < 100 = omega arith in
    let fewer : share < 100 = omega (arith, less) in
    (div-lt_iff_lt-mul big).1 (mul-lt-mul_of_pos_left fewer some)

-- a share of the nodes that live may crash
pub share_may_crash : (share : ℕ) (nodes : List ℕ) (s u : Growth) → share ≤ most_share → SomebodyLives s
    → AreShareOfLive share s nodes u → MayCrash nodes u
share_may_crash share nodes s u less (a, lives) (order, (live, after, are, orders, same), is) =
    let all : AllLive order u = order_lives s u order (live, after, are, orders, same) in
    let once : IsDistinct order =
    order_distinct live order s.choices after orders (ascends_distinct live are.ascend) in
    let some : 0 < length order = some_order live order s.choices after a orders (are.each a lives) in
    let count = length order * share / 100 in
    let (x, has, left) = one_left order count (share_less (length order) share some less) once in
    subst (λ xs. MayCrash xs u) (sym is) (record {
      live = λ b taken. all b (take_has order count b taken);
      once = take_distinct order count once;
      spared = x;
      spared_lives = all x has;
      not_among = left;
    })

some_nodes : (g : LinkGraph) (q : List ℕ) → ¬ AreAllLinked g q → 0 < length q
some_nodes g [] not = absurd (not (λ a b has also differ. absurd has))
some_nodes g (x ∷ q) not = omega arith

cut_spares : (m : ℕ) (s : Growth) (g : LinkGraph) (c : Cert) → SomebodyLives s → StillLive m s
    → AreLinks s.world.journal m g → IsAnswer g g.nodes c → MayCrash (cut_of c) s
cut_spares m s g (Linked k) (a, lives) still links answer = record {
  live = λ b has. absurd has;
  once = tt;
  spared = a;
  spared_lives = lives;
  not_among = λ has. has;
}
cut_spares m s g (Split c) somebody still links (not, names) =
    let group = whole_group g links.graph (some_nodes g g.nodes not) in
    let splits = parted_splits g g.nodes names.piece names.parting group names.first.piece names.parted in
    let lasts : (x : ℕ) → Has g.nodes x → IsLive s x = λ x has. still x ((links.nodes x).0 has) in
    subst (λ xs. MayCrash xs s) (sym names.names.cut) (record {
      live = λ b has. lasts b (splits.set.nodes b has);
      once = ascends_distinct names.parting.cut splits.set.ascends;
      spared = splits.a;
      spared_lives = lasts splits.a splits.a_survives.0;
      not_among = splits.a_survives.1;
    })

-- the nodes of the cut may crash, if all that lived at its moment live
pub cut_may_crash : (m : ℕ) (s : Growth) (cut : List ℕ) → SomebodyLives s → StillLive m s
    → IsCutAt s.world.journal m cut → MayCrash cut s
cut_may_crash m s cut somebody still (g, c, links, answer, is) =
    subst (λ xs. MayCrash xs s) (sym is) (cut_spares m s g c somebody still links answer)

-- who lived at a moment goes on living
pub still_live : (m n : ℕ) (s u : Growth) → m ≤ length s.world.journal → MakesMost n s u → StillLive m s
    → StillLive m u
still_live m n s u within makes still = λ a lived.
    makes.live a (still a (subst (λ xs. LivesAfter (changes_of xs) a)
    (ap (λ xs. take m xs) makes.journal ∙ take-append-le m s.world.journal makes.more within) lived))

-- after a crash the others that are to crash live
pub others_live : (node : ℕ) (nodes : List ℕ) (s u : Growth) → IsDistinct (node ∷ nodes) → AllLive (node ∷ nodes) s
    → Does s (act.Crash node) u → AllLive nodes u
others_live node nodes s u once all did = λ a has.
    crash_live s u node a did (λ same. once.0 (subst (λ x. Has nodes x) (sym same) has)) (all a (inr has))

-- to choose who is to crash changes nothing in the world
pub to_crash_same : (crash : Crash) (m : ℕ) (s u : Growth) (nodes : List ℕ) → AreToCrash crash m s nodes u
    → u.world ≡ s.world
to_crash_same (Share share) m s u nodes (order, (live, after, are, orders, same), is) = ap (λ g. g.world) same
to_crash_same Cut m s u nodes (cut, same) = ap (λ g. g.world) same

-- behind a comment nodes are chosen, and crash: nobody has made more broadcasts
pub crashing_made : (k : ℕ) (crash : Crash) (m : ℕ) (nodes those : List ℕ) (s t v u : Growth) → t.world ≡ s.world
    → AreToCrash crash m t nodes v → DoesEach act.Crash those v u → HaveMade k s → HaveMade k u
crashing_made k crash m nodes those s t v u same are each most =
    let chosen = keeps_same s v (to_crash_same crash m t v nodes are ∙ same) in
    crashes_made k those v u each (made_keeps k s v chosen most)

-- who is spared lives after the crashes
pub spared_lives_on : (nodes : List ℕ) (s u : Growth) → MayCrash nodes s → DoesEach act.Crash nodes s u
    → SomebodyLives u
spared_lives_on nodes s u may each =
    (may.spared, crashes_live nodes s u may.spared each may.not_among may.spared_lives)
