-- The graph of a world, changed with the changes of an event, is that of the links after it.
use Rattle.std.proofs.Common.{◌≡◌, ◌≢◌, ◌↔◌, ◌⊎◌, ℕ, ◌<◌, ◌≤◌, List, [], ◌∷◌, length, map as each, Option}
use Rattle.std.proofs.Common.{◌-◌, None, Some, cond, is_some, inl, inr, refl, sym, ap, subst, ◌∙◌, arith}
use Rattle.std.proofs.lemmas.Bool.{cases_eq, ne_eqb}
use Rattle.std.specs.Cmp.{nat_cmp_total, unsigned_ties}
use Rattle.std.specs.FinMap as map
use Rattle.std.specs.Ordering.{nat_cmp}
use Rattle.ov_ids.specs.Members.{Has, Ascends}
use Rattle.ov_ids.specs.Sets.{adding, without}
use Rattle.ov_ids.proofs.Members.{all_member}
use Rattle.ov_views.specs.Changes.{after_changes}
use Rattle.ov_views.specs.declared.change.ViewChange.{ViewChange}
use Rattle.ov_views.specs.declared.change.ViewChange.TheVariants as view
use Rattle.ov_peer.specs.PeerState.{PeerState}
use Rattle.ov_graph.specs.Links.{LinkGraph, IsGraph, Linked}
use Rattle.ov_graph.specs.Changes.{GainsNode, LosesNode, LosesLink}
use Rattle.ov_graph.proofs.EvenTest.Filtered.{linked_node}
use Rattle.ov_graph.proofs.EvenTest.Walks.{linked_sym}
use Rattle.ov_net.specs.Code.LinkChanges.{AreChanged, Fit, Gains, GainsMutual, HasAllLive}
use Rattle.ov_net.specs.Code.WorldGraph.{HoldsIn, LivesIn, Mutual, IsMutual}
use Rattle.ov_net.specs.Journal.{AreLinks}
use Rattle.ov_net.specs.NetStep.{change_at}
use Rattle.ov_net.specs.World.{WorldState, TellsViews}
use Rattle.ov_net.specs.declared.journal_entry_and_changes.Change.{Change}
use Rattle.ov_net.specs.declared.journal_entry_and_changes.Change.TheVariants.{Born, Up, Gone}
use Rattle.ov_net.specs.declared.member.Member.{Member}
use Rattle.ov_net.specs.declared.member.Member.TheVariants as member
use Rattle.ov_net.proofs.Journal.After.{members_adding, members_without, told_lasting, told_node}
use Rattle.ov_net.proofs.Journal.Outcomes.{Puts, Outcome, rests, moved, born, gone, same_some}
use Rattle.ov_net.proofs.Journal.Outcomes.{same_live, gone_dead, not_none}
use Rattle.ov_net.proofs.Journal.Telling.{links_of}
use Rattle.ov_net.proofs.Links.Changing.{lost_linked, same_linked}

turned : (look : ℕ → Option Member) (a b : ℕ) → Mutual look a b → Mutual look b a
turned look a b m = record { differ = λ e. m.differ (sym e); holds = m.held; held = m.holds }

-- the links of the graph of the live nodes, while the active view of node a changes
record IsMutualBut (look : ℕ → Option Member) (a : ℕ) (active : List ℕ) (g : LinkGraph) : Type 0 where
  own : (y : ℕ) → Linked g a y ↔ ((a ≢ y) × Has active y × HoldsIn look y a)
  others : (x y : ℕ) → x ≢ a → y ≢ a → Linked g x y ↔ Mutual look x y

up_mutual : (members : map.FinMap nat_cmp Member) (a b : ℕ) (active : List ℕ) (g h : LinkGraph)
    → GainsMutual members a b g h → IsMutualBut (map.get members) a active g
    → IsMutualBut (map.get members) a (adding b active) h
up_mutual members a b active g h gains was = record { own = λ y. (to y, from y); others = λ x y p q. others x y p q }
  where
    to : (y : ℕ) → Linked h a y → (a ≢ y) × Has (adding b active) y × HoldsIn (map.get members) y a
    to y l = elim ((gains.links a y).0 l) [
      | inl k ↦ let r = (was.own y).0 k in (r.0, (members_adding b active y).1 (inr r.1), r.2)
      | inr p ↦ elim p.0 [
        | inl q ↦ (
          (λ e. p.1 (e ∙ q.1)),
          (members_adding b active y).1 (inl (sym q.1)),
          subst (λ z. HoldsIn (map.get members) z a) (sym q.1) p.2,
        )
        | inr q ↦ absurd (p.1 q.0)
      ]
    ]

    from : (y : ℕ) → (a ≢ y) × Has (adding b active) y × HoldsIn (map.get members) y a → Linked h a y
    from y r = (gains.links a y).1 (elim ((members_adding b active y).0 r.1) [
      | inl e ↦ inr (
        inl (refl, sym e),
        (λ f. r.0 (f ∙ e)),
        subst (λ z. HoldsIn (map.get members) z a) (sym e) r.2,
      )
      | inr k ↦ inl ((was.own y).1 (r.0, k, r.2))
    ])

    others : (x y : ℕ) → x ≢ a → y ≢ a → Linked h x y ↔ Mutual (map.get members) x y
    others x y p q = (
      (λ l. elim ((gains.links x y).0 l) [
        | inl k ↦ (was.others x y p q).0 k
        | inr r ↦ elim r.0 [ inl s ↦ absurd (p s.0) | inr s ↦ absurd (q s.1) ]
      ]),
      (λ m. (gains.links x y).1 (inl ((was.others x y p q).1 m))),
    )

down_mutual : (members : map.FinMap nat_cmp Member) (a b : ℕ) (active : List ℕ) (g h : LinkGraph)
    → LosesLink g a b h → IsMutualBut (map.get members) a active g
    → IsMutualBut (map.get members) a (without b active) h
down_mutual members a b active g h loses was = record { own = λ y. (to y, from y); others = λ x y p q. others x y p q }
  where
    to : (y : ℕ) → Linked h a y → (a ≢ y) × Has (without b active) y × HoldsIn (map.get members) y a
    to y l =
        let k = (loses.links a y).0 l in
        let r = (was.own y).0 k.1 in
        (r.0, (members_without b active y).1 ((λ e. k.0 (inl (refl, sym e))), r.1), r.2)

    from : (y : ℕ) → (a ≢ y) × Has (without b active) y × HoldsIn (map.get members) y a → Linked h a y
    from y r =
        let k = (members_without b active y).0 r.1 in
        (loses.links a y).1 (
          (λ p. elim p [ inl q ↦ k.0 (sym q.1) | inr q ↦ r.0 (sym q.1) ]),
          (was.own y).1 (r.0, k.1, r.2),
        )

    others : (x y : ℕ) → x ≢ a → y ≢ a → Linked h x y ↔ Mutual (map.get members) x y
    others x y p q = (
      (λ l. (was.others x y p q).0 ((loses.links x y).0 l).1),
      (λ m. (loses.links x y).1 (
        (λ r. elim r [ inl s ↦ p s.0 | inr s ↦ q s.1 ]),
        (was.others x y p q).1 m,
      )),
    )

-- the graph after changes of the active view of node a
record MovedTo (members : map.FinMap nat_cmp Member) (a : ℕ) (active : List ℕ) (g h : LinkGraph) : Type 0 where
  graph : IsGraph h
  nodes : h.nodes ≡ g.nodes
  links : IsMutualBut (map.get members) a active h

moves_mutual : (members : map.FinMap nat_cmp Member) (a : ℕ) (told : List ViewChange) (active : List ℕ)
    (g h : LinkGraph) → IsGraph g → AreChanged members (each (change_at a) told) g h
    → IsMutualBut (map.get members) a active g → MovedTo members a (after_changes told active) g h
moves_mutual members a [] active g h graph e was =
    subst (MovedTo members a active g) (sym e) (record { graph = graph; nodes = refl; links = was })
moves_mutual members a (view.Up b ∷ told) active g h graph c was =
    let rest = moves_mutual members a told (adding b active) c.0 h c.1 c.3
    (up_mutual members a b active g c.0 c.2 was) in
    record { graph = rest.graph; nodes = rest.nodes ∙ c.2.nodes; links = rest.links }
moves_mutual members a (view.Down b ∷ told) active g h graph c was =
    let rest = moves_mutual members a told (without b active) c.0 h c.1 c.3
    (down_mutual members a b active g c.0 c.2 was) in
    record { graph = rest.graph; nodes = rest.nodes ∙ c.2.nodes; links = rest.links }

-- after the last of them the node holds its active view
all_mutual : (look : ℕ → Option Member) (a : ℕ) (q : PeerState) (h : LinkGraph) → look a ≡ Some (member.Live q)
    → IsMutualBut look a q.hyparview.views.active h → (x y : ℕ) → Linked h x y ↔ Mutual look x y
all_mutual look a q h at is x y = by (cases_eq x a) (cases_eq y a)
  where
    own : (z : ℕ) → Linked h a z ↔ Mutual look a z
    own z = (
      (λ l. let r = (is.own z).0 l in record { differ = r.0; holds = (q, at, r.1); held = r.2 }),
      (λ m. (is.own z).1 (
        m.differ,
        subst (λ (s : PeerState). Has s.hyparview.views.active z)
            (same_live m.holds.0 q (same_some (member.Live m.holds.0) (member.Live q) (sym m.holds.1 ∙ at))) m.holds.2,
        m.held,
      )),
    )

    by : (x ≡ a) ⊎ (x ≢ a) → (y ≡ a) ⊎ (y ≢ a) → Linked h x y ↔ Mutual look x y
    by (inl e) f = subst (λ z. Linked h z y ↔ Mutual look z y) (sym e) (own y)
    by (inr e) (inl f) = subst (λ z. Linked h x z ↔ Mutual look x z) (sym f) (
      (λ l. turned look a x ((own x).0 (linked_sym h x a l))),
      (λ m. linked_sym h a x ((own x).1 (turned look x a m))),
    )
    by (inr e) (inr f) = is.others x y e f

-- what a member that is put in leaves to the others
holds_other : (g h : ℕ → Option Member) (a : ℕ) (m : Member) (x b : ℕ) → Puts g a m h → x ≢ a
    → HoldsIn g x b ↔ HoldsIn h x b
holds_other g h a m x b put other = (
  (λ k. (k.0, put.others x other ∙ k.1, k.2)),
  (λ k. (k.0, sym (put.others x other) ∙ k.1, k.2)),
)

mutual_other : (g h : ℕ → Option Member) (a : ℕ) (m : Member) (x y : ℕ) → Puts g a m h → x ≢ a → y ≢ a
    → Mutual g x y ↔ Mutual h x y
mutual_other g h a m x y put p q = (
  (λ k. record {
    differ = k.differ;
    holds = (holds_other g h a m x y put p).0 k.holds;
    held = (holds_other g h a m y x put q).0 k.held;
  }),
  (λ k. record {
    differ = k.differ;
    holds = (holds_other g h a m x y put p).1 k.holds;
    held = (holds_other g h a m y x put q).1 k.held;
  }),
)

lives_other : (g h : ℕ → Option Member) (a : ℕ) (m : Member) (x : ℕ) → Puts g a m h → x ≢ a
    → LivesIn g x ↔ LivesIn h x
lives_other g h a m x put other = (
  (λ k. (k.0, put.others x other ∙ k.1)),
  (λ k. (k.0, sym (put.others x other) ∙ k.1)),
)

-- a live node took an input: before its first change, the others hold it as they did
moved_start : (g h : ℕ → Option Member) (a : ℕ) (p q : PeerState) (k : LinkGraph) → g a ≡ Some (member.Live p)
    → Puts g a (member.Live q) h → IsMutual g k → IsMutualBut h a p.hyparview.views.active k
moved_start g h a p q k at put was = record { own = λ y. (to y, from y); others = others }
  where
    to : (y : ℕ) → Linked k a y → (a ≢ y) × Has p.hyparview.views.active y × HoldsIn h y a
    to y l =
        let m = (was.links a y).0 l in (
          m.differ,
          subst (λ (s : PeerState). Has s.hyparview.views.active y)
              (same_live m.holds.0 p (same_some (member.Live m.holds.0) (member.Live p) (sym m.holds.1 ∙ at)))
              m.holds.2,
          (holds_other g h a (member.Live q) y a put (λ e. m.differ (sym e))).0 m.held,
        )

    from : (y : ℕ) → (a ≢ y) × Has p.hyparview.views.active y × HoldsIn h y a → Linked k a y
    from y r = (was.links a y).1 (record {
      differ = r.0;
      holds = (p, at, r.1);
      held = (holds_other g h a (member.Live q) y a put (λ e. r.0 (sym e))).1 r.2;
    })

    others : (x y : ℕ) → x ≢ a → y ≢ a → Linked k x y ↔ Mutual h x y
    others x y e f =
        let same = mutual_other g h a (member.Live q) x y put e f in
        ((λ l. same.0 ((was.links x y).0 l)), (λ m. (was.links x y).1 (same.1 m)))

-- a node was born: it has no links before its first change
born_start : (g h : ℕ → Option Member) (a : ℕ) (q : PeerState) (k l : LinkGraph) → g a ≡ None
    → Puts g a (member.Live q) h → IsMutual g k → GainsNode k a l → IsMutualBut h a [] l
born_start g h a q k l none put was gains = record { own = λ y. (to y, (λ r. absurd r.1)); others = others }
  where
    to : (y : ℕ) → Linked l a y → (a ≢ y) × Has [] y × HoldsIn h y a
    to y j =
        let node = linked_node k y a was.graph (linked_sym k a y ((same_linked k l a y gains.links).0 j)) in
        let lives = (was.nodes a).0 node in
        absurd (not_none (member.Live lives.0) (g a) lives.1 none)

    others : (x y : ℕ) → x ≢ a → y ≢ a → Linked l x y ↔ Mutual h x y
    others x y e f =
        let same = mutual_other g h a (member.Live q) x y put e f in
        let links = same_linked k l x y gains.links in
        ((λ j. same.0 ((was.links x y).0 (links.0 j))), (λ m. links.1 ((was.links x y).1 (same.1 m))))

-- a node crashed: it and its links are gone
gone_mutual : (g h : ℕ → Option Member) (a : ℕ) (k l : LinkGraph) → Puts g a member.Gone h → IsMutual g k
    → LosesNode k a l → IsGraph l → IsMutual h l
gone_mutual g h a k l put was loses graph = record { graph = graph; nodes = nodes; links = λ x y. (to x y, from x y) }
  where
    alive : (x : ℕ) → LivesIn h x → x ≢ a
    alive x lives e = gone_dead lives.0 (same_some member.Gone (member.Live lives.0)
        (sym put.here ∙ ap h (sym e) ∙ lives.1))

    nodes : (x : ℕ) → Has l.nodes x ↔ LivesIn h x
    nodes x = (
      (λ i.
          let r = (members_without a k.nodes x).0 (subst (λ (ns : List ℕ). Has ns x) loses.nodes i) in
          (lives_other g h a member.Gone x put (λ e. r.0 (sym e))).0 ((was.nodes x).0 r.1)),
      (λ lives. subst (λ (ns : List ℕ). Has ns x) (sym loses.nodes) ((members_without a k.nodes x).1 (
        (λ e. alive x lives (sym e)),
        (was.nodes x).1 ((lives_other g h a member.Gone x put (alive x lives)).1 lives),
      ))),
    )

    to : (x y : ℕ) → Linked l x y → Mutual h x y
    to x y j =
        let r = (lost_linked k l a x y loses).0 j in
        (mutual_other g h a member.Gone x y put r.1 r.2).0 ((was.links x y).0 r.0)

    from : (x y : ℕ) → Mutual h x y → Linked l x y
    from x y m =
        let p = alive x (m.holds.0, m.holds.1) in
        let q = alive y (m.held.0, m.held.1) in
        (lost_linked k l a x y loses).1
        ((was.links x y).1 ((mutual_other g h a member.Gone x y put p q).1 m), p, q)

-- the graph of the live nodes after each event
pub mutual_after : (g : ℕ → Option Member) (members : map.FinMap nat_cmp Member) (bears : Option ℕ)
    (changes : List Change) (k l m : LinkGraph) → IsMutual g k → Outcome g (map.get members) bears changes
    → Gains bears k l → IsGraph l → AreChanged members changes l m → IsMutual (map.get members) m
mutual_after g members bears changes k l m was (rests same unborn none) gains graph changed =
    let e : m ≡ l = subst (λ (cs : List Change). AreChanged members cs l m) none changed in
    let f : l ≡ k = subst (λ (n : Option ℕ). Gains n k l) unborn gains in
    subst (λ look. IsMutual look m) (sym same) (subst (IsMutual g) (sym (e ∙ f)) was)
mutual_after g members bears changes k l m was (moved a p q told at tracks put unborn is) gains graph changed =
    record { graph = end.graph; nodes = λ x. nodes x (cases_eq x a); links = links }
  where
    f : l ≡ k
    f = subst (λ (n : Option ℕ). Gains n k l) unborn gains

    end : MovedTo members a (after_changes told p.hyparview.views.active) l m
    end = moves_mutual members a told p.hyparview.views.active l m graph
        (subst (λ (cs : List Change). AreChanged members cs l m) is changed)
        (subst (IsMutualBut (map.get members) a p.hyparview.views.active) (sym f)
        (moved_start g (map.get members) a p q k at put was))

    links : (x y : ℕ) → Linked m x y ↔ Mutual (map.get members) x y
    links = all_mutual (map.get members) a q m put.here
        (subst (λ s. IsMutualBut (map.get members) a s m) (sym tracks.views.active) end.links)

    same : m.nodes ≡ k.nodes
    same = end.nodes ∙ ap (λ (x : LinkGraph). x.nodes) f

    nodes : (x : ℕ) → (x ≡ a) ⊎ (x ≢ a) → Has m.nodes x ↔ LivesIn (map.get members) x
    nodes x (inl e) = (
      (λ i. (q, ap (map.get members) e ∙ put.here)),
      (λ lives. subst (λ (ns : List ℕ). Has ns x) (sym same) ((was.nodes x).1 (p, ap g e ∙ at))),
    )
    nodes x (inr other) = (
      (λ i. (lives_other g (map.get members) a (member.Live q) x put other).0
          ((was.nodes x).0 (subst (λ (ns : List ℕ). Has ns x) same i))),
      (λ lives. subst (λ (ns : List ℕ). Has ns x) (sym same)
          ((was.nodes x).1 ((lives_other g (map.get members) a (member.Live q) x put other).1 lives))),
    )
mutual_after g members bears changes k l m was (born a params q told none tracks put bear is) gains graph changed =
    record { graph = end.graph; nodes = λ x. nodes x (cases_eq x a); links = links }
  where
    gained : GainsNode k a l
    gained = subst (λ (n : Option ℕ). Gains n k l) bear gains

    steps : AreChanged members (Born a ∷ each (change_at a) told) l m
    steps = subst (λ (cs : List Change). AreChanged members cs l m) is changed

    end : MovedTo members a (after_changes told []) steps.0 m
    end = moves_mutual members a told [] steps.0 m steps.1 steps.3
        (subst (IsMutualBut (map.get members) a []) (sym steps.2)
        (born_start g (map.get members) a q k l none put was gained))

    links : (x y : ℕ) → Linked m x y ↔ Mutual (map.get members) x y
    links = all_mutual (map.get members) a q m put.here
        (subst (λ s. IsMutualBut (map.get members) a s m) (sym tracks.views.active) end.links)

    same : m.nodes ≡ adding a k.nodes
    same = end.nodes ∙ ap (λ (x : LinkGraph). x.nodes) steps.2 ∙ gained.nodes

    nodes : (x : ℕ) → (x ≡ a) ⊎ (x ≢ a) → Has m.nodes x ↔ LivesIn (map.get members) x
    nodes x (inl e) = (
      (λ i. (q, ap (map.get members) e ∙ put.here)),
      (λ lives. subst (λ (ns : List ℕ). Has ns x) (sym same) ((members_adding a k.nodes x).1 (inl (sym e)))),
    )
    nodes x (inr other) = (
      (λ i. (lives_other g (map.get members) a (member.Live q) x put other).0
          (elim ((members_adding a k.nodes x).0 (subst (λ (ns : List ℕ). Has ns x) same i)) [
            | inl e ↦ absurd (other (sym e))
            | inr j ↦ (was.nodes x).0 j
          ])),
      (λ lives. subst (λ (ns : List ℕ). Has ns x) (sym same) ((members_adding a k.nodes x).1 (inr
          ((was.nodes x).1 ((lives_other g (map.get members) a (member.Live q) x put other).1 lives))))),
    )
mutual_after g members bears changes k l m was (gone a put unborn is) gains graph changed =
    let f : l ≡ k = subst (λ (n : Option ℕ). Gains n k l) unborn gains in
    let c : AreChanged members (Gone a ∷ []) l m = subst (λ (cs : List Change). AreChanged members cs l m) is changed in
    subst (IsMutual (map.get members)) (sym c.3)
    (gone_mutual g (map.get members) a k c.0 put was (subst (λ (x : LinkGraph). LosesNode x a c.0) f c.2) c.1)

-- the changes of an event fit the nodes after it
moves_fit : (members : map.FinMap nat_cmp Member) (a : ℕ) (q : PeerState) (told : List ViewChange)
    → map.get members a ≡ Some (member.Live q) → Fit members (each (change_at a) told)
moves_fit members a q told at = record {
  up = λ x y i.
      let e : x ≡ a = told_node a told (Up x y) i in (q, ap (map.get members) e ∙ at);
  gone = λ x i. absurd ((told_lasting a told x).1 i);
}

pub fit_after : (g : ℕ → Option Member) (members : map.FinMap nat_cmp Member) (bears : Option ℕ)
    (changes : List Change) → Outcome g (map.get members) bears changes → Fit members changes
fit_after g members bears changes (rests same unborn none) =
    subst (Fit members) (sym none) (record { up = λ x y i. absurd i; gone = λ x i. absurd i })
fit_after g members bears changes (moved a p q told at tracks put unborn is) =
    subst (Fit members) (sym is) (moves_fit members a q told put.here)
fit_after g members bears changes (born a params q told none tracks put bear is) =
    let fit = moves_fit members a q told put.here in
    subst (Fit members) (sym is) (record {
      up = λ x y i. elim i [ inl e ↦ absurd cc | inr j ↦ fit.up x y j ];
      gone = λ x i. elim i [ inl e ↦ absurd cc | inr j ↦ fit.gone x j ];
    })
fit_after g members bears changes (gone a put unborn is) =
    subst (Fit members) (sym is) (record {
      up = λ x y i. elim i [ inl e ↦ absurd cc | inr j ↦ absurd j ];
      gone = λ x i. elim i [
        | inl e ↦ let same : a ≡ x = cc in λ lives. gone_dead lives.0 (same_some member.Gone (member.Live lives.0)
            (sym put.here ∙ ap (map.get members) same ∙ lives.1))
        | inr j ↦ absurd j
      ];
    })

-- all nodes that are alive after an event are in the graph, the newborn one too
pub live_after : (g : ℕ → Option Member) (members : map.FinMap nat_cmp Member) (bears : Option ℕ)
    (changes : List Change) (k l : LinkGraph) → IsMutual g k → Outcome g (map.get members) bears changes
    → Gains bears k l → HasAllLive members l
live_after g members bears changes k l was (rests same unborn none) gains x lives =
    let f : l ≡ k = subst (λ (n : Option ℕ). Gains n k l) unborn gains in
    subst (λ (y : LinkGraph). Has y.nodes x) (sym f) ((was.nodes x).1 (subst (λ look. LivesIn look x) same lives))
live_after g members bears changes k l was (moved a p q told at tracks put unborn is) gains x lives =
    let f : l ≡ k = subst (λ (n : Option ℕ). Gains n k l) unborn gains in
    subst (λ (y : LinkGraph). Has y.nodes x) (sym f) ((was.nodes x).1 (elim (cases_eq x a) [
      | inl e ↦ (p, ap g e ∙ at)
      | inr other ↦ (lives_other g (map.get members) a (member.Live q) x put other).1 lives
    ]))
live_after g members bears changes k l was (born a params q told none tracks put bear is) gains x lives =
    let f : GainsNode k a l = subst (λ (n : Option ℕ). Gains n k l) bear gains in
    subst (λ (ns : List ℕ). Has ns x) (sym f.nodes) ((members_adding a k.nodes x).1 (elim (cases_eq x a) [
      | inl e ↦ inl (sym e)
      | inr other ↦ inr ((was.nodes x).1 ((lives_other g (map.get members) a (member.Live q) x put other).1 lives))
    ]))
live_after g members bears changes k l was (gone a put unborn is) gains x lives =
    let f : l ≡ k = subst (λ (n : Option ℕ). Gains n k l) unborn gains in
    let other : x ≢ a = λ e. gone_dead lives.0 (same_some member.Gone (member.Live lives.0)
    (sym put.here ∙ ap (map.get members) (sym e) ∙ lives.1)) in
    subst (λ (y : LinkGraph). Has y.nodes x) (sym f)
    ((was.nodes x).1 ((lives_other g (map.get members) a member.Gone x put other).1 lives))

-- the links of a world, by its views, and by its journal
pub by_views : (c : WorldState) (g : LinkGraph) → TellsViews c → AreLinks c.journal (length c.journal) g
    → IsMutual (map.get c.net.nodes) g
by_views c g tells are = record {
  graph = are.graph;
  nodes = λ a. ((λ i. (tells.live a).0 ((are.nodes a).0 i)), (λ l. (are.nodes a).1 ((tells.live a).1 l)));
  links = λ a b. (to a b, from a b);
}
  where
    to : (a b : ℕ) → Linked g a b → Mutual (map.get c.net.nodes) a b
    to a b l =
        let k = (are.links a b).0 l in
        let p = (tells.live a).0 k.0 in
        let q = (tells.live b).0 k.1 in
        record {
          differ = k.2;
          holds = (p.0, p.1, (tells.held a b p.0 p.1).1 k.3);
          held = (q.0, q.1, (tells.held b a q.0 q.1).1 k.4);
        }

    from : (a b : ℕ) → Mutual (map.get c.net.nodes) a b → Linked g a b
    from a b m = (are.links a b).1 (
      (tells.live a).1 (m.holds.0, m.holds.1),
      (tells.live b).1 (m.held.0, m.held.1),
      m.differ,
      (tells.held a b m.holds.0 m.holds.1).0 m.holds.2,
      (tells.held b a m.held.0 m.held.1).0 m.held.2,
    )

pub by_journal : (c : WorldState) (g : LinkGraph) → TellsViews c → IsMutual (map.get c.net.nodes) g
    → AreLinks c.journal (length c.journal) g
by_journal c g tells is = links_of c g tells is.graph is.nodes (λ a b. (
  (λ l. let m = (is.links a b).0 l in
      (m.holds.0, m.held.0, m.holds.1, m.held.1, m.differ, m.holds.2, m.held.2)),
  (λ k. (is.links a b).1 (record { differ = k.4; holds = (k.0, k.2, k.5); held = (k.1, k.3, k.6) })),
))

-- ids that are keys of a map are no more than the map has
pub few_keys : (xs : List ℕ) (m : map.FinMap nat_cmp Member) → Ascends xs → ((a : ℕ) → Has xs a → map.get m a ≢ None)
    → length xs ≤ map.len m
few_keys [] m up all = omega arith
few_keys (x ∷ xs) m up all =
    by (map.get m x) refl (map.len-remove nat_cmp_total m x) (few_keys xs (map.remove m x) up.1 kept)
  where
    kept : (a : ℕ) → Has xs a → map.get (map.remove m x) a ≢ None
    kept a i none =
        let above : x < a = all_member (λ y. x < y) xs a up.0 i in
        let other : a ≢ x = λ e. omega (arith, above, e) in
        all a (inr i) (sym (map.get-remove nat_cmp_total m x a
        ∙ ap (λ b. cond b None (map.get m a)) (sym (unsigned_ties a x) ∙ ne_eqb a x other)) ∙ none)

    some : map.len m ≢ 0
    some z = all x (inl refl) (ap (λ n. map.get n x) (map.empty_of_len m z) ∙ map.get-empty nat_cmp x)

    by : (o : Option Member) → map.get m x ≡ o
        → map.len (map.remove m x) ≡ cond (is_some (map.get m x)) (map.len m - 1) (map.len m)
        → length xs ≤ map.len (map.remove m x) → length (x ∷ xs) ≤ map.len m
    by None e l few = absurd (all x (inl refl) e)
    by (Some v) e l few =
        let fewer : map.len (map.remove m x) ≡ map.len m - 1 =
        l ∙ ap (λ (o : Option Member). cond (is_some o) (map.len m - 1) (map.len m)) e in
        omega (arith, fewer, some, few)

-- a graph of the live nodes has no more nodes than were born
pub few_live : (members : map.FinMap nat_cmp Member) (g : LinkGraph) → IsMutual (map.get members) g
    → length g.nodes ≤ map.len members
few_live members g is =
    few_keys g.nodes members is.graph.nodes_ascend
    (λ a i none. let l = (is.nodes a).0 i in not_none (member.Live l.0) (map.get members a) l.1 none)
