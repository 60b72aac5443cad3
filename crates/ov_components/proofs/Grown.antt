-- How a component is grown from one node, by the links of one node after another.
use Rattle.std.proofs.Common.{◌≡◌, ◌≢◌, ◌↔◌, ℕ, ◌*◌, ◌<◌, ◌≤◌, List, [], ◌∷◌, length, inl, inr}
use Rattle.std.proofs.Common.{refl, sym, subst, arith}
use Rattle.std.proofs.lemmas.Bool.{cases_eq}
use Rattle.ov_ids.specs.Members.{Has}
use Rattle.ov_ids.proofs.Members.{has_place, place_of}
use Rattle.ov_graph.specs.Links.{LinkGraph, IsGraph, Linked}
use Rattle.ov_graph.specs.Joined.{Leads, Survives, Joined}
use Rattle.ov_graph.specs.Paths.{node_at}
use Rattle.ov_graph.specs.Row.{HasBit}
use Rattle.ov_graph.proofs.BitRows.Bits.{bit_moved}
use Rattle.ov_graph.proofs.BitRows.Read.{one_place}
use Rattle.ov_graph.proofs.EvenTest.Walks.{AllSurvive, joined_self, joined_step, joined_trans, steps_of}
use Rattle.ov_components.specs.Code.Rows.{IsWhole, TakesComponent}
use Rattle.ov_components.proofs.Rows.{bit_or_not}

-- what passes along links from a survivor to a survivor passes along a walk
pub joined_along : (g : LinkGraph) (s : List ℕ) (P : ℕ → Type 0) (a b : ℕ)
    → ((x y : ℕ) → P x → Linked g x y → Survives g.nodes s y → P y) → P a → Joined g s a b → P b
joined_along g s P a b pass h j = let w = steps_of g s a b j in go a w.steps w.leads h w.stay
  where
    go : (x : ℕ) (xs : List ℕ) → Leads (Linked g) x xs b → P x → AllSurvive g s xs → P b
    go x [] e k stay = subst P e k
    go x (y ∷ ys) l k stay = go y ys l.1 (pass x y k l.0 (stay y (inl refl))) (λ z p. stay z (inr p))

-- While a component is grown, `before` are the places that were left before, `left` those whose links were not followed
-- yet, and `unseen` those that were not reached. What was reached is joined to the start, and no link leads on from a
-- place whose links were followed.
pub record IsGrown (g : LinkGraph) (s before : List ℕ) (start : ℕ) (left unseen : List ℕ) : Type 0 where
  pub joined : (p : ℕ) → HasBit before p → ¬ HasBit unseen p → Joined g s (node_at g start) (node_at g p)
  pub closed : (p q : ℕ) → HasBit before p → ¬ HasBit left p → HasBit unseen q
      → ¬ Linked g (node_at g p) (node_at g q)

-- the rows while a component is grown, whatever nodes crash
pub record AreRows (g : LinkGraph) (before : List ℕ) (start : ℕ) (left unseen : List ℕ) : Type 0 where
  pub within : (p : ℕ) → HasBit left p → HasBit before p
  pub seen : (p : ℕ) → HasBit unseen p → HasBit left p
  pub started : ¬ HasBit unseen start

-- at the beginning only the start is reached
pub rows_begun : (g : LinkGraph) (before : List ℕ) (start : ℕ) (unseen : List ℕ)
    → ((q : ℕ) → HasBit unseen q ↔ ((q ≢ start) × HasBit before q)) → AreRows g before start before unseen
rows_begun g before start unseen bits = record {
  within = λ p h. h;
  seen = λ p h. ((bits p).0 h).1;
  started = λ h. ((bits start).0 h).0 refl;
}

survivor : (g : LinkGraph) (s before : List ℕ) (p : ℕ) → IsWhole g s before
    → ((q : ℕ) → HasBit before q → q < length g.nodes) → HasBit before p → Survives g.nodes s (node_at g p)
survivor g s before p whole within h = (has_place g.nodes p 0 (within p h), whole.survive p h)

pub grown_begun : (g : LinkGraph) (s before : List ℕ) (start : ℕ) (unseen : List ℕ) → IsWhole g s before
    → ((q : ℕ) → HasBit before q → q < length g.nodes) → HasBit before start
    → ((q : ℕ) → HasBit unseen q ↔ ((q ≢ start) × HasBit before q)) → IsGrown g s before start before unseen
grown_begun g s before start unseen whole within has bits = record {
  joined = λ p h out. elim (cases_eq p start) [
    | inl e ↦ subst (λ (i : ℕ). Joined g s (node_at g start) (node_at g i)) (sym e)
        (joined_self g s (node_at g start) (survivor g s before start whole within has))
    | inr ne ↦ absurd (out ((bits p).1 (ne, h)))
  ];
  closed = λ p q h out. absurd (out h);
}

-- the links of one place more are followed
pub record Follows (g : LinkGraph) (left unseen : List ℕ) (place words : ℕ) (after fresh row : List ℕ) : Type 0 where
  pub open_place : HasBit left place × ¬ HasBit unseen place
  pub closes : (q : ℕ) → HasBit after q ↔ ((q ≢ place) × HasBit left q)
  pub reaches : (q : ℕ) → HasBit fresh q ↔ ((q < 64 * words) × HasBit unseen q × ¬ HasBit row q)
  pub links : (q : ℕ) → HasBit row q ↔ ((q < length g.nodes) × Linked g (node_at g place) (node_at g q))

pub follows : (g : LinkGraph) (left unseen : List ℕ) (place words : ℕ) (after fresh row reached : List ℕ)
    → ((q : ℕ) → HasBit reached q ↔ ((q < 64 * words) × HasBit left q × ¬ HasBit unseen q)) → HasBit reached place
    → ((q : ℕ) → HasBit after q ↔ ((q ≢ place) × HasBit left q))
    → ((q : ℕ) → HasBit fresh q ↔ ((q < 64 * words) × HasBit unseen q × ¬ HasBit row q))
    → ((q : ℕ) → HasBit row q ↔ ((q < length g.nodes) × Linked g (node_at g place) (node_at g q)))
    → Follows g left unseen place words after fresh row
follows g left unseen place words after fresh row reached bits has closes reaches links =
    let b = (bits place).0 has in
    record { open_place = (b.1, b.2); closes = closes; reaches = reaches; links = links }

pub rows_more : (g : LinkGraph) (before : List ℕ) (start : ℕ) (left unseen : List ℕ) (place words : ℕ)
    (after fresh row : List ℕ) → AreRows g before start left unseen
    → Follows g left unseen place words after fresh row → AreRows g before start after fresh
rows_more g before start left unseen place words after fresh row rows f = record {
  within = λ p h. rows.within p ((f.closes p).0 h).1;
  seen = λ p h.
      let u = ((f.reaches p).0 h).1 in
      (f.closes p).1 ((λ e. f.open_place.1 (bit_moved unseen p place e u)), rows.seen p u);
  started = λ h. rows.started ((f.reaches start).0 h).1;
}

pub grown_more : (g : LinkGraph) (s before : List ℕ) (start : ℕ) (left unseen : List ℕ) (place words : ℕ)
    (after fresh row : List ℕ) → IsWhole g s before → ((q : ℕ) → HasBit before q → q < length g.nodes)
    → length g.nodes ≤ 64 * words → AreRows g before start left unseen → IsGrown g s before start left unseen
    → Follows g left unseen place words after fresh row → IsGrown g s before start after fresh
grown_more g s before start left unseen place words after fresh row whole within enough rows grown f = record {
  joined = λ p h out. elim (bit_or_not unseen p) [
    | inl u ↦ elim (bit_or_not row p) [
      | inl r ↦
          let here = rows.within place f.open_place.0 in
          joined_trans g s (node_at g start) (node_at g place) (node_at g p)
          (grown.joined place here f.open_place.1)
          (joined_step g s (node_at g place) (node_at g p) (node_at g p) ((f.links p).0 r).1
          (survivor g s before place whole within here)
          (joined_self g s (node_at g p) (survivor g s before p whole within h)))
      | inr nr ↦ let l = within p h in absurd (out ((f.reaches p).1 (omega (arith, l, enough), u, nr)))
    ]
    | inr nu ↦ grown.joined p h nu
  ];
  closed = λ p q h out u l.
      let v = (f.reaches q).0 u in
      elim (cases_eq p place) [
        | inl e ↦ v.2 ((f.links q).1 (
          within q (rows.within q (rows.seen q v.1)),
          subst (λ (i : ℕ). Linked g (node_at g i) (node_at g q)) e l,
        ))
        | inr ne ↦ grown.closed p q h (λ k. out ((f.closes p).1 (ne, k))) v.1 l
      ];
}

-- a place whose links were followed, with its node x
record IsFollowed (g : LinkGraph) (before left : List ℕ) (x : ℕ) : Type 0 where
  place : ℕ
  below : place < length g.nodes
  node : node_at g place ≡ x
  was : HasBit before place
  gone : ¬ HasBit left place

-- at the end no place is reached whose links are still to be followed
pub record IsGrownOut (before left unseen : List ℕ) (words : ℕ) (row : List ℕ) : Type 0 where
  pub none : (p : ℕ) → p < 64 * words → HasBit left p → HasBit unseen p
  pub component : (p : ℕ) → HasBit row p ↔ ((p < 64 * words) × HasBit before p × ¬ HasBit left p)

pub grown_out : (before left unseen : List ℕ) (words : ℕ) (row reached : List ℕ)
    → ((q : ℕ) → HasBit reached q ↔ ((q < 64 * words) × HasBit left q × ¬ HasBit unseen q))
    → ((q : ℕ) → 0 ≤ q → q < 64 * words → ¬ HasBit reached q)
    → ((q : ℕ) → HasBit row q ↔ ((q < 64 * words) × HasBit before q × ¬ HasBit left q))
    → IsGrownOut before left unseen words row
grown_out before left unseen words row reached bits none component = record {
  none = λ p l h. elim (bit_or_not unseen p) [
    | inl u ↦ u
    | inr n ↦ absurd (none p (omega arith) l ((bits p).1 (l, h, n)))
  ];
  component = component;
}

followed_on : (g : LinkGraph) (s before : List ℕ) (start : ℕ) (left unseen : List ℕ) (words : ℕ) (component : List ℕ)
    (x y : ℕ) → IsWhole g s before → length g.nodes ≤ 64 * words → IsGrown g s before start left unseen
    → IsGrownOut before left unseen words component → IsFollowed g before left x → Linked g x y → Survives g.nodes s y
    → IsFollowed g before left y
followed_on g s before start left unseen words component x y whole enough grown out h l survives =
    let at = place_of g.nodes y survives.0 in
    let r = at.0 in
    let below : r < length g.nodes = at.1 in
    let node : node_at g r ≡ y = at.2 in
    let link : Linked g (node_at g h.place) (node_at g r) =
    subst (λ (i : ℕ). Linked g (node_at g h.place) i) (sym node)
    (subst (λ (i : ℕ). Linked g i y) (sym h.node) l) in
    let stays : ¬ Has s (node_at g r) = λ k. survives.1 (subst (Has s) node k) in
    record {
      place = r;
      below = below;
      node = node;
      was = whole.closed h.place r h.was below stays link;
      gone = λ k. grown.closed h.place r h.was h.gone (out.none r (omega (arith, below, enough)) k) link;
    }

pub component_taken : (g : LinkGraph) (s before : List ℕ) (start : ℕ) (left unseen : List ℕ) (words : ℕ)
    (component : List ℕ)
    → IsGraph g → IsWhole g s before → ((q : ℕ) → HasBit before q → q < length g.nodes)
    → length g.nodes ≤ 64 * words → HasBit before start → AreRows g before start left unseen
    → IsGrown g s before start left unseen → IsGrownOut before left unseen words component
    → TakesComponent g s before start left component
component_taken g s before start left unseen words component graph whole within enough has rows grown out = record {
  component = λ p. (
    (λ h.
        let b = (out.component p).0 h in
        (within p b.1, grown.joined p b.1 (λ u. b.2 (rows.seen p u)))),
    (λ h.
        let first : IsFollowed g before left (node_at g start) = record {
          place = start;
          below = within start has;
          node = refl;
          was = has;
          gone = λ k. rows.started (out.none start (let l = within start has in omega (arith, l, enough)) k);
        } in
        let last = joined_along g s (IsFollowed g before left) (node_at g start) (node_at g p)
        (λ x y k l v. followed_on g s before start left unseen words component x y whole enough grown out k l v)
        first h.1 in
        let e = one_place g.nodes last.place p graph.nodes_ascend last.below h.0 last.node in
        let below = h.0 in
        (out.component p).1 (
          omega (arith, below, enough),
          bit_moved before last.place p e last.was,
          (λ k. last.gone (bit_moved left p last.place (sym e) k)),
        )),
  );
  within = λ p h. ((out.component p).0 h).1;
  left = λ p. (
    (λ h. (rows.within p h, (λ k. ((out.component p).0 k).2 h))),
    (λ h. elim (bit_or_not left p) [
      | inl k ↦ k
      | inr n ↦ let l = within p h.0 in absurd (h.1 ((out.component p).1 (omega (arith, l, enough), h.0, n)))
    ]),
  );
}
