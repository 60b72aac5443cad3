-- The tree of a search, and one more node.
use Rattle.std.proofs.Common.{◌≡◌, ◌∙◌, ◌↔◌, ◌⊎◌, ℕ, zero, suc, ◌+◌, ◌-◌, ◌<◌, ◌≤◌, inl, inr, List, [], ◌∷◌, ◌++◌}
use Rattle.std.proofs.Common.{length, get_or, Option, Some, None, refl, sym, ap, subst, arith}
use Rattle.std.proofs.lemmas.Bool.{cases_eq, cases_lt}
use Rattle.std.proofs.lemmas.List.{length_push, get_or_push, get_or_append_left}
use Rattle.ov_ids.specs.Members.{Has}
use Rattle.ov_ids.proofs.Members.{has_or_not, has_append_left, has_append_right, has_append_cases, has_place, place_of}
use Rattle.ov_graph.specs.Links.{Linked}
use Rattle.ov_graph.specs.Joined.{Leads}
use Rattle.ov_graph.specs.Row.{HasBit}
use Rattle.ov_graph.proofs.EvenTest.Walks.{leads_push}
use Rattle.ov_split.specs.SplitNetState.{SplitNetState}
use Rattle.ov_split.specs.Code.Residual.{Table, IsFree, IsResidual, IsStuck}
use Rattle.ov_split.specs.Placed.{IsPlaced}
use Rattle.ov_split.proofs.Augmenting.Lists.{distinct_length, distinct_push}
use Rattle.ov_flow.specs.declared.search_tree.Tree.{Tree}
use Rattle.ov_flow.specs.Code.Reached.{tip_of, IsStepBy, IsTree, IsTaken, IsGrownBy, IsGrown, Extends, IsMore}
use Rattle.ov_flow.specs.Code.Held.{HasTreeRoom, HasNodeRoom}

pub extends_refl : (xs : List ℕ) → Extends xs xs
extends_refl xs = (omega arith, λ k l. refl)

pub extends_trans : (xs ys zs : List ℕ) → Extends xs ys → Extends ys zs → Extends xs zs
extends_trans xs ys zs e f = (
  let a = e.0 in let b = f.0 in omega (arith, a, b),
  λ k l.
      f.1 k (let a = e.0 in omega (arith, a, l)) ∙ e.1 k l,
)

pub extends_push : (xs : List ℕ) (y : ℕ) → Extends xs (xs ++ y ∷ [])
extends_push xs y = (omega (arith, length_push xs y), λ k l. get_or_append_left xs (y ∷ []) 0 k l)

pub extends_has : (xs ys : List ℕ) (x : ℕ) → Extends xs ys → Has xs x → Has ys x
extends_has xs ys x e h =
    let p = place_of xs x h in
    subst (Has ys) (e.1 p.0 p.1 ∙ p.2) (has_place ys p.0 0 (let l = p.1 in let m = e.0 in omega (arith, l, m)))

pub more_refl : {W : ℕ} (t : Tree W) → IsMore t t
more_refl t = record { order = extends_refl t.order.items; seen = λ w h. h }

pub more_trans : {W : ℕ} (a b c : Tree W) → IsMore a b → IsMore b c → IsMore a c
more_trans a b c f g = record {
  order = extends_trans a.order.items b.order.items c.order.items f.order g.order;
  seen = λ q h. g.seen q (f.seen q h);
}

pub has_push : (xs : List ℕ) (y : ℕ) → Has (xs ++ y ∷ []) y
has_push xs y = has_append_right xs (y ∷ []) y (inl refl)

pub only_last : (xs : List ℕ) (y x : ℕ) → Has (xs ++ y ∷ []) x → ¬ Has xs x → x ≡ y
only_last xs y x h out = elim (has_append_cases xs (y ∷ []) x h) [
  | inl k ↦ absurd (out k)
  | inr k ↦ elim k [ inl s ↦ sym s | inr w ↦ absurd w ]
]

pub last_of_push : (xs : List ℕ) (y : ℕ) → get_or (xs ++ y ∷ []) (length (xs ++ y ∷ []) - 1) 0 ≡ y
last_of_push xs y = let l = length_push xs y in get_or_push xs y 0 (length (xs ++ y ∷ []) - 1) (omega (arith, l))

pub step_residual : (n : SplitNetState) (from : Table) (x y : ℕ) (way : Option ℕ) → IsStepBy n from x y way
    → IsResidual n from x y
step_residual n from x y (Some w) s = inl (w, s.0, s.1, s.2)
step_residual n from x y None s = inr s

-- one more node
pub grow_tree : (n : SplitNetState) (from : Table) (order parents : List ℕ) (ways : List (Option ℕ)) (at y : ℕ)
    (way : Option ℕ)
    → IsTree n from order parents ways → at < length order → IsStepBy n from (get_or order at 0) y way
    → Has n.graph.nodes y → ¬ Has order y → IsTree n from (order ++ y ∷ []) (parents ++ at ∷ []) (ways ++ way ∷ [])
grow_tree n from order parents ways at y way t lt step node out =
    let l = length_push order y in
    let now = order ++ y ∷ [] in
    let ps = parents ++ at ∷ [] in
    let ws = ways ++ way ∷ [] in
    record {
      some = omega (arith, l, t.some);
      count = omega (arith, l, length_push parents at, t.count);
      long = omega (arith, l, length_push ways way, t.long);
      root = get_or_append_left order (y ∷ []) 0 0 t.some ∙ t.root;
      parent = λ k pos below. elim (cases_lt k (length order)) [
        | inl old ↦
            let e = get_or_append_left parents (at ∷ []) 0 k (omega (arith, old, t.count)) in
            omega (arith, e, t.parent k pos old)
        | inr past ↦
            let e = get_or_push parents at 0 k (omega (arith, l, t.count, below, past)) in
            omega (arith, e, lt, past)
      ];
      step = λ k pos below. elim (cases_lt k (length order)) [
        | inl old ↦
            let p = t.parent k pos old in
            let e = get_or_append_left parents (at ∷ []) 0 k (omega (arith, old, t.count)) in
            let f = get_or_append_left order (y ∷ []) 0 k old in
            let g = get_or_append_left order (y ∷ []) 0 (get_or parents k 0) (omega (arith, p, old)) in
            let h = get_or_append_left ways (way ∷ []) None k (omega (arith, old, t.long)) in
            let x = ap (λ (q : ℕ). get_or now q 0) e ∙ g in
            subst (λ (o : Option ℕ). IsStepBy n from (get_or now (get_or ps k 0) 0) (get_or now k 0) o) (sym h)
            (subst (λ (b : ℕ). IsStepBy n from (get_or now (get_or ps k 0) 0) b (get_or ways k None)) (sym f)
            (subst (λ (a : ℕ). IsStepBy n from a (get_or order k 0) (get_or ways k None)) (sym x) (t.step k pos old)))
        | inr past ↦
            let e = get_or_push parents at 0 k (omega (arith, l, t.count, below, past)) in
            let f = get_or_push order y 0 k (omega (arith, l, below, past)) in
            let g = get_or_append_left order (y ∷ []) 0 at lt in
            let h = get_or_push ways way None k (omega (arith, l, t.long, below, past)) in
            let x = ap (λ (q : ℕ). get_or now q 0) e ∙ g in
            subst (λ (o : Option ℕ). IsStepBy n from (get_or now (get_or ps k 0) 0) (get_or now k 0) o) (sym h)
            (subst (λ (b : ℕ). IsStepBy n from (get_or now (get_or ps k 0) 0) b way) (sym f)
            (subst (λ (a : ℕ). IsStepBy n from a y way) (sym x) step))
      ];
      distinct = distinct_push order y t.distinct out;
      nodes = λ x h. elim (has_append_cases order (y ∷ []) x h) [
        | inl k ↦ t.nodes x k
        | inr k ↦ elim k [ inl s ↦ subst (Has n.graph.nodes) s node | inr w ↦ absurd w ]
      ];
    }

pub tree_bound : (n : SplitNetState) (from : Table) (order parents : List ℕ) (ways : List (Option ℕ))
    → IsTree n from order parents ways → length order ≤ length n.graph.nodes
tree_bound n from order parents ways t = distinct_length order n.graph.nodes t.distinct t.nodes

-- a tree with room for all nodes has room for one that is not reached
pub node_room : (n : SplitNetState) (wide : ℕ) (from : Table) {W : ℕ} (t : Tree W) (node : ℕ) → IsPlaced n wide
    → IsGrown n from t → HasTreeRoom wide t → Has n.graph.nodes node → ¬ HasBit t.reached node → HasNodeRoom t
node_room n wide from t node placed g room there off =
    let order = t.order.items in
    let tree = g.is_tree in
    let all : (x : ℕ) → Has (order ++ node ∷ []) x → Has n.graph.nodes x =
    λ x h. elim (has_append_cases order (node ∷ []) x h) [
      | inl k ↦ tree.nodes x k
      | inr k ↦ elim k [ inl s ↦ subst (Has n.graph.nodes) s there | inr w ↦ absurd w ]
    ] in
    let b = distinct_length (order ++ node ∷ []) n.graph.nodes
    (distinct_push order node tree.distinct (λ h. off ((g.marked node).1 h))) all in
    let l = length_push order node in
    let count = placed.count in (
      let e = t.order.ok.0 in let r = room.0 in omega (arith, b, l, count, e, r),
      let e = t.parents.ok.0 in let f = tree.count in let r = room.1 in omega (arith, b, l, count, e, f, r),
      let e = t.ways.ok.0 in let f = tree.long in let r = room.2 in omega (arith, b, l, count, e, f, r),
    )

pub grown_push : (n : SplitNetState) (from : Table) (order parents : List ℕ) (ways : List (Option ℕ))
    (reached seen : List ℕ)
    (at y : ℕ) (way : Option ℕ) (new : List ℕ) → IsGrownBy n from order parents ways reached seen → at < length order
    → IsStepBy n from (get_or order at 0) y way → Has n.graph.nodes y → ¬ Has order y
    → ((q : ℕ) → HasBit new q ↔ ((q ≡ y) ⊎ HasBit reached q))
    → IsGrownBy n from (order ++ y ∷ []) (parents ++ at ∷ []) (ways ++ way ∷ []) new seen
grown_push n from order parents ways reached seen at y way new g lt step node out put = record {
  is_tree = grow_tree n from order parents ways at y way g.is_tree lt step node out;
  marked = λ p. (
    (λ h. elim ((put p).0 h) [
      | inl e ↦ has_append_right order (y ∷ []) p (inl (sym e))
      | inr k ↦ has_append_left order (y ∷ []) p ((g.marked p).0 k)
    ]),
    (λ h. (put p).1 (elim (has_append_cases order (y ∷ []) p h) [
      | inl k ↦ inr ((g.marked p).1 k)
      | inr k ↦ elim k [ inl s ↦ inl (sym s) | inr w ↦ absurd w ]
    ])),
  );
  off = g.off;
  source = g.source;
  sees = λ w h. elim (g.sees w h) [
    | inl a ↦ inl a
    | inr t ↦ inr (record {
      x = t.x;
      behind = has_append_left order (y ∷ []) t.x t.behind;
      free = t.free;
      tip = has_append_left order (y ∷ []) (tip_of from w) t.tip;
    })
  ];
}

-- a link was taken to w, and the open end is reached
pub grown_seen : (n : SplitNetState) (from : Table) (order parents : List ℕ) (ways : List (Option ℕ))
    (reached seen : List ℕ)
    (x w : ℕ) (new : List ℕ) → IsGrownBy n from order parents ways reached seen → Has order x → IsFree n x w
    → Has order (tip_of from w) → ((q : ℕ) → HasBit new q ↔ ((q ≡ w) ⊎ HasBit seen q))
    → IsGrownBy n from order parents ways reached new
grown_seen n from order parents ways reached seen x w new g hx free tip put = record {
  is_tree = g.is_tree;
  marked = g.marked;
  off = λ q h. (put q).1 (inr (g.off q h));
  source = (put n.source).1 (inr g.source);
  sees = λ q h. elim ((put q).0 h) [
    | inl e ↦ inr (subst (IsTaken n from order) (sym e) (record { x = x; behind = hx; free = free; tip = tip }))
    | inr k ↦ g.sees q k
  ];
}

-- a node was reached: it is in the tree, and is its last node where it is new
abbrev pub IsReachedBy : {W : ℕ} → SplitNetState → Table → Tree W → Tree W → ℕ → Type 0
IsReachedBy n from old new node = IsGrown n from new × Has new.order.items node
    × (¬ Has old.order.items node → get_or new.order.items (length new.order.items - 1) 0 ≡ node)

pub reached_before : (n : SplitNetState) (from : Table) {W : ℕ} (t : Tree W) (node : ℕ) → IsGrown n from t
    → HasBit t.reached node
    → IsReachedBy n from t t node
reached_before n from t node g h = (g, (g.marked node).0 h, λ out. absurd (out ((g.marked node).0 h)))

-- the first node
pub grown_first : (n : SplitNetState) (from : Table) (reached seen avoided empty : List ℕ) (s : ℕ) → Has n.graph.nodes s
    → s ≡ n.source → ((p : ℕ) → HasBit avoided p ↔ Has n.avoided p) → ((p : ℕ) → ¬ HasBit empty p)
    → ((q : ℕ) → HasBit reached q ↔ ((q ≡ s) ⊎ HasBit empty q))
    → ((q : ℕ) → HasBit seen q ↔ ((q ≡ s) ⊎ HasBit avoided q))
    → IsGrownBy n from (s ∷ []) (0 ∷ []) (None ∷ []) reached seen
grown_first n from reached seen avoided empty s node is off none first put = record {
  is_tree = record {
    some = omega arith;
    count = refl;
    long = refl;
    root = is;
    parent = λ k pos l. absurd (omega arith);
    step = λ k pos l. absurd (omega arith);
    distinct = ((λ h. h), tt);
    nodes = λ x h. elim h [ inl e ↦ subst (Has n.graph.nodes) e node | inr w ↦ absurd w ];
  };
  marked = λ p. (
    (λ h. elim ((first p).0 h) [ inl e ↦ inl (sym e) | inr k ↦ absurd (none p k) ]),
    (λ h. (first p).1 (elim h [ inl e ↦ inl (sym e) | inr w ↦ absurd w ])),
  );
  off = λ w h. (put w).1 (inr ((off w).1 h));
  source = (put n.source).1 (inl (sym is));
  sees = λ w h. elim ((put w).0 h) [ inl e ↦ inl (inr (e ∙ is)) | inr k ↦ inl (inl ((off w).0 k)) ];
}

-- some walk leads to each node of the tree
tree_walk : (n : SplitNetState) (from : Table) (order parents : List ℕ) (ways : List (Option ℕ))
    → IsTree n from order parents ways → (fuel k : ℕ) → k < fuel → k < length order
    → (walk : List ℕ) × Leads (IsResidual n from) n.source walk (get_or order k 0)
tree_walk n from order parents ways t zero k l m = absurd (omega arith)
tree_walk n from order parents ways t (suc fuel) zero l m = ([], sym t.root)
tree_walk n from order parents ways t (suc fuel) (suc k) l m =
    let p = t.parent (suc k) (omega arith) m in
    let before = get_or parents (suc k) 0 in
    let r = tree_walk n from order parents ways t fuel before (omega (arith, p)) (omega (arith, p)) in (
      r.0 ++ get_or order (suc k) 0 ∷ [],
      leads_push (IsResidual n from) n.source (get_or order (get_or parents (suc k) 0) 0) (get_or order (suc k) 0) r.0
          r.1 (step_residual n from (get_or order (get_or parents (suc k) 0) 0) (get_or order (suc k) 0)
          (get_or ways (suc k) None) (t.step (suc k) (omega arith) m)),
    )

-- a tree all of whose nodes were visited is stuck
pub all_visited : (n : SplitNetState) (from : Table) (order parents : List ℕ) (ways : List (Option ℕ))
    (reached seen : List ℕ)
    → IsGrownBy n from order parents ways reached seen → ((x : ℕ) → Has order x → ¬ Has n.targets x)
    → ((k w : ℕ) → k < length order → Linked n.graph (get_or order k 0) w → HasBit seen w)
    → ((k u : ℕ) → k < length order → from (get_or order k 0) ≡ Some u → Has order u) → IsStuck n from order
all_visited n from order parents ways reached seen g clean links backs =
    let t = g.is_tree in
    let done : (k y : ℕ) → k < length order → IsResidual n from (get_or order k 0) y → Has order y =
    λ k y l s. elim s [
      | inl r ↦ elim (g.sees r.0 (links k r.0 l r.1.0)) [
        | inl a ↦ elim a [ inl h ↦ absurd (r.1.1 h) | inr e ↦ absurd (r.2 e) ]
        | inr t ↦ subst (Has order) r.3 t.tip
      ]
      | inr f ↦ backs k y l f
    ] in
    record {
      source = subst (Has order) t.root (has_place order 0 0 t.some);
      closed = λ x y h s.
          let p = place_of order x h in
          done p.0 y p.1 (subst (λ (a : ℕ). IsResidual n from a y) (sym p.2) s);
      led = λ x h.
          let p = place_of order x h in
          let w = tree_walk n from order parents ways t (length order) p.0 p.1 p.1 in
          (w.0, subst (λ (a : ℕ). Leads (IsResidual n from) n.source w.0 a) p.2 w.1);
      no_target = clean;
    }

pub clean_more : (n : SplitNetState) (xs ys : List ℕ) (y : ℕ) → ((x : ℕ) → Has xs x → ¬ Has n.targets x)
    → ((x : ℕ) → Has ys x → ¬ Has xs x → x ≡ y) → ¬ Has n.targets y → (x : ℕ) → Has ys x → ¬ Has n.targets x
clean_more n xs ys y clean only off x h t = elim (has_or_not xs x) [
  | inl k ↦ clean x k t
  | inr o ↦ off (subst (Has n.targets) (only x h o) t)
]

-- each link of the visited nodes is seen, and so it is with one more node
pub links_more : (n : SplitNetState) (xs ys old new : List ℕ) (at : ℕ) → Extends xs ys → at < length xs
    → ((p : ℕ) → HasBit old p → HasBit new p)
    → ((k w : ℕ) → k < at → Linked n.graph (get_or xs k 0) w → HasBit old w)
    → ((w : ℕ) → Linked n.graph (get_or xs at 0) w → HasBit new w) → (k w : ℕ) → k < at + 1
    → Linked n.graph (get_or ys k 0) w → HasBit new w
links_more n xs ys old new at e lt more done now k w l h =
    let h' = subst (λ (a : ℕ). Linked n.graph a w) (e.1 k (omega arith)) h in
    elim (cases_eq k at) [
      | inl s ↦ now w (subst (λ (j : ℕ). Linked n.graph (get_or xs j 0) w) s h')
      | inr ne ↦ more w (done k w (omega arith) h')
    ]

pub backs_more : (from : Table) (xs ys : List ℕ) (at : ℕ) → Extends xs ys → at < length xs
    → ((k u : ℕ) → k < at → from (get_or xs k 0) ≡ Some u → Has xs u)
    → ((u : ℕ) → from (get_or xs at 0) ≡ Some u → Has ys u) → (k u : ℕ) → k < at + 1 → from (get_or ys k 0) ≡ Some u
    → Has ys u
backs_more from xs ys at e lt done now k u l h =
    let h' = sym (ap from (e.1 k (omega arith))) ∙ h in
    elim (cases_eq k at) [
      | inl s ↦ now u (sym (ap (λ (j : ℕ). from (get_or xs j 0)) s) ∙ h')
      | inr ne ↦ extends_has xs ys u e (done k u (omega arith) h')
    ]
