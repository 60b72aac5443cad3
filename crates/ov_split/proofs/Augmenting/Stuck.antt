-- A stuck search: the boundary of the reached nodes has no more nodes than there are ends.
use Rattle.std.proofs.Common.{◌≡◌, ◌≢◌, ℕ, suc, ◌≤◌, ◌⊎◌, inl, inr, List, [], ◌∷◌, ◌++◌, length}
use Rattle.std.proofs.Common.{Option, Some, None, refl, sym, ap, subst, arith, unwrap_or}
use Rattle.std.proofs.lemmas.Bool.{cases_eq}
use Rattle.ov_ids.specs.Members.{Has}
use Rattle.ov_ids.proofs.Members.{has_or_not, has_append_left, has_append_right}
use Rattle.ov_graph.specs.Joined.{Leads}
use Rattle.ov_graph.proofs.EvenTest.Walks.{joined_keeps}
use Rattle.ov_split.specs.SplitNetState.{SplitNetState, IsSplitNet, IsReached}
use Rattle.ov_split.specs.Code.Residual.{IsFree, Table, IsFlow, IsStuck, IsBoundary}
use Rattle.ov_split.proofs.Augmenting.Lists.{distinct_length}
use Rattle.ov_split.proofs.Augmenting.Trace.{Arc, traced, predecessor, on_path}

module _ (n : SplitNetState) (net : IsSplitNet n) (from : Table) (ends : List ℕ) (flow : IsFlow n from ends)
    (reached : List ℕ)
    (stuck : IsStuck n from reached) where
  -- the node before a reached node is reached
  before : (v u : ℕ) → Has reached v → from v ≡ Some u → Has reached u
  before v u h f = stuck.closed v u h (inr f)

  stays_out : (y e v : ℕ) (c : List ℕ) → ¬ Has reached y → Leads (Arc from) y c e → Has c v → ¬ Has reached v
  stays_out y e v [] off l h r = h
  stays_out y e v (z ∷ c) off l h r =
      let off' : ¬ Has reached z = λ k. off (before z y k l.0) in
      elim h [ inl s ↦ off' (subst (Has reached) (sym s) r) | inr k ↦ stays_out z e v c off' l.1 k r ]

  -- the crossing of a path: its only node that is not reached and comes right after a reached one
  record Crossing (c : List ℕ) : Type 0 where
    w : ℕ
    only : (v u : ℕ) → Has c v → ¬ Has reached v → from v ≡ Some u → Has reached u → v ≡ w

  crossing : (x e : ℕ) (c : List ℕ) → Has reached x → ¬ Has reached e → Leads (Arc from) x c e → Crossing c
  crossing x e [] h off l = absurd (off (subst (Has reached) l h))
  crossing x e (y ∷ c) h off l = elim (has_or_not reached y) [
    | inl r ↦
        let q = crossing y e c r off l.1 in
        record {
          w = q.w;
          only = λ v u k o f hu. elim k [
            | inl s ↦ absurd (o (subst (Has reached) s r))
            | inr m ↦ q.only v u m o f hu
          ];
        }
    | inr o ↦ record {
      w = y;
      only = λ v u k ov f hu. elim k [
        | inl s ↦ sym s
        | inr m ↦ absurd (elim (predecessor from y e v u c l.1 m f) [
          | inl s ↦ o (subst (Has reached) s hu)
          | inr p ↦ stays_out y e u c o l.1 p hu
        ])
      ];
    }
  ]

  end_out : (e : ℕ) → Has ends e → ¬ Has reached e
  end_out e h r = stuck.no_target e r (flow.targets e h)

  end_free : (e : ℕ) → Has ends e → e ≢ n.source
  end_free e h s = net.no_target (subst (Has n.targets) s (flow.targets e h))

  -- the crossings of the paths to es
  record Crossings (es : List ℕ) : Type 0 where
    nodes : List ℕ
    count : length nodes ≡ length es
    all : (v u e : ℕ) → Has es e → (d : List ℕ) → Leads (Arc from) v d e → ¬ Has reached v → from v ≡ Some u
        → Has reached u → Has nodes v

  crossings : (es : List ℕ) → ((e : ℕ) → Has es e → Has ends e) → Crossings es
  crossings [] f = record { nodes = []; count = refl; all = λ v u e h. absurd h }
  crossings (e ∷ es) f =
      let h = f e (inl refl) in
      let t = traced n net from ends flow.held e h (end_free e h) in
      let x = crossing n.source e t.steps stuck.source (end_out e h) t.leads in
      let r = crossings es (λ a k. f a (inr k)) in
      record {
        nodes = x.w ∷ r.nodes;
        count = ap suc r.count;
        all = λ v u a k d l o g hu. elim k [
          | inl s ↦
              let on = on_path n from ends flow.held v e d t.steps (u, g) (end_free e h)
              (subst (λ (b : ℕ). Leads (Arc from) v d b) (sym s) l) t.leads in
              inl (sym (x.only v u on o g hu))
          | inr m ↦ inr (r.all v u a m d l o g hu)
        ];
      }

  -- a free link from a reached node leads to a reached node or a crossing
  edge : (x y : ℕ) → Has reached x → IsFree n x y → Has reached y ⊎ Has (crossings ends (λ e h. h)).nodes y
  edge x y h l = elim (cases_eq y n.source) [
    | inl s ↦ inl (subst (Has reached) (sym s) stuck.source)
    | inr ns ↦ elim (has_or_not reached y) [
      | inl r ↦ inl r
      | inr o ↦ go (from y) refl ns o
    ]
  ]
    where
      go : (f : Option ℕ) → from y ≡ f → y ≢ n.source → ¬ Has reached y
          → Has reached y ⊎ Has (crossings ends (λ e h. h)).nodes y
      go None f ns o = inl (stuck.closed x y h (inl (y, l, ns, ap (λ (q : Option ℕ). unwrap_or q y) f)))
      go (Some u) f ns o =
          let t = flow.tidy y (u, f) in
          let hu = stuck.closed x u h (inl (y, l, ns, ap (λ (q : Option ℕ). unwrap_or q y) f)) in
          inr ((crossings ends (λ e k. k)).all y u t.0 t.1 t.2.0 t.2.1 o f hu)

  -- the boundary has no more nodes than there are ends
  pub boundary_small : (s : List ℕ) → IsBoundary n reached s → length s ≤ length ends
  boundary_small s b =
      let c = crossings ends (λ e h. h) in
      let small = distinct_length s c.nodes b.distinct (λ w h.
      let x = b.behind w h in
      elim (edge x.0 w x.1 x.2) [ inl r ↦ absurd (b.out w h r) | inr k ↦ k ]) in
      omega (arith, small, c.count)

  -- without the boundary no other nodes are reached
  pub boundary_within : (s : List ℕ) → IsBoundary n reached s → (x : ℕ) → IsReached n s x → Has reached x
  boundary_within s b x j =
      joined_keeps n.graph (n.avoided ++ s) reached n.source x
      (λ a w h l. elim (has_or_not n.avoided w) [
        | inl k ↦ inr (has_append_left n.avoided s w k)
        | inr o ↦ elim (b.all a w h (l, o)) [ inl r ↦ inl r | inr k ↦ inr (has_append_right n.avoided s w k) ]
      ]) stuck.source j
