-- The boundary of a stuck search is the nearest of the least cuts.
use Rattle.std.proofs.Common.{◌≡◌, ◌↔◌, ◌∙◌, ◌≢◌, ℕ, ◌<◌, ◌≤◌, inl, inr, List, [], ◌∷◌, ◌++◌, length, Some, None}
use Rattle.std.proofs.Common.{refl, sym, ap, subst, arith}
use Rattle.std.proofs.lemmas.Bool.{cases_eq, cases_lt}
use Rattle.ov_ids.specs.Members.{Has, IsDistinct, IsApart, Ascends}
use Rattle.ov_ids.proofs.Members.{has_append_left, has_append_right}
use Rattle.ov_graph.specs.Joined.{Leads, Survives, Joined}
use Rattle.ov_graph.proofs.EvenTest.Walks.{AllSurvive, joined_self, joined_step, joined_on, joined_trans, joined_end}
use Rattle.ov_graph.proofs.EvenTest.Escape.{meets_or_apart, less, escape}
use Rattle.ov_graph.proofs.EvenTest.Filtered.{linked_node}
use Rattle.ov_split.specs.SplitNetState.{SplitNetState, IsSplitNet, IsReached, IsCutOf, IsNearestCut, IsSideOf}
use Rattle.ov_split.specs.Code.Residual.{IsFree, Table, IsFlow, IsStuck, IsResidual, IsBoundary}
use Rattle.ov_split.proofs.Augmenting.Lists.{others_of, distinct_parts, off_both}
use Rattle.ov_split.proofs.Augmenting.Move.{tip_cases}
use Rattle.ov_split.proofs.Augmenting.Trace.{Arc, traced, bundle, meet, suffix, on_path, last_of, used_on, used_off}
use Rattle.ov_split.proofs.Augmenting.Trace.{used_node}
use Rattle.ov_split.proofs.Augmenting.Trace.{linked_on}
use Rattle.ov_split.proofs.Augmenting.Stuck.{boundary_small, boundary_within}

-- a path parted at one of its nodes
record Parted (from : Table) (x e z : ℕ) (c : List ℕ) : Type 0 where
  front : List ℕ
  after : List ℕ
  u : ℕ
  is : c ≡ front ++ z ∷ after
  leads : Leads (Arc from) x front u
  step : from z ≡ Some u
  goes : Leads (Arc from) z after e

parted : (from : Table) (x e z : ℕ) (c : List ℕ) → Leads (Arc from) x c e → Has c z → Parted from x e z c
parted from x e z [] l h = absurd h
parted from x e z (y ∷ c) l h = elim h [
  | inl s ↦ record {
    front = [];
    after = c;
    u = x;
    is = ap (λ (a : ℕ). a ∷ c) s;
    leads = refl;
    step = ap from (sym s) ∙ l.0;
    goes = subst (λ (a : ℕ). Leads (Arc from) a c e) s l.1;
  }
  | inr k ↦
      let r = parted from y e z c l.1 k in
      record {
        front = y ∷ r.front;
        after = r.after;
        u = r.u;
        is = ap (λ (q : List ℕ). y ∷ q) r.is;
        leads = (l.0, r.leads);
        step = r.step;
        goes = r.goes;
      }
]

in_front : (from : Table) (x e z : ℕ) (c : List ℕ) (p : Parted from x e z c) (a : ℕ) → Has p.front a → Has c a
in_front from x e z c p a h =
    subst (λ (l : List ℕ). Has l a) (sym p.is) (has_append_left p.front (z ∷ p.after) a h)

in_rest : (from : Table) (x e z : ℕ) (c : List ℕ) (p : Parted from x e z c) (a : ℕ) → Has (z ∷ p.after) a → Has c a
in_rest from x e z c p a h =
    subst (λ (l : List ℕ). Has l a) (sym p.is) (has_append_right p.front (z ∷ p.after) a h)

-- the parts of a path without repetition share nothing
distinct_in : (from : Table) (x e z : ℕ) (c : List ℕ) (p : Parted from x e z c) (a b : ℕ) → IsDistinct c → a ≡ b
    → Has p.front a → Has (z ∷ p.after) b → ⊥
distinct_in from x e z c p a b d one h k =
    distinct_parts p.front (z ∷ p.after) b (subst IsDistinct p.is d) (subst (Has p.front) one h) k

module _ (n : SplitNetState) (net : IsSplitNet n) (from : Table) (ends : List ℕ) (flow : IsFlow n from ends)
    (t : List ℕ)
    (cut : IsCutOf n t) where
  ends_free : (e : ℕ) → Has ends e → e ≢ n.source
  ends_free e h s = net.no_target (subst (Has n.targets) s (flow.targets e h))

  -- the source survives
  source_survives : Survives n.graph.nodes (n.avoided ++ t) n.source
  source_survives = (net.source, off_both n.avoided t n.source net.not_avoided cut.source)

  -- a path without nodes of t joins its ends without t
  path_joined : (x e : ℕ) (c : List ℕ) → Leads (Arc from) x c e → Survives n.graph.nodes (n.avoided ++ t) x
      → IsApart t c → Joined n.graph (n.avoided ++ t) x e
  path_joined x e c l sx away =
      let stay : AllSurvive n.graph (n.avoided ++ t) c = λ v h.
      let u = used_on from x e v c l h in (
        used_node n net from ends flow.held v u,
        off_both n.avoided t v (used_off n from ends flow.held v u) (away v h),
      ) in
      let last : Survives n.graph.nodes (n.avoided ++ t) e = elim (last_of from x e c l) [
        | inl s ↦ subst (Survives n.graph.nodes (n.avoided ++ t)) s sx
        | inr h ↦ stay e h
      ] in
      joined_on n.graph (n.avoided ++ t) x e e c (linked_on n from ends flow.held x e c l) sx stay
      (joined_self n.graph (n.avoided ++ t) e last)

  -- so each path to an end meets t
  none_past : (e : ℕ) (c : List ℕ) → Has ends e → Leads (Arc from) n.source c e → IsApart t c → ⊥
  none_past e c h l away = cut.parts e (flow.targets e h) (path_joined n.source e c l source_survives away)

  -- a path to one of es without nodes of s, where es has more nodes than s
  record Missed (es s : List ℕ) : Type 0 where
    e : ℕ
    among : Has es e
    c : List ℕ
    leads : Leads (Arc from) n.source c e
    away : IsApart s c

  missed : (es s : List ℕ) → IsDistinct es → ((e : ℕ) → Has es e → Has ends e) → ¬ Has s n.source
      → length s < length es → Missed es s
  missed es s d f off few =
      let b = bundle n net from ends flow.held es d (λ e h. (f e h, ends_free e (f e h))) in
      let q = escape (n.source ∷ []) s b.0
      (λ x h. elim h [ inl e ↦ subst (λ (z : ℕ). ¬ Has s z) e off | inr k ↦ absurd k ]) b.1.apart
      (omega (arith, b.1.count, few)) in
      let r = b.1.each q.0 q.1 in
      record {
        e = r.end;
        among = r.among;
        c = r.steps;
        leads = r.leads;
        away = λ x h. q.2 x (subst (λ (l : List ℕ). Has l x) (sym r.is) (inr h));
      }

  -- a cut has no fewer nodes than there are ends
  pub no_fewer : length ends ≤ length t
  no_fewer = elim (cases_lt (length t) (length ends)) [
    | inl few ↦
        let m = missed ends t flow.held.distinct (λ e h. h) cut.source few in
        absurd (none_past m.e m.c m.among m.leads m.away)
    | inr le ↦ le
  ]

  module _ (fewest : length t ≤ length ends) where
    -- each node of the cut is on a path
    all_used : (a : ℕ) → Has t a → from a ≡ None → ⊥
    all_used a h f =
        let w = less t a h in
        let m = missed ends w.rest flow.held.distinct (λ e k. k) (λ k. cut.source (w.within n.source k))
        (omega (arith, w.shorter)) in
        none_past m.e m.c m.among m.leads (λ y hy hyt. elim (w.others y hyt) [
          | inl s ↦ let u = used_on from n.source m.e y m.c m.leads hy in absurd (cc (u.1, f, ap from s))
          | inr k ↦ m.away y hy k
        ])

    -- and no path has two
    one_each : (e a b : ℕ) (c : List ℕ) → Has ends e → Leads (Arc from) n.source c e → Has c a → Has t a → Has c b
        → Has t b → a ≡ b
    one_each e a b c he l ha hat hb hbt = elim (cases_eq a b) [
      | inl s ↦ s
      | inr ne ↦
          let o = others_of ends e he flow.held.distinct in
          let w = less t a hat in
          let hb' : Has w.rest b = elim (w.others b hbt) [ inl s ↦ absurd (ne s) | inr k ↦ k ] in
          let v = less w.rest b hb' in
          let m = missed o.rest v.rest o.distinct o.within (λ k. cut.source (w.within n.source (v.within n.source k)))
          (omega (arith, w.shorter, v.shorter, o.shorter)) in
          let off : (y : ℕ) → Has c y → Has t y → Has m.c y → ⊥ = λ y hc ht hm.
          let p = suffix from n.source e y c l hc in
          let q = suffix from n.source m.e y m.c m.leads hm in
          let ys : y ≢ n.source = λ s. cut.source (subst (Has t) s ht) in
          let one = meet n from ends flow.held y e m.e p.0 q.0 he (o.within m.e m.among) ys p.1 q.1 in
          o.gone (subst (Has o.rest) (sym one) m.among) in
          absurd (none_past m.e m.c (o.within m.e m.among) m.leads (λ y hy hyt. elim (w.others y hyt) [
            | inl s ↦ off y (subst (Has c) s ha) hyt hy
            | inr k ↦ elim (v.others y k) [ inl s ↦ off y (subst (Has c) s hb) hyt hy | inr r ↦ m.away y hy r ]
          ]))
    ]

    -- the node before z is reached without t, where z is or is in the cut
    behind : (z u : ℕ) → from z ≡ Some u → (¬ Has t z → IsReached n t z) → IsReached n t u
    behind z u f reach =
        let y = flow.tidy z (u, f) in
        let c = traced n net from ends flow.held y.0 y.1 (ends_free y.0 y.1) in
        let hz = on_path n from ends flow.held z y.0 y.2.0 c.steps (u, f) (ends_free y.0 y.1) y.2.1 c.leads in
        let p = parted from n.source y.0 z c.steps c.leads hz in
        let same : p.u ≡ u = let k = p.step in cc (k, f) in
        elim (meets_or_apart t p.front) [
          | inr away ↦
              subst (IsReached n t) {x = p.u} same (path_joined n.source p.u p.front p.leads source_survives away)
          | inl m ↦ absurd (elim (meets_or_apart t (z ∷ p.after)) [
            | inl k ↦
                let in_c = in_front from n.source y.0 z c.steps p m.0 m.1 in
                let on_c = in_rest from n.source y.0 z c.steps p k.0 k.1 in
                let one = one_each y.0 m.0 k.0 c.steps y.1 c.leads in_c m.2 on_c k.2 in
                distinct_in from n.source y.0 z c.steps p m.0 k.0 c.distinct.1 one m.1 k.1
            | inr away ↦
                let zt : ¬ Has t z = away z (inl refl) in
                let there = reach zt in
                cut.parts y.0 (flow.targets y.0 y.1) (joined_trans n.graph (n.avoided ++ t) n.source z y.0 there
                (path_joined z y.0 p.after p.goes (joined_end n.graph (n.avoided ++ t) n.source z there)
                (λ v h. away v (inr h))))
          ])
        ]

    on_to : (x w : ℕ) → IsReached n t x → IsFree n x w → ¬ Has t w → IsReached n t w
    on_to x w near free off =
        let ow : Survives n.graph.nodes (n.avoided ++ t) w =
        (linked_node n.graph x w net.graph free.0, off_both n.avoided t w free.1 off) in
        joined_trans n.graph (n.avoided ++ t) n.source x w near
        (joined_step n.graph (n.avoided ++ t) x w w free.0 (joined_end n.graph (n.avoided ++ t) n.source x near)
        (joined_self n.graph (n.avoided ++ t) w ow))

    near_step : (x y : ℕ) → IsReached n t x → IsResidual n from x y → IsReached n t y
    near_step x y near step = elim step [
      | inl r ↦ elim (tip_cases from r.0 y (from r.0) refl r.3) [
        | inl p ↦ subst (IsReached n t) p.1 (on_to x r.0 near r.1 (λ h. all_used r.0 h p.0))
        | inr f ↦ behind r.0 y f (λ off. on_to x r.0 near r.1 off)
      ]
      | inr f ↦ behind x y f (λ off. near)
    ]

    -- without a least cut the residual steps reach no more than walks do
    pub near_walk : (x y : ℕ) (walk : List ℕ) → IsReached n t x → Leads (IsResidual n from) x walk y → IsReached n t y
    near_walk x y [] near l = subst (IsReached n t) l near
    near_walk x y (z ∷ walk) near l = near_walk z y walk (near_step x z near l.0) l.1

    pub led_near : (x : ℕ) (walk : List ℕ) → Leads (IsResidual n from) n.source walk x → IsReached n t x
    led_near x walk l = near_walk n.source x walk (joined_self n.graph (n.avoided ++ t) n.source source_survives) l

-- the boundary of a stuck search
pub record IsNearestBoundary (n : SplitNetState) (ends reached s : List ℕ) : Type 0 where
  pub count : length s ≡ length ends
  pub nearest : IsNearestCut n s
  pub side : (x : ℕ) → Has reached x ↔ IsReached n s x

pub boundary_is_nearest : (n : SplitNetState) → IsSplitNet n → (from : Table) (ends : List ℕ) → IsFlow n from ends
    → (reached : List ℕ)
    → IsStuck n from reached → (s : List ℕ) → IsBoundary n reached s → Ascends s → IsNearestBoundary n ends reached s
boundary_is_nearest n net from ends flow reached stuck s b up =
    let within = boundary_within n net from ends flow reached stuck s b in
    let cut : IsCutOf n s = record {
      set = record {
        ascends = up;
        nodes = λ w h. let x = b.behind w h in linked_node n.graph x.0 w net.graph x.2.0;
      };
      source = λ h. b.out n.source h stuck.source;
      off = λ x h k. (b.behind x h).2.1 k;
      parts = λ t h j. stuck.no_target t (within t j) h;
    } in
    let small = boundary_small n net from ends flow reached stuck s b in
    let large = no_fewer n net from ends flow s cut in
    record {
      count = omega (arith, small, large);
      nearest = record {
        least = record {
          cut = cut;
          least = λ t c. let h = no_fewer n net from ends flow t c in omega (arith, h, small);
        };
        nearest = λ t c x j.
            let w = stuck.led x (within x j) in
            let h = c.least s cut in
            led_near n net from ends flow t c.cut (omega (arith, h, small)) x w.0 w.1;
      };
      side = λ x. (
        (λ h. let w = stuck.led x h in led_near n net from ends flow s cut small x w.0 w.1),
        within x,
      );
    }

-- the reached nodes, in ascending order, are the side of the boundary
pub boundary_side : (n : SplitNetState) (ends reached s side : List ℕ) → IsNearestBoundary n ends reached s
    → Ascends side
    → ((x : ℕ) → Has side x ↔ Has reached x) → IsSideOf n s side
boundary_side n ends reached s side b up same = record {
  set = record {
    ascends = up;
    nodes = λ x h. (joined_end n.graph (n.avoided ++ s) n.source x ((b.side x).0 ((same x).0 h))).0;
  };
  each = λ x. ((λ h. (b.side x).0 ((same x).0 h)), (λ j. (same x).1 ((b.side x).1 j)));
}
