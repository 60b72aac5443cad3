-- A table reduced to its paths, and one whole augmentation.
use Rattle.std.proofs.Common.{◌≡◌, ◌∙◌, ◌≢◌, ℕ, ◌⊎◌, inl, inr, List, [], ◌∷◌, ◌++◌, Some, None, refl, sym}
use Rattle.std.proofs.Common.{subst, length}
use Rattle.ov_ids.specs.Members.{Has, IsDistinct}
use Rattle.ov_ids.proofs.Members.{has_or_not, has_append_left, has_append_right, has_append_cases}
use Rattle.ov_graph.specs.Joined.{Leads}
use Rattle.ov_split.specs.SplitNetState.{SplitNetState, IsSplitNet, IsFanOf}
use Rattle.ov_split.specs.Code.Residual.{Table, IsUsed, AreHeld, IsTidy, IsFlow, IsResidual}
use Rattle.ov_split.proofs.Augmenting.Move.{leads_map, grow, start_held}
use Rattle.ov_split.proofs.Augmenting.Trace.{Arc, traced, suffix, predecessor, last_of, used_on, fan_of}

module _ (n : SplitNetState) (from : Table) (ends : List ℕ) where
  -- the nodes of the paths to es, each with what follows it
  pub record Kept (es : List ℕ) : Type 0 where
    pub keep : List ℕ
    pub ends_in : (e : ℕ) → Has es e → Has keep e
    pub used : (v : ℕ) → Has keep v → IsUsed from v
    pub back : (v u : ℕ) → Has keep v → from v ≡ Some u → (u ≡ n.source) ⊎ Has keep u
    pub on : (v : ℕ) → Has keep v
        → (e : ℕ) × Has es e × ((d : List ℕ) × Leads (Arc from) v d e × ((a : ℕ) → Has d a → Has keep a))

  -- no path is kept
  pub kept_none : Kept []
  kept_none = record {
    keep = [];
    ends_in = λ e h. h;
    used = λ v h. absurd h;
    back = λ v u h. absurd h;
    on = λ v h. absurd h;
  }

  -- one path more is kept
  pub kept_more : (es : List ℕ) (e : ℕ) (c : List ℕ) → Kept es → e ≢ n.source → Leads (Arc from) n.source c e
      → Kept (e ∷ es)
  kept_more es e c r es_free l = record {
    keep = c ++ r.keep;
    ends_in = λ a h. elim h [
      | inl s ↦ elim (last_of from n.source e c l) [
        | inl q ↦ absurd (es_free (sym q))
        | inr k ↦ has_append_left c r.keep a (subst (Has c) s k)
      ]
      | inr k ↦ has_append_right c r.keep a (r.ends_in a k)
    ];
    used = λ v h. elim (has_append_cases c r.keep v h) [
      | inl k ↦ used_on from n.source e v c l k
      | inr k ↦ r.used v k
    ];
    back = λ v u h g. elim (has_append_cases c r.keep v h) [
      | inl k ↦ elim (predecessor from n.source e v u c l k g) [
        | inl s ↦ inl s
        | inr m ↦ inr (has_append_left c r.keep u m)
      ]
      | inr k ↦ elim (r.back v u k g) [ inl s ↦ inl s | inr m ↦ inr (has_append_right c r.keep u m) ]
    ];
    on = λ v h. elim (has_append_cases c r.keep v h) [
      | inl k ↦
          let d = suffix from n.source e v c l k in
          (e, inl refl, (d.0, d.1, λ a m. has_append_left c r.keep a (d.2 a m)))
      | inr k ↦
          let q = r.on v k in
          (q.0, inr q.1, (q.2.0, q.2.1, λ a m. has_append_right c r.keep a (q.2.2 a m)))
    ];
  }

  -- a table that says the same on what is kept, and nothing elsewhere
  module _ (held : AreHeld n from ends) (k : Kept ends) (next : Table)
      (same : (v : ℕ) → Has k.keep v → next v ≡ from v) (none : (v : ℕ) → ¬ Has k.keep v → next v ≡ None) where
    was : (v u : ℕ) → next v ≡ Some u → Has k.keep v × (from v ≡ Some u)
    was v u h = elim (has_or_not k.keep v) [
      | inl m ↦ (m, sym (same v m) ∙ h)
      | inr m ↦ let e = none v m in absurd (cc (e, h))
    ]

    pub pruned_held : AreHeld n next ends
    pruned_held = record {
      root = elim (has_or_not k.keep n.source) [
        | inl m ↦ same n.source m ∙ held.root
        | inr m ↦ none n.source m
      ];
      free = λ v u h. held.free v u (was v u h).1;
      comes = λ v u h.
          let w = was v u h in
          elim (k.back v u w.0 w.1) [ inl s ↦ inl s | inr m ↦ inr ((k.used u m).0, same u m ∙ (k.used u m).1) ];
      once = λ v w u h g us. held.once v w u (was v u h).1 (was w u g).1 us;
      ends_used = λ e h. let m = k.ends_in e h in inr ((k.used e m).0, same e m ∙ (k.used e m).1);
      ends_last = λ e v h es f. held.ends_last e v h es (was v e f).1;
      distinct = held.distinct;
    }

    pub pruned_tidy : IsTidy next ends
    pruned_tidy v u =
        let q = k.on v (was v u.0 u.1).0 in (
          q.0,
          q.1,
          (q.2.0, leads_map {R = Arc from} {Q = Arc next} v q.0 q.2.0 (λ a b m f. same b (q.2.2 b m) ∙ f) q.2.1),
        )

-- the nodes of the paths to es, which are among the ends
pub kept : (n : SplitNetState) → IsSplitNet n → (from : Table) (ends : List ℕ) → AreHeld n from ends
    → ((e : ℕ) → Has ends e → e ≢ n.source) → (es : List ℕ) → ((e : ℕ) → Has es e → Has ends e) → Kept n from ends es
kept n net from ends held free [] f = kept_none n from ends
kept n net from ends held free (e ∷ es) f =
    let h = f e (inl refl) in
    let t = traced n net from ends held e h (free e h) in
    kept_more n from ends es e t.steps (kept n net from ends held free es (λ a k. f a (inr k))) (free e h) t.leads

-- the table reduced to these nodes
pub restrict : List ℕ → Table → Table
restrict keep from v = elim (has_or_not keep v) [ inl m ↦ from v | inr m ↦ None ]

pub restrict_in : (keep : List ℕ) (from : Table) (v : ℕ) → Has keep v → restrict keep from v ≡ from v
unfolding restrict
restrict_in keep from v h = elim (has_or_not keep v) as (λ o. elim o [ inl m ↦ from v | inr m ↦ None ] ≡ from v) [
  | inl m ↦ refl
  | inr m ↦ absurd (m h)
]

pub restrict_off : (keep : List ℕ) (from : Table) (v : ℕ) → ¬ Has keep v → restrict keep from v ≡ None
unfolding restrict
restrict_off keep from v h = elim (has_or_not keep v) as (λ o. elim o [ inl m ↦ from v | inr m ↦ None ] ≡ None) [
  | inl m ↦ absurd (h m)
  | inr m ↦ refl
]

-- a residual walk from the source to a target gives one end more
pub walk_augments : (n : SplitNetState) → IsSplitNet n → (from : Table) (ends : List ℕ) → IsFlow n from ends
    → (walk : List ℕ) (t : ℕ) → Leads (IsResidual n from) n.source walk t → IsDistinct (n.source ∷ walk)
    → Has n.targets t → (next : Table) × IsFlow n next (t ∷ ends)
walk_augments n net from ends flow walk t l d h =
    let g = grow n ends t walk from n.source
    (start_held n from ends flow.held (λ k. net.no_target (flow.targets n.source k))) l d.0 d in
    let targets : (e : ℕ) → Has (t ∷ ends) e → Has n.targets e =
    λ e k. elim k [ inl s ↦ subst (Has n.targets) s h | inr m ↦ flow.targets e m ] in
    let free : (e : ℕ) → Has (t ∷ ends) e → e ≢ n.source =
    λ e k s. net.no_target (subst (Has n.targets) s (targets e k)) in
    let k = kept n net g.0 (t ∷ ends) g.1 free (t ∷ ends) (λ e m. m) in
    let next = restrict k.keep g.0 in
    let same = restrict_in k.keep g.0 in
    let none = restrict_off k.keep g.0 in (
      next,
      record {
        held = pruned_held n g.0 (t ∷ ends) g.1 k next same none;
        tidy = pruned_tidy n g.0 (t ∷ ends) g.1 k next same none;
        targets = targets;
      },
    )

-- what is held is a fan of as many paths as there are ends
pub flow_is_fan : (n : SplitNetState) → IsSplitNet n → (from : Table) (ends : List ℕ) → IsFlow n from ends
    → (paths : List (List ℕ)) × IsFanOf n (length ends) paths
flow_is_fan n net from ends flow = fan_of n net from ends flow.held flow.targets
