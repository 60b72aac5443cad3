-- A table with the paths, and nothing else.
use Rattle.std.proofs.Common.{◌≡◌, ◌≢◌, ◌∙◌, ◌⊎◌, ℕ, ◌+◌, ◌<◌, ◌≤◌, inl, inr, List, [], ◌∷◌, ◌++◌, length, Option}
use Rattle.std.proofs.Common.{Some, None, refl, sym, ap, subst, arith}
use Rattle.std.proofs.lemmas.Bool.{cases_eq}
use Rattle.ov_ids.specs.Members.{Has, IsDistinct}
use Rattle.ov_ids.proofs.Members.{has_or_not, has_append_left, has_append_right, has_append_cases}
use Rattle.ov_graph.specs.Joined.{Leads}
use Rattle.ov_split.specs.SplitNetState.{SplitNetState, IsSplitNet}
use Rattle.ov_split.specs.Code.Residual.{Table, IsUsed, AreHeld, IsTidy, IsFlow}
use Rattle.ov_split.specs.Placed.{IsPlaced}
use Rattle.ov_split.proofs.Augmenting.Lists.{distinct_length, distinct_push}
use Rattle.ov_split.proofs.Augmenting.Move.{leads_map}
use Rattle.ov_split.proofs.Augmenting.Trace.{Arc, not_source, successor, suffix, used_node, predecessor, last_of}
use Rattle.ov_split.proofs.Augmenting.Trace.{used_on}
use Rattle.ov_flow.specs.Code.Walked.{table_of, IsTraced, IsCopied, IsPathCopied}
use Rattle.ov_flow.proofs.Walking.{said_below}

-- a path to e, followed back as far as x: c leads from x to e
pub record IsComing (n : SplitNetState) (from : Table) (e x : ℕ) (c : List ℕ) : Type 0 where
  pub leads : Leads (Arc from) x c e
  pub distinct : IsDistinct (x ∷ c)
  pub used : (a : ℕ) → Has c a → IsUsed from a
  pub next : (x ≡ n.source) ⊎ IsUsed from x

module _ (n : SplitNetState) (net : IsSplitNet n) (from : Table) (ends : List ℕ) (held : AreHeld n from ends) (e : ℕ)
    (h : Has ends e)
    (apart : e ≢ n.source) where
  pub coming_none : IsComing n from e e []
  coming_none = record {
    leads = refl;
    distinct = ((λ k. k), tt);
    used = λ a k. absurd k;
    next = held.ends_used e h;
  }

  pub coming_more : (x u : ℕ) (c : List ℕ) → IsComing n from e x c → from x ≡ Some u → IsComing n from e u (x ∷ c)
  coming_more x u c g f = record {
    leads = (f, g.leads);
    distinct = (
      (λ k. elim (held.comes x u f) [
        | inl s ↦ elim k [
          | inl q ↦ not_source n from ends held x (u, f) (q ∙ s)
          | inr m ↦ not_source n from ends held u (g.used u m) s
        ]
        | inr w ↦ elim (successor from x e u c g.leads k) [
          | inl s ↦ held.ends_last e x h apart (f ∙ ap Some s)
          | inr b ↦ g.distinct.0 (subst (Has c) (held.once b.0 x u b.2 f (not_source n from ends held u w)) b.1)
        ]
      ]),
      g.distinct,
    );
    used = λ a k. elim k [ inl s ↦ (u, ap from (sym s) ∙ f) | inr m ↦ g.used a m ];
    next = held.comes x u f;
  }

  -- a path has no more nodes than there are
  pub coming_bound : (x u : ℕ) (c : List ℕ) → IsComing n from e x c → from x ≡ Some u
      → length (x ∷ c) ≤ length n.graph.nodes
  coming_bound x u c g f =
      distinct_length (x ∷ c) n.graph.nodes g.distinct (λ a k. elim k [
        | inl s ↦ used_node n net from ends held a (u, ap from (sym s) ∙ f)
        | inr m ↦ used_node n net from ends held a (g.used a m)
      ])

  pub coming_ends : (x : ℕ) (c : List ℕ) → IsComing n from e x c → length n.graph.nodes ≤ length c → from x ≡ None
  coming_ends x c g le = go (from x) refl
    where
      go : (o : Option ℕ) → from x ≡ o → from x ≡ None
      go None f = f
      go (Some u) f = let b = coming_bound x u c g f in absurd (omega (arith, b, le))

pub coming_all : (n : SplitNetState) (from : Table) (e x : ℕ) (c : List ℕ) → IsComing n from e x c → from x ≡ None
    → IsTraced n from e c
coming_all n from e x c g f = elim g.next [
  | inl s ↦ subst (λ (a : ℕ). Leads (Arc from) a c e × IsDistinct (a ∷ c)) s (g.leads, g.distinct)
  | inr u ↦ absurd (cc (u.1, f))
]

pub coming_below : (n : SplitNetState) (wide : ℕ) (from : List (Option ℕ)) (e x : ℕ) (c : List ℕ) → IsPlaced n wide
    → length from ≡ wide → IsComing n (table_of from) e x c → x < length from
coming_below n wide from e x c placed long g = elim g.next [
  | inl s ↦ let l = (placed.nodes n.source).0 placed.net.source in omega (arith, s, l, long)
  | inr u ↦ said_below from x u.0 u.1
]

-- the part of the path to e that is copied
pub record IsCopying (n : SplitNetState) (from old next : Table) (e x step : ℕ) : Type 0 where
  pub c : List ℕ
  pub coming : IsComing n from e x c
  pub copied : IsCopied from old next c
  pub count : length c ≡ step

module _ (n : SplitNetState) (net : IsSplitNet n) (from old : Table) (ends : List ℕ) (held : AreHeld n from ends)
    (e : ℕ)
    (h : Has ends e) (apart : e ≢ n.source) where
  pub copying_none : IsCopying n from old old e e 0
  copying_none = record {
    c = [];
    coming = coming_none n net from ends held e h apart;
    copied = record { on = λ v k. absurd k; off = λ v k. refl };
    count = refl;
  }

  pub copying_more : (next new : Table) (x u step : ℕ) → IsCopying n from old next e x step → from x ≡ Some u
      → new x ≡ Some u → ((v : ℕ) → v ≢ x → new v ≡ next v) → IsCopying n from old new e u (step + 1)
  copying_more next new x u step g f there others = record {
    c = x ∷ g.c;
    coming = coming_more n net from ends held e h apart x u g.c g.coming f;
    copied = record {
      on = λ v k. elim (cases_eq v x) [
        | inl s ↦ ap new s ∙ there ∙ sym (ap from s ∙ f)
        | inr ne ↦ others v ne ∙ g.copied.on v (elim k [ inl s ↦ absurd (ne (sym s)) | inr m ↦ m ])
      ];
      off = λ v k. others v (λ s. k (inl (sym s))) ∙ g.copied.off v (λ m. k (inr m));
    };
    count = let q = g.count in omega (arith, q);
  }

  pub copying_ends : (next : Table) (x step : ℕ) → IsCopying n from old next e x step → length n.graph.nodes ≤ step
      → from x ≡ None
  copying_ends next x step g le =
      let q = g.count in
      coming_ends n net from ends held e h apart x g.c g.coming (omega (arith, q, le))

pub copying_done : (n : SplitNetState) (from old next : Table) (e x step : ℕ) → IsCopying n from old next e x step
    → from x ≡ None → IsPathCopied n from old next e
copying_done n from old next e x step g f =
    record { path = g.c; traced = coming_all n from e x g.c g.coming f; copied = g.copied }

-- the paths to es, as `from` has them, and nothing else
pub record IsCopy (n : SplitNetState) (from next : Table) (es : List ℕ) : Type 0 where
  pub same : (v u : ℕ) → next v ≡ Some u → from v ≡ Some u
  pub back : (v u : ℕ) → next v ≡ Some u → (u ≡ n.source) ⊎ IsUsed next u
  pub ends : (e : ℕ) → Has es e → IsUsed next e
  pub tidy : IsTidy next es

pub copy_none : (n : SplitNetState) (from next : Table) → ((v : ℕ) → next v ≡ None) → IsCopy n from next []
copy_none n from next none = record {
  same = λ v u f. let e = none v in absurd (cc (e, f));
  back = λ v u f. let e = none v in absurd (cc (e, f));
  ends = λ e h. absurd h;
  tidy = λ v u. let e = none v in absurd (cc (e, u.1));
}

-- one more path
pub copy_more : (n : SplitNetState) (from next new : Table) (es : List ℕ) (e : ℕ) → e ≢ n.source → IsCopy n from next es
    → IsPathCopied n from next new e → IsCopy n from new (es ++ e ∷ [])
copy_more n from next new es e apart copy p =
    let path = p.path in
    let l = p.traced.0 in
    let on = p.copied.on in
    let off = p.copied.off in
    let grows : (v u : ℕ) → next v ≡ Some u → new v ≡ Some u =
    λ v u f. elim (has_or_not path v) [ inl h ↦ on v h ∙ copy.same v u f | inr h ↦ off v h ∙ f ] in
    let used : (v : ℕ) → Has path v → IsUsed new v =
    λ v h. let u = used_on from n.source e v path l h in (u.0, on v h ∙ u.1) in
    record {
      same = λ v u f. elim (has_or_not path v) [
        | inl h ↦ sym (on v h) ∙ f
        | inr h ↦ copy.same v u (sym (off v h) ∙ f)
      ];
      back = λ v u f. elim (has_or_not path v) [
        | inl h ↦ elim (predecessor from n.source e v u path l h (sym (on v h) ∙ f)) [
          | inl s ↦ inl s
          | inr k ↦ inr (used u k)
        ]
        | inr h ↦ elim (copy.back v u (sym (off v h) ∙ f)) [ inl s ↦ inl s | inr w ↦ inr (w.0, grows u w.0 w.1) ]
      ];
      ends = λ a h. elim (has_append_cases es (e ∷ []) a h) [
        | inl k ↦ let w = copy.ends a k in (w.0, grows a w.0 w.1)
        | inr k ↦ elim k [
          | inl s ↦ elim (last_of from n.source e path l) [
            | inl q ↦ absurd (apart (sym q))
            | inr m ↦ used a (subst (Has path) s m)
          ]
          | inr w ↦ absurd w
        ]
      ];
      tidy = λ v u. elim (has_or_not path v) [
        | inl h ↦
            let d = suffix from n.source e v path l h in (
              e,
              has_append_right es (e ∷ []) e (inl refl),
              (d.0, leads_map {R = Arc from} {Q = Arc new} v e d.0 (λ a b m f. on b (d.2 b m) ∙ f) d.1),
            )
        | inr h ↦
            let t = copy.tidy v (u.0, sym (off v h) ∙ u.1) in (
              t.0,
              has_append_left es (e ∷ []) t.0 t.1,
              (t.2.0, leads_map {R = Arc next} {Q = Arc new} v t.0 t.2.0 (λ a b m f. grows b a f) t.2.1),
            )
      ];
    }

pub copy_all : (n : SplitNetState) (from next : Table) (ends : List ℕ) → AreHeld n from ends → IsCopy n from next ends
    → ((e : ℕ) → Has ends e → Has n.targets e) → IsFlow n next ends
copy_all n from next ends held copy targets = record {
  held = record {
    root = source_none (next n.source) refl;
    free = λ v u f. held.free v u (copy.same v u f);
    comes = copy.back;
    once = λ v w u f g us. held.once v w u (copy.same v u f) (copy.same w u g) us;
    ends_used = λ e h. inr (copy.ends e h);
    ends_last = λ e v h es f. held.ends_last e v h es (copy.same v e f);
    distinct = held.distinct;
  };
  tidy = copy.tidy;
  targets = targets;
}
  where
    source_none : (o : Option ℕ) → next n.source ≡ o → next n.source ≡ None
    source_none None e = e
    source_none (Some u) e = let f = copy.same n.source u e in let r = held.root in absurd (cc (f, r))

-- the ends in another order
pub held_turned : (n : SplitNetState) (from : Table) (t : ℕ) (ends : List ℕ) → AreHeld n from (t ∷ ends)
    → AreHeld n from (ends ++ t ∷ [])
held_turned n from t ends h =
    let back : (e : ℕ) → Has (ends ++ t ∷ []) e → Has (t ∷ ends) e =
    λ e k. elim (has_append_cases ends (t ∷ []) e k) [
      | inl m ↦ inr m
      | inr m ↦ elim m [ inl s ↦ inl s | inr w ↦ absurd w ]
    ] in
    record {
      root = h.root;
      free = h.free;
      comes = h.comes;
      once = h.once;
      ends_used = λ e k. h.ends_used e (back e k);
      ends_last = λ e v k. h.ends_last e v (back e k);
      distinct = distinct_push ends t h.distinct.1 h.distinct.0;
    }
