-- One residual step, and a walk of them.
use Rattle.std.proofs.Common.{◌≡◌, ◌∙◌, ◌≢◌, ℕ, ◌⊎◌, inl, inr, List, [], ◌∷◌, Option, Some, None, cond, eqb, refl, sym}
use Rattle.std.proofs.Common.{ap, subst, unwrap_or, eq-eqb, ne_eqb}
use Rattle.std.proofs.lemmas.Bool.{cases_eq, cond-true, cond-false}
use Rattle.ov_ids.specs.Members.{Has, IsDistinct}
use Rattle.ov_graph.specs.Joined.{Leads}
use Rattle.ov_split.specs.SplitNetState.{SplitNetState}
use Rattle.ov_split.specs.Code.Residual.{IsFree, Table, IsUsed, AreHeld, IsResidual}

-- an unused node stays, and of a used one the node before it is the tip
pub tip_cases : (from : Table) (w y : ℕ) (o : Option ℕ) → from w ≡ o → unwrap_or o w ≡ y
    → ((from w ≡ None) × (w ≡ y)) ⊎ (from w ≡ Some y)
tip_cases from w y None e h = inl (e, h)
tip_cases from w y (Some u) e h = inr (e ∙ ap Some h)

-- the link from x to w is taken
module _ (n : SplitNetState) (from next : Table) (x w y : ℕ) (ends : List ℕ) (held : AreHeld n from (x ∷ ends))
    (free : IsFree n x w) (w_free : w ≢ n.source) (y_free : y ≢ n.source) (apart : x ≢ y)
    (tip : unwrap_or (from w) w ≡ y) (there : next w ≡ Some x) (others : (v : ℕ) → v ≢ w → next v ≡ from v) where
  tips : ((from w ≡ None) × (w ≡ y)) ⊎ (from w ≡ Some y)
  tips = tip_cases from w y (from w) refl tip

  told : (v u : ℕ) → next v ≡ Some u → ((v ≡ w) × (u ≡ x)) ⊎ ((v ≢ w) × (from v ≡ Some u))
  told v u h = elim (cases_eq v w) [ inl e ↦ inl (e, cc) | inr ne ↦ inr (ne, sym (others v ne) ∙ h) ]

  used_stays : (a : ℕ) → IsUsed from a → IsUsed next a
  used_stays a h = elim (cases_eq a w) [ inl e ↦ (x, ap next e ∙ there) | inr ne ↦ (h.0, others a ne ∙ h.1) ]

  mono : (a : ℕ) → (a ≡ n.source) ⊎ IsUsed from a → (a ≡ n.source) ⊎ IsUsed next a
  mono a h = elim h [ inl e ↦ inl e | inr u ↦ inr (used_stays a u) ]

  -- the tip is the end of no path, and no path continues from it
  tip_new : ¬ Has ends y
  tip_new h = elim tips [
    | inl t ↦ elim (held.ends_used y (inr h)) [ inl e ↦ y_free e | inr u ↦ absurd (cc (u.1, t.0, t.1)) ]
    | inr t ↦ held.ends_last y w (inr h) y_free t
  ]

  tip_last : (v : ℕ) → v ≢ w → from v ≡ Some y → ⊥
  tip_last v ne h = elim tips [
    | inl t ↦ elim (held.comes v y h) [ inl e ↦ y_free e | inr u ↦ absurd (cc (u.1, t.0, t.1)) ]
    | inr t ↦ ne (held.once v w y h t y_free)
  ]

  pub push_held : AreHeld n next (y ∷ ends)
  push_held = record {
    root = others n.source (λ e. w_free (sym e)) ∙ held.root;
    free = λ v u h. elim (told v u h) [
      | inl p ↦ subst (λ (b : ℕ). IsFree n u b) (sym p.0) (subst (λ (a : ℕ). IsFree n a w) (sym p.1) free)
      | inr p ↦ held.free v u p.1
    ];
    comes = λ v u h. elim (told v u h) [
      | inl p ↦ mono u (held.ends_used u (inl (sym p.1)))
      | inr p ↦ mono u (held.comes v u p.1)
    ];
    once = λ v v' u h h' us. elim (told v u h) [
      | inl p ↦ elim (told v' u h') [
        | inl q ↦ p.0 ∙ sym q.0
        | inr q ↦ absurd (held.ends_last u v' (inl (sym p.1)) us q.1)
      ]
      | inr p ↦ elim (told v' u h') [
        | inl q ↦ absurd (held.ends_last u v (inl (sym q.1)) us p.1)
        | inr q ↦ held.once v v' u p.1 q.1 us
      ]
    ];
    ends_used = λ e h. elim h [
      | inl s ↦ elim tips [
        | inl t ↦ inr (x, ap next (sym s ∙ sym t.1) ∙ there)
        | inr t ↦ mono e (subst (λ (a : ℕ). (a ≡ n.source) ⊎ IsUsed from a) s (held.comes w y t))
      ]
      | inr k ↦ mono e (held.ends_used e (inr k))
    ];
    ends_last = λ e v h es f. elim (told v e f) [
      | inl p ↦ elim h [ inl s ↦ apart (sym p.1 ∙ sym s) | inr k ↦ held.distinct.0 (subst (Has ends) p.1 k) ]
      | inr p ↦ elim h [
        | inl s ↦ tip_last v p.0 (p.1 ∙ ap Some (sym s))
        | inr k ↦ held.ends_last e v (inr k) es p.1
      ]
    ];
    distinct = (tip_new, held.distinct.1);
  }

-- the last step, from y to x, is given up
module _ (n : SplitNetState) (from next : Table) (x y : ℕ) (ends : List ℕ) (held : AreHeld n from (x ∷ ends))
    (y_free : y ≢ n.source) (apart : x ≢ y) (was : from x ≡ Some y) (there : next x ≡ None)
    (others : (v : ℕ) → v ≢ x → next v ≡ from v) where
  x_free : x ≢ n.source
  x_free e = let r = held.root in absurd (cc (ap from e))

  told_back : (v u : ℕ) → next v ≡ Some u → (v ≢ x) × (from v ≡ Some u)
  told_back v u h = elim (cases_eq v x) [ inl e ↦ absurd (cc (ap next e)) | inr ne ↦ (ne, sym (others v ne) ∙ h) ]

  kept : (a : ℕ) → a ≢ x → (a ≡ n.source) ⊎ IsUsed from a → (a ≡ n.source) ⊎ IsUsed next a
  kept a ne h = elim h [ inl e ↦ inl e | inr u ↦ inr (u.0, others a ne ∙ u.1) ]

  pub back_held : AreHeld n next (y ∷ ends)
  back_held = record {
    root = others n.source (λ e. x_free (sym e)) ∙ held.root;
    free = λ v u h. held.free v u (told_back v u h).1;
    comes = λ v u h.
        let p = told_back v u h in
        kept u (λ e. held.ends_last x v (inl refl) x_free (p.1 ∙ ap Some e)) (held.comes v u p.1);
    once = λ v v' u h h' us. held.once v v' u (told_back v u h).1 (told_back v' u h').1 us;
    ends_used = λ e h. elim h [
      | inl s ↦ kept e (λ r. apart (sym r ∙ sym s)) (held.comes x e (was ∙ ap Some s))
      | inr k ↦ kept e (λ r. held.distinct.0 (subst (Has ends) r k)) (held.ends_used e (inr k))
    ];
    ends_last = λ e v h es f.
        let p = told_back v e f in
        elim h [
          | inl s ↦ p.0 (held.once v x e p.1 (was ∙ ap Some s) es)
          | inr k ↦ held.ends_last e v (inr k) es p.1
        ];
    distinct = (λ k. held.ends_last y x (inr k) y_free was, held.distinct.1);
  }

-- a step to y changes the table at z alone. Each step that leads elsewhere stays
pub residual_stays : (n : SplitNetState) (from next : Table) (z y a b : ℕ) → unwrap_or (from z) z ≡ y
    → ((v : ℕ) → v ≢ z → next v ≡ from v) → b ≢ y → IsResidual n from a b → IsResidual n next a b
residual_stays n from next z y a b tip others ne h = elim h [
  | inl r ↦ inl (
    r.0,
    r.1,
    r.2,
    subst (λ (o : Option ℕ). unwrap_or o r.0 ≡ b)
        (sym (others r.0 (λ e. ne (sym r.3 ∙ ap (λ (v : ℕ). unwrap_or (from v) v) e ∙ tip)))) r.3,
  )
  | inr f ↦ inr
      (others a (λ e. ne (subst (λ (o : Option ℕ). unwrap_or o z ≡ y) (ap from (sym e) ∙ f) tip)) ∙ f)
]

-- the table with o at z
pub put : Table → ℕ → Option ℕ → Table
put from z o v = cond (eqb v z) o (from v)

pub put_at : (from : Table) (z : ℕ) (o : Option ℕ) → put from z o z ≡ o
unfolding put
put_at from z o = cond-true (eqb z z) o (from z) (eq-eqb z z refl)

pub put_off : (from : Table) (z : ℕ) (o : Option ℕ) (v : ℕ) → v ≢ z → put from z o v ≡ from v
unfolding put
put_off from z o v ne = cond-false (eqb v z) o (from v) (ne_eqb v z ne)

-- the table after a step to y: it changed at z alone
pub record Moved (n : SplitNetState) (from : Table) (ends : List ℕ) (y : ℕ) : Type 0 where
  pub next : Table
  pub z : ℕ
  pub tip : unwrap_or (from z) z ≡ y
  pub others : (v : ℕ) → v ≢ z → next v ≡ from v
  pub held : AreHeld n next (y ∷ ends)

pub move : (n : SplitNetState) (from : Table) (x y : ℕ) (ends : List ℕ) → AreHeld n from (x ∷ ends) → y ≢ n.source
    → x ≢ y
    → IsResidual n from x y → Moved n from ends y
move n from x y ends held ys xy step = elim step [
  | inl r ↦ record {
    next = put from r.0 (Some x);
    z = r.0;
    tip = r.3;
    others = put_off from r.0 (Some x);
    held = push_held n from (put from r.0 (Some x)) x r.0 y ends held r.1 r.2 ys xy r.3 (put_at from r.0 (Some x))
        (put_off from r.0 (Some x));
  }
  | inr f ↦ record {
    next = put from x None;
    z = x;
    tip = ap (λ (o : Option ℕ). unwrap_or o x) f;
    others = put_off from x None;
    held = back_held n from (put from x None) x y ends held ys xy f (put_at from x None) (put_off from x None);
  }
]

pub leads_map : {R Q : ℕ → ℕ → Type 0} (a b : ℕ) (xs : List ℕ) → ((x y : ℕ) → Has xs y → R x y → Q x y)
    → Leads R a xs b → Leads Q a xs b
leads_map a b [] f l = l
leads_map {R} {Q} a b (x ∷ xs) f l =
    (f a x (inl refl) l.0, leads_map {R = R} {Q = Q} x b xs (λ y z h. f y z (inr h)) l.1)

-- a walk of residual steps that meets no node twice opens one end more
pub grow : (n : SplitNetState) (ends : List ℕ) (t : ℕ) (walk : List ℕ) (from : Table) (x : ℕ)
    → AreHeld n from (x ∷ ends)
    → Leads (IsResidual n from) x walk t → ¬ Has walk n.source → IsDistinct (x ∷ walk)
    → (next : Table) × AreHeld n next (t ∷ ends)
grow n ends t [] from x held l off d = (from, subst (λ (a : ℕ). AreHeld n from (a ∷ ends)) l held)
grow n ends t (y ∷ rest) from x held l off d =
    let m = move n from x y ends held (λ e. off (inl e)) (λ e. d.0 (inl (sym e))) l.0 in
    grow n ends t rest m.next y m.held
    (leads_map {R = IsResidual n from} {Q = IsResidual n m.next} y t rest
    (λ a b h. residual_stays n from m.next m.z y a b m.tip m.others (λ e. d.1.0 (subst (Has rest) e h))) l.1)
    (λ h. off (inr h)) d.1

-- the source, where no path has begun, is open too
pub start_held : (n : SplitNetState) (from : Table) (ends : List ℕ) → AreHeld n from ends → ¬ Has ends n.source
    → AreHeld n from (n.source ∷ ends)
start_held n from ends held off = record {
  root = held.root;
  free = held.free;
  comes = held.comes;
  once = held.once;
  ends_used = λ e h. elim h [ inl s ↦ inl (sym s) | inr k ↦ held.ends_used e k ];
  ends_last = λ e v h es f. elim h [ inl s ↦ es (sym s) | inr k ↦ held.ends_last e v k es f ];
  distinct = (off, held.distinct);
}
