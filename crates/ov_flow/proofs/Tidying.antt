-- A walk that meets no path leaves each place of the table on a path to an end.
use Rattle.std.proofs.Common.{◌≡◌, ◌≢◌, ◌∙◌, ℕ, ◌<◌, inl, inr, List, [], ◌∷◌, ◌++◌, Option, Some, None, refl, sym, ap}
use Rattle.std.proofs.Common.{subst, unwrap_or, IfSome}
use Rattle.std.proofs.lemmas.Bool.{cases_eq}
use Rattle.ov_ids.specs.Members.{Has}
use Rattle.ov_ids.proofs.Members.{has_append_left, has_append_right, has_append_cases}
use Rattle.ov_graph.specs.Joined.{Leads}
use Rattle.ov_graph.proofs.EvenTest.Walks.{leads_push}
use Rattle.ov_split.specs.SplitNetState.{SplitNetState, IsSplitNet}
use Rattle.ov_split.specs.Code.Residual.{Table, AreHeld, IsTidy, IsFlow}
use Rattle.ov_split.specs.Placed.{IsPlaced}
use Rattle.ov_split.proofs.Augmenting.Move.{leads_map, start_held}
use Rattle.ov_flow.specs.declared.walk_augmentation.Hop.{Hop}
use Rattle.ov_flow.specs.Code.Reached.{IsWay, IsStepBy}
use Rattle.ov_flow.specs.Code.Walked.{IsFlowBefore}
use Rattle.ov_flow.proofs.Copying.{held_turned}
use Rattle.ov_flow.proofs.Walking.{IsGoing, way_said}

-- a path continues to an unused place
tidy_push : (from next : Table) (x w : ℕ) (ends : List ℕ) → IsTidy from (x ∷ ends) → from w ≡ None → next w ≡ Some x
    → ((v : ℕ) → v ≢ w → next v ≡ from v) → IsTidy next (w ∷ ends)
tidy_push from next x w ends tidy none there others v u = elim (cases_eq v w) [
  | inl e ↦ (w, inl refl, ([], e))
  | inr ne ↦
      let t = tidy v (u.0, sym (others v ne) ∙ u.1) in
      let kept : Leads (λ a b. next b ≡ Some a) v t.2.0 t.0 =
      leads_map {R = λ a b. from b ≡ Some a} {Q = λ a b. next b ≡ Some a} v t.0 t.2.0
      (λ a b m f. others b (λ e. let n = ap from e ∙ none in absurd (cc (n, f))) ∙ f) t.2.1 in
      elim t.1 [
        | inl s ↦ (
          w,
          inl refl,
          (t.2.0 ++ w ∷ [], leads_push (λ a b. next b ≡ Some a) v t.0 w t.2.0 kept (there ∙ ap Some s)),
        )
        | inr h ↦ (t.0, inr h, (t.2.0, kept))
      ]
]

-- a step by a link to an unused place
pub tidy_step : (n : SplitNetState) (start from next : Table) (x t w : ℕ) (hop : Hop) (rest : List Hop) (ends : List ℕ)
    → IsGoing n start from x (hop ∷ rest) t → hop.way ≡ Some w
    → ((v : ℕ) × (hop.way ≡ Some v) × (from v ≡ None)) → next w ≡ Some x → ((v : ℕ) → v ≢ w → next v ≡ from v)
    → IsTidy from (x ∷ ends) → IsTidy next (hop.node ∷ ends)
tidy_step n start from next x t w hop rest ends g is fresh there others tidy =
    let f = fresh.1 in
    let same : fresh.0 ≡ w = cc (f, is) in
    let none : from w ≡ None = subst (λ (v : ℕ). from v ≡ None) same fresh.2 in
    let s : IsWay n from x hop.node w = subst (IsStepBy n from x hop.node) is g.goes.0 in
    let node : hop.node ≡ w = sym s.2 ∙ ap (λ (o : Option ℕ). unwrap_or o w) none in
    subst (λ (y : ℕ). IsTidy next (y ∷ ends)) (sym node) (tidy_push from next x w ends tidy none there others)

-- the source is an open end too
pub tidy_first : (from : Table) (s : ℕ) (ends : List ℕ) → IsTidy from ends → IsTidy from (s ∷ ends)
tidy_first from s ends tidy v u = let t = tidy v u in (t.0, inr t.1, t.2)

-- the open end comes after the others
pub tidy_turned : (from : Table) (e : ℕ) (ends : List ℕ) → IsTidy from (e ∷ ends) → IsTidy from (ends ++ e ∷ [])
tidy_turned from e ends tidy v u =
    let t = tidy v u in (
      t.0,
      elim t.1 [
        | inl s ↦ has_append_right ends (e ∷ []) t.0 (inl s)
        | inr h ↦ has_append_left ends (e ∷ []) t.0 h
      ],
      t.2,
    )

-- the place to which a step of a walk takes a link
pub way_below : (n : SplitNetState) (wide : ℕ) (start from : Table) (x t : ℕ) (hop : Hop) (rest : List Hop)
    → IsPlaced n wide
    → IsGoing n start from x (hop ∷ rest) t → IfSome hop.way (λ w. w < wide)
way_below n wide start from x t hop rest placed g = go hop.way refl
  where
    go : (o : Option ℕ) → hop.way ≡ o → IfSome o (λ w. w < wide)
    go None e = tt
    go (Some w) e = way_said n wide start from x t w hop rest placed g e

-- the ends of what was held, and the new one, are targets
pub targets_turned : (n : SplitNetState) (old : Table) (ends : List ℕ) (target : ℕ) → IsFlowBefore n old ends target
    → Has n.targets target → (e : ℕ) → Has ends e → Has n.targets e
targets_turned n old ends target b there e h =
    elim (has_append_cases b.before (target ∷ []) e (subst (λ (l : List ℕ). Has l e) b.is h)) [
      | inl k ↦ b.flow.targets e k
      | inr k ↦ elim k [ inl s ↦ subst (Has n.targets) s there | inr w ↦ absurd w ]
    ]

-- the paths that were held, with the source as one more end
pub open_before : (n : SplitNetState) → IsSplitNet n
    → (old : Table) (ends : List ℕ) (target : ℕ) (b : IsFlowBefore n old ends target)
    → AreHeld n old (n.source ∷ b.before)
open_before n net old ends target b =
    start_held n old b.before b.flow.held (λ h. net.no_target (b.flow.targets n.source h))

-- a walk that met no path leaves no cycle
pub flow_turned : (n : SplitNetState) (old now : Table) (ends : List ℕ) (target : ℕ)
    (b : IsFlowBefore n old ends target)
    → Has n.targets target → AreHeld n now (target ∷ b.before) → IsTidy now (target ∷ b.before) → IsFlow n now ends
flow_turned n old now ends target b there held tidy = record {
  held = subst (AreHeld n now) (sym b.is) (held_turned n now target b.before held);
  tidy = subst (IsTidy now) (sym b.is) (tidy_turned now target b.before tidy);
  targets = targets_turned n old ends target b there;
}
