-- Paths of one link, and the table of what is held.
use Rattle.std.proofs.Common.{◌≡◌, ◌≢◌, ◌∙◌, ℕ, ◌<◌, inl, inr, List, [], ◌∷◌, ◌++◌, length, Option}
use Rattle.std.proofs.Common.{Some, None, refl, sym, ap, subst, arith, unwrap_or}
use Rattle.std.proofs.lemmas.Bool.{cases_eq}
use Rattle.ov_ids.specs.Members.{Has}
use Rattle.ov_ids.proofs.Members.{has_append_left, has_append_right, has_append_cases}
use Rattle.ov_graph.specs.Links.{Linked}
use Rattle.ov_graph.proofs.EvenTest.Filtered.{linked_node}
use Rattle.ov_graph.proofs.EvenTest.Walks.{linked_sym}
use Rattle.ov_graph.proofs.GraphValues.OneGraph.{not_self}
use Rattle.ov_split.specs.SplitNetState.{SplitNetState, IsSplitNet}
use Rattle.ov_split.specs.Code.Residual.{Table, IsFree, AreHeld, IsFlow}
use Rattle.ov_split.specs.Placed.{IsPlaced}
use Rattle.ov_split.proofs.Augmenting.Lists.{distinct_length}
use Rattle.ov_split.proofs.Augmenting.Move.{put, put_at, put_off, push_held, start_held, leads_map}
use Rattle.ov_flow.specs.Code.Held.{MayGoOver}
use Rattle.ov_flow.specs.Code.Walked.{table_of, IsTable}
use Rattle.ov_flow.proofs.Copying.{held_turned}

-- the table of the paths that are held names only places
pub held_table : (n : SplitNetState) (wide : ℕ) (from : List (Option ℕ)) (ends : List ℕ) → IsPlaced n wide
    → length from ≡ wide
    → AreHeld n (table_of from) ends → IsTable wide from
held_table n wide from ends placed long held = record {
  long = long;
  told = λ v u f.
      let l = linked_sym n.graph u v (held.free v u f).0 in
      (placed.nodes u).0 (linked_node n.graph v u placed.net.graph l);
}

pub flow_table : (n : SplitNetState) (wide : ℕ) (from : List (Option ℕ)) (ends : List ℕ) → IsPlaced n wide
    → length from ≡ wide
    → IsFlow n (table_of from) ends → IsTable wide from
flow_table n wide from ends placed long flow = held_table n wide from ends placed long flow.held

-- as the source is no target, there are fewer ends than places
pub ends_few : (n : SplitNetState) (wide : ℕ) (from : Table) (ends : List ℕ) → IsPlaced n wide → AreHeld n from ends
    → ((e : ℕ) → Has ends e → Has n.targets e) → length ends < wide
ends_few n wide from ends placed held targets =
    let net = placed.net in
    let count = placed.count in
    let b = distinct_length (n.source ∷ ends) n.graph.nodes
    ((λ h. net.no_target (targets n.source h)), held.distinct)
    (λ x h. elim h [
      | inl e ↦ subst (Has n.graph.nodes) e net.source
      | inr k ↦ net.targets.nodes x (targets x k)
    ]) in
    omega (arith, b, count)

pub ends_below : (n : SplitNetState) (wide : ℕ) (from : Table) (ends : List ℕ) → IsPlaced n wide → IsFlow n from ends
    → length ends < wide
ends_below n wide from ends placed flow = ends_few n wide from ends placed flow.held flow.targets

-- nothing is held
pub flow_none : (n : SplitNetState) (from : Table) → ((v : ℕ) → from v ≡ None) → IsFlow n from []
flow_none n from none =
    let no : (v u : ℕ) → from v ≡ Some u → ⊥ = λ v u f. let e = none v in absurd (cc (e, f)) in
    record {
      held = record {
        root = none n.source;
        free = λ v u f. absurd (no v u f);
        comes = λ v u f. absurd (no v u f);
        once = λ v w u f. absurd (no v u f);
        ends_used = λ e h. absurd h;
        ends_last = λ e v h. absurd h;
        distinct = tt;
      };
      tidy = λ v u. absurd (no v u.0 u.1);
      targets = λ e h. absurd h;
    }

-- where no path is held, the table is empty
pub none_held : (n : SplitNetState) (from : Table) (ends : List ℕ) → IsFlow n from ends → ends ≡ [] → (v u : ℕ)
    → from v ≡ Some u → ⊥
none_held n from ends flow is v u f = let t = flow.tidy v (u, f) in subst (λ (l : List ℕ). Has l t.0) is t.1

none_there : (o : Option ℕ) → ((u : ℕ) → o ≡ Some u → ⊥) → o ≡ None
none_there None none = refl
none_there (Some u) none = absurd (none u refl)

-- a path of one link to an unused target
pub flow_direct : (n : SplitNetState) → IsSplitNet n → (from next : Table) (ends : List ℕ) (w : ℕ) → IsFlow n from ends
    → IsFree n n.source w → Has n.targets w → ((u : ℕ) → from w ≡ Some u → ⊥) → next w ≡ Some n.source
    → ((v : ℕ) → v ≢ w → next v ≡ from v) → IsFlow n next (ends ++ w ∷ [])
flow_direct n net from next ends w flow free target unused there others =
    let out = none_there (from w) unused in
    let off : ¬ Has ends n.source = λ h. net.no_target (flow.targets n.source h) in
    let ws : w ≢ n.source = λ e. net.no_target (subst (Has n.targets) e target) in
    let held = push_held n from next n.source w w ends (start_held n from ends flow.held off) free ws ws
    (λ e. ws (sym e)) (ap (λ (o : Option ℕ). unwrap_or o w) out) there others in
    record {
      held = held_turned n next w ends held;
      tidy = λ v u. elim (cases_eq v w) [
        | inl e ↦ (w, has_append_right ends (w ∷ []) w (inl refl), ([], e))
        | inr ne ↦
            let t = flow.tidy v (u.0, sym (others v ne) ∙ u.1) in (
              t.0,
              has_append_left ends (w ∷ []) t.0 t.1,
              (
                t.2.0,
                leads_map {R = λ a b. from b ≡ Some a} {Q = λ a b. next b ≡ Some a} v t.0 t.2.0
                    (λ a b m f. others b (λ e. unused a (ap from (sym e) ∙ f)) ∙ f) t.2.1,
              ),
            )
      ];
      targets = λ e h. elim (has_append_cases ends (w ∷ []) e h) [
        | inl k ↦ flow.targets e k
        | inr k ↦ elim k [ inl s ↦ subst (Has n.targets) s target | inr z ↦ absurd z ]
      ];
    }

-- a path of two links to an unused target, over an unused node that is no target
module _ (n : SplitNetState) (net : IsSplitNet n) (from next : Table) (ends : List ℕ) (u t : ℕ)
    (flow : IsFlow n from ends) (over : MayGoOver n from u t) (at_u : next u ≡ Some n.source) (at_t : next t ≡ Some u)
    (others : (v : ℕ) → v ≢ u → v ≢ t → next v ≡ from v) where
  us : u ≢ n.source
  us e = not_self n.graph n.source net.graph (subst (Linked n.graph n.source) e over.first.0)

  ts : t ≢ n.source
  ts e = net.no_target (subst (Has n.targets) e over.target)

  ut : u ≢ t
  ut e = over.inner (subst (Has n.targets) (sym e) over.target)

  mid : Table
  mid = put from u (Some n.source)

  mid_t : mid t ≡ None
  unfolding mid
  mid_t = put_off from u (Some n.source) t (λ e. ut (sym e)) ∙ none_there (from t) over.unused

  mid_others : (v : ℕ) → v ≢ t → next v ≡ mid v
  unfolding mid
  mid_others v ne = elim (cases_eq v u) [
    | inl e ↦
        subst (λ (x : ℕ). next x ≡ mid x) (sym e) (at_u ∙ sym (put_at from u (Some n.source)))
    | inr nu ↦ others v nu ne ∙ sym (put_off from u (Some n.source) v nu)
  ]

  held_over : AreHeld n next (t ∷ ends)
  unfolding mid
  held_over =
      let off : ¬ Has ends n.source = λ h. net.no_target (flow.targets n.source h) in
      let to_u = push_held n from mid n.source u u ends (start_held n from ends flow.held off) over.first us us
      (λ e. us (sym e)) (ap (λ (o : Option ℕ). unwrap_or o u) (none_there (from u) over.fresh))
      (put_at from u (Some n.source)) (put_off from u (Some n.source)) in
      push_held n mid next u t t ends to_u over.second ts ts ut (ap (λ (o : Option ℕ). unwrap_or o t) mid_t) at_t
      mid_others

  unused : (a b : ℕ) → from b ≡ Some a → next b ≡ Some a
  unused a b f = others b (λ e. over.fresh a (ap from (sym e) ∙ f)) (λ e. over.unused a (ap from (sym e) ∙ f)) ∙ f

  pub flow_over : IsFlow n next (ends ++ t ∷ [])
  flow_over = record {
    held = held_turned n next t ends held_over;
    tidy = λ v w. elim (cases_eq v t) [
      | inl e ↦ (t, has_append_right ends (t ∷ []) t (inl refl), ([], e))
      | inr nt ↦ elim (cases_eq v u) [
        | inl e ↦ (
          t,
          has_append_right ends (t ∷ []) t (inl refl),
          (t ∷ [], (subst (λ (x : ℕ). next t ≡ Some x) (sym e) at_t, refl)),
        )
        | inr nu ↦
            let k = flow.tidy v (w.0, sym (others v nu nt) ∙ w.1) in (
              k.0,
              has_append_left ends (t ∷ []) k.0 k.1,
              (
                k.2.0,
                leads_map {R = λ a b. from b ≡ Some a} {Q = λ a b. next b ≡ Some a} v k.0 k.2.0
                    (λ a b m f. unused a b f) k.2.1,
              ),
            )
      ]
    ];
    targets = λ e h. elim (has_append_cases ends (t ∷ []) e h) [
      | inl k ↦ flow.targets e k
      | inr k ↦ elim k [ inl s ↦ subst (Has n.targets) s over.target | inr z ↦ absurd z ]
    ];
  }
