-- The paths of a table, traced back from their ends.
use Rattle.std.proofs.Common.{◌≡◌, ◌∙◌, ◌≢◌, ℕ, zero, suc, ◌+◌, ◌<◌, ◌⊎◌, inl, inr, List, [], ◌∷◌, length}
use Rattle.std.proofs.Common.{Some, refl, sym, ap, subst, arith}
use Rattle.ov_ids.specs.Members.{Has, IsDistinct, IsApart}
use Rattle.ov_graph.specs.Links.{Linked}
use Rattle.ov_graph.specs.Joined.{Leads}
use Rattle.ov_graph.specs.Paths.{IsPath, ShareOnly}
use Rattle.ov_graph.proofs.EvenTest.Filtered.{linked_node}
use Rattle.ov_split.specs.SplitNetState.{SplitNetState, IsSplitNet, IsFanOf}
use Rattle.ov_split.specs.Code.Residual.{Table, IsUsed, AreHeld}
use Rattle.ov_split.proofs.Augmenting.Lists.{distinct_length}
use Rattle.ov_split.proofs.Augmenting.Move.{leads_map}

-- u is the node before v on its path
abbrev pub Arc : Table → ℕ → ℕ → Type 0
Arc from u v = from v ≡ Some u

-- a node on a path is its end, or the path continues from it
pub successor : (from : Table) (x e a : ℕ) (c : List ℕ) → Leads (Arc from) x c e → Has (x ∷ c) a
    → (a ≡ e) ⊎ ((b : ℕ) × Has c b × (from b ≡ Some a))
successor from x e a [] l h = elim h [ inl s ↦ inl (sym s ∙ l) | inr k ↦ absurd k ]
successor from x e a (y ∷ c) l h = elim h [
  | inl s ↦ inr (y, inl refl, l.0 ∙ ap Some s)
  | inr k ↦ elim (successor from y e a c l.1 k) [ inl s ↦ inl s | inr r ↦ inr (r.0, inr r.1, r.2) ]
]

-- the rest of a path after one of its nodes
pub suffix : (from : Table) (x e a : ℕ) (c : List ℕ) → Leads (Arc from) x c e → Has c a
    → (d : List ℕ) × Leads (Arc from) a d e × ((b : ℕ) → Has d b → Has c b)
suffix from x e a [] l h = absurd h
suffix from x e a (y ∷ c) l h = elim h [
  | inl s ↦ (c, subst (λ (z : ℕ). Leads (Arc from) z c e) s l.1, λ b k. inr k)
  | inr k ↦ let r = suffix from y e a c l.1 k in (r.0, r.1, λ b m. inr (r.2 b m))
]

-- the node before v on a path to which v belongs
pub predecessor : (from : Table) (x e v u : ℕ) (c : List ℕ) → Leads (Arc from) x c e → Has c v → from v ≡ Some u
    → (u ≡ x) ⊎ Has c u
predecessor from x e v u [] l h f = absurd h
predecessor from x e v u (y ∷ c) l h f = elim h [
  | inl s ↦ let k = l.0 in inl (cc (k, f, ap from s))
  | inr k ↦ elim (predecessor from y e v u c l.1 k f) [ inl s ↦ inr (inl (sym s)) | inr m ↦ inr (inr m) ]
]

pub last_of : (from : Table) (x e : ℕ) (c : List ℕ) → Leads (Arc from) x c e → (x ≡ e) ⊎ Has c e
last_of from x e [] l = inl l
last_of from x e (y ∷ c) l = elim (last_of from y e c l.1) [ inl s ↦ inr (inl s) | inr k ↦ inr (inr k) ]

pub used_on : (from : Table) (x e v : ℕ) (c : List ℕ) → Leads (Arc from) x c e → Has c v → IsUsed from v
used_on from x e v [] l h = absurd h
used_on from x e v (y ∷ c) l h =
    elim h [ inl s ↦ (x, ap from (sym s) ∙ l.0) | inr k ↦ used_on from y e v c l.1 k ]

module _ (n : SplitNetState) (from : Table) (ends : List ℕ) (held : AreHeld n from ends) where
  pub not_source : (v : ℕ) → IsUsed from v → v ≢ n.source
  not_source v u e = let r = held.root in absurd (cc (ap from e, u.1))

  -- paths that meet beyond the source have one end
  pub meet : (x e f : ℕ) (c d : List ℕ) → Has ends e → Has ends f → x ≢ n.source → Leads (Arc from) x c e
      → Leads (Arc from) x d f → e ≡ f
  meet x e f [] [] he hf xs l m = sym l ∙ m
  meet x e f [] (y ∷ d) he hf xs l m = absurd (held.ends_last e y he (λ s. xs (l ∙ s)) (m.0 ∙ ap Some l))
  meet x e f (y ∷ c) [] he hf xs l m = absurd (held.ends_last f y hf (λ s. xs (m ∙ s)) (l.0 ∙ ap Some m))
  meet x e f (y ∷ c) (z ∷ d) he hf xs l m =
      meet y e f c d he hf (not_source y (x, l.0)) l.1
      (subst (λ (w : ℕ). Leads (Arc from) w d f) (held.once z y x m.0 l.0 xs) m.1)

  -- a used node that leads to e is on each path from the source to e
  pub on_path : (v e : ℕ) (d c : List ℕ) → IsUsed from v → e ≢ n.source → Leads (Arc from) v d e
      → Leads (Arc from) n.source c e → Has c v
  on_path v e [] c u es l m =
      elim (last_of from n.source e c m) [ inl s ↦ absurd (es (sym s)) | inr k ↦ subst (Has c) (sym l) k ]
  on_path v e (b ∷ d) c u es l m =
      elim (predecessor from n.source e b v c m (on_path b e d c (v, l.0) es l.1 m) l.0) [
        | inl s ↦ absurd (not_source v u s)
        | inr k ↦ k
      ]

  pub linked_on : (x e : ℕ) (c : List ℕ) → Leads (Arc from) x c e → Leads (Linked n.graph) x c e
  linked_on x e c l =
      leads_map {R = Arc from} {Q = Linked n.graph} x e c (λ a b h f. (held.free b a f).0) l

  pub used_off : (v : ℕ) → IsUsed from v → ¬ Has n.avoided v
  used_off v u = (held.free v u.0 u.1).1

module _ (n : SplitNetState) (net : IsSplitNet n) (from : Table) (ends : List ℕ) (held : AreHeld n from ends) where
  pub used_node : (v : ℕ) → IsUsed from v → Has n.graph.nodes v
  used_node v u = linked_node n.graph u.0 v net.graph (held.free v u.0 u.1).0

  -- the nodes after the source of a path to e
  pub record Traced (e : ℕ) : Type 0 where
    pub steps : List ℕ
    pub leads : Leads (Arc from) n.source steps e
    pub distinct : IsDistinct (n.source ∷ steps)

  trace : (fuel e x : ℕ) (c : List ℕ) → Has ends e → e ≢ n.source → ((a : ℕ) → Has (x ∷ c) a → IsUsed from a)
      → Leads (Arc from) x c e → IsDistinct (x ∷ c) → length n.graph.nodes < fuel + length (x ∷ c) → Traced e
  trace zero e x c h es used l d few =
      let k = distinct_length (x ∷ c) n.graph.nodes d (λ a m. used_node a (used a m)) in
      absurd (omega (arith, k, few))
  trace (suc fuel) e x c h es used l d few =
      let u = used x (inl refl) in
      elim (held.comes x u.0 u.1) [
        | inl s ↦ record {
          steps = x ∷ c;
          leads = (u.1 ∙ ap Some s, l);
          distinct = (λ k. not_source n from ends held n.source (used n.source k) refl, d);
        }
        | inr w ↦ trace fuel e u.0 (x ∷ c) h es
            (λ a m. elim m [ inl s ↦ subst (IsUsed from) s w | inr k ↦ used a k ])
            (u.1, l) (
              (λ k. elim (successor from x e u.0 c l k) [
                | inl s ↦ held.ends_last e x h es (u.1 ∙ ap Some s)
                | inr b ↦
                    d.0 (subst (Has c) (held.once b.0 x u.0 b.2 u.1 (not_source n from ends held u.0 w)) b.1)
              ]),
              d,
            )
            (omega arith)
      ]

  pub traced : (e : ℕ) → Has ends e → e ≢ n.source → Traced e
  traced e h es =
      elim (held.ends_used e h) [
        | inl s ↦ absurd (es s)
        | inr u ↦ trace (length n.graph.nodes) e e [] h es
            (λ a m. elim m [ inl s ↦ subst (IsUsed from) s u | inr k ↦ absurd k ]) refl ((λ k. k), tt) (omega arith)
      ]

  -- a path as it is traced to one of es
  pub record TracedPath (es path : List ℕ) : Type 0 where
    pub end : ℕ
    pub among : Has es end
    pub steps : List ℕ
    pub is : path ≡ n.source ∷ steps
    pub leads : Leads (Arc from) n.source steps end
    pub distinct : IsDistinct (n.source ∷ steps)

  -- the traced paths to each of es
  pub record Bundle (es : List ℕ) (paths : List (List ℕ)) : Type 0 where
    pub count : length paths ≡ length es
    pub each : (p : List ℕ) → Has paths p → TracedPath es p
    pub apart : ShareOnly (n.source ∷ []) paths

  pub bundle : (es : List ℕ) → IsDistinct es → ((e : ℕ) → Has es e → Has ends e × (e ≢ n.source))
      → (paths : List (List ℕ)) × Bundle es paths
  bundle [] d f = ([], record { count = refl; each = λ p h. absurd h; apart = tt })
  bundle (e ∷ es) d f =
      let t = traced e (f e (inl refl)).0 (f e (inl refl)).1 in
      let r = bundle es d.1 (λ a h. f a (inr h)) in (
        (n.source ∷ t.steps) ∷ r.0,
        record {
          count = ap suc r.1.count;
          each = λ p h. elim h [
            | inl s ↦ record {
              end = e;
              among = inl refl;
              steps = t.steps;
              is = sym s;
              leads = t.leads;
              distinct = t.distinct;
            }
            | inr k ↦ let q = r.1.each p k in record {
              end = q.end;
              among = inr q.among;
              steps = q.steps;
              is = q.is;
              leads = q.leads;
              distinct = q.distinct;
            }
          ];
          apart = (
            λ q x hq hp hx. elim hp [
              | inl s ↦ inl s
              | inr k ↦
                  let b = r.1.each q hq in
                  elim (subst (λ (l : List ℕ). Has l x) b.is hx) [
                    | inl s ↦ inl s
                    | inr m ↦
                        let xs = not_source n from ends held x (used_on from n.source e x t.steps t.leads k) in
                        let c = suffix from n.source e x t.steps t.leads k in
                        let d' = suffix from n.source b.end x b.steps b.leads m in
                        let one = meet n from ends held x e b.end c.0 d'.0 (f e (inl refl)).0 (f b.end (inr b.among)).0
                        xs c.1 d'.1 in
                        absurd (d.0 (subst (Has es) (sym one) b.among))
                  ]
            ],
            r.1.apart,
          );
        },
      )

  -- a traced path is a path of the graph
  pub is_path : (es path : List ℕ) → (t : TracedPath es path) → IsPath n.graph n.source path t.end
  is_path es path t =
      subst (λ (l : List ℕ). IsPath n.graph n.source l t.end) (sym t.is) (record {
        nodes = λ x h. elim h [
          | inl s ↦ subst (Has n.graph.nodes) s net.source
          | inr k ↦ used_node x (used_on from n.source t.end x t.steps t.leads k)
        ];
        walk = (refl, linked_on n from ends held n.source t.end t.steps t.leads);
        distinct = t.distinct;
      })

  pub path_off : (es path : List ℕ) → TracedPath es path → IsApart n.avoided path
  path_off es path t =
      subst (IsApart n.avoided) (sym t.is) (λ x h. elim h [
        | inl s ↦ subst (λ (z : ℕ). ¬ Has n.avoided z) s net.not_avoided
        | inr k ↦ used_off n from ends held x (used_on from n.source t.end x t.steps t.leads k)
      ])

  -- paths to targets that are held are a fan
  pub fan_of : ((e : ℕ) → Has ends e → Has n.targets e) → (paths : List (List ℕ)) × IsFanOf n (length ends) paths
  fan_of f =
      let b = bundle ends held.distinct (λ e h. (h, λ s. net.no_target (subst (Has n.targets) s (f e h)))) in (
        b.0,
        record {
          fan = record {
            count = b.1.count;
            outside = net.no_target;
            each = λ p h. let t = b.1.each p h in (t.end, f t.end t.among, is_path ends p t);
            apart = b.1.apart;
          };
          off = λ p h. path_off ends p (b.1.each p h);
        },
      )
