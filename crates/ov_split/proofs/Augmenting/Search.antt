-- A search by residual steps reaches a target or is stuck.
use Rattle.std.proofs.Common.{◌≡◌, ◌≢◌, ◌↔◌, ℕ, zero, suc, ◌+◌, ◌<◌, ◌⊎◌, inl, inr, List, [], ◌∷◌, ◌++◌, length}
use Rattle.std.proofs.Common.{Option, Some, None, refl, sym, ap, subst, arith, unwrap_or}
use Rattle.std.proofs.lemmas.Bool.{cases_eq}
use Rattle.ov_ids.specs.Members.{Has, IsDistinct}
use Rattle.ov_ids.proofs.Members.{has_or_not, has_append_cases, ascends_distinct}
use Rattle.ov_graph.specs.Joined.{Leads}
use Rattle.ov_graph.proofs.EvenTest.Walks.{linked_sym, leads_push}
use Rattle.ov_graph.proofs.EvenTest.Escape.{meets_or_apart}
use Rattle.ov_graph.proofs.EvenTest.Filtered.{linked_node}
use Rattle.ov_graph.proofs.EvenTest.Tested.{linked_or_not}
use Rattle.ov_split.specs.SplitNetState.{SplitNetState, IsSplitNet}
use Rattle.ov_split.specs.Code.Residual.{IsFree, Table, IsResidual, IsStuck, IsBoundary}
use Rattle.ov_split.proofs.Augmenting.Lists.{distinct_length, distinct_push, set_of, set_ascends, in_set, from_set}
use Rattle.ov_split.proofs.Augmenting.Move.{tip_cases}

-- P holds or does not
abbrev IsDecided : Type 0 → Type 0
IsDecided P = P ⊎ (¬ P)

both_decided : (P Q : Type 0) → IsDecided P → IsDecided Q → IsDecided (P × Q)
both_decided P Q p q = elim p [
  | inl h ↦ elim q [ inl k ↦ inl (h, k) | inr k ↦ inr (λ r. k r.1) ]
  | inr h ↦ inr (λ r. h r.0)
]

not_decided : (P : Type 0) → IsDecided P → IsDecided (¬ P)
not_decided P p = elim p [ inl h ↦ inr (λ n. n h) | inr h ↦ inl h ]

-- some member of xs has P, or none has
some_or_none : (P : ℕ → Type 0) → ((x : ℕ) → IsDecided (P x)) → (xs : List ℕ)
    → ((x : ℕ) × Has xs x × P x) ⊎ ((x : ℕ) → Has xs x → ¬ P x)
some_or_none P decide [] = inr (λ x h k. h)
some_or_none P decide (y ∷ ys) = elim (decide y) [
  | inl p ↦ inl (y, inl refl, p)
  | inr off ↦ elim (some_or_none P decide ys) [
    | inl r ↦ inl (r.0, inr r.1, r.2)
    | inr none ↦ inr (λ x h k. elim h [ inl e ↦ off (subst P (sym e) k) | inr m ↦ none x m k ])
  ]
]

some_decided : (P : ℕ → Type 0) → ((x : ℕ) → IsDecided (P x)) → (xs : List ℕ)
    → IsDecided ((x : ℕ) × Has xs x × P x)
some_decided P decide xs = elim (some_or_none P decide xs) [
  | inl r ↦ inl r
  | inr none ↦ inr (λ r. none r.0 r.1 r.2)
]

-- the members of xs that have P
record Chosen (P : ℕ → Type 0) (xs : List ℕ) : Type 0 where
  members : List ℕ
  each : (x : ℕ) → Has members x ↔ (Has xs x × P x)

chosen : (P : ℕ → Type 0) → ((x : ℕ) → IsDecided (P x)) → (xs : List ℕ) → Chosen P xs
chosen P decide [] = record { members = []; each = λ x. ((λ h. absurd h), (λ h. h.0)) }
chosen P decide (y ∷ ys) =
    let r = chosen P decide ys in
    elim (decide y) [
      | inl p ↦ record {
        members = y ∷ r.members;
        each = λ x. (
          (λ h. elim h [ inl e ↦ (inl e, subst P e p) | inr m ↦ let k = (r.each x).0 m in (inr k.0, k.1) ]),
          (λ h. elim h.0 [ inl e ↦ inl e | inr m ↦ inr ((r.each x).1 (m, h.1)) ]),
        );
      }
      | inr off ↦ record {
        members = r.members;
        each = λ x. (
          (λ m. let k = (r.each x).0 m in (inr k.0, k.1)),
          (λ h. elim h.0 [ inl e ↦ absurd (off (subst P (sym e) h.1)) | inr m ↦ (r.each x).1 (m, h.1) ]),
        );
      }
    ]

free_decided : (n : SplitNetState) (a b : ℕ) → IsDecided (IsFree n a b)
free_decided n a b = both_decided _ _ (linked_or_not n.graph a b) (not_decided _ (has_or_not n.avoided b))

comes_decided : (o : Option ℕ) (y : ℕ) → IsDecided (o ≡ Some y)
comes_decided None y = inr (λ e. cc)
comes_decided (Some u) y =
    elim (cases_eq u y) [ inl e ↦ inl (ap Some e) | inr ne ↦ inr (λ e. ne (ap (λ (o : Option ℕ). unwrap_or o u) e)) ]

module _ (n : SplitNetState) (net : IsSplitNet n) (from : Table) (free : (v u : ℕ) → from v ≡ Some u → IsFree n u v)
  where
    before_node : (v u : ℕ) → from v ≡ Some u → Has n.graph.nodes u
    before_node v u f = linked_node n.graph v u net.graph (linked_sym n.graph u v (free v u f).0)

    -- residual steps lead to nodes
    pub residual_node : (x y : ℕ) → IsResidual n from x y → Has n.graph.nodes y
    residual_node x y step = elim step [
      | inl r ↦ elim (tip_cases from r.0 y (from r.0) refl r.3) [
        | inl p ↦ subst (Has n.graph.nodes) p.1 (linked_node n.graph x r.0 net.graph r.1.0)
        | inr f ↦ before_node r.0 y f
      ]
      | inr f ↦ before_node x y f
    ]

    -- a residual step by the link to w
    abbrev IsBy : ℕ → ℕ → ℕ → Type 0
    IsBy x y w = IsFree n x w × ((w ≢ n.source) × (unwrap_or (from w) w ≡ y))

    residual_decided : (x y : ℕ) → IsDecided (IsResidual n from x y)
    residual_decided x y =
        let by : (w : ℕ) → IsDecided (IsBy x y w) = λ w.
        both_decided _ _ (free_decided n x w)
        (both_decided _ _ (not_decided _ (cases_eq w n.source)) (cases_eq (unwrap_or (from w) w) y)) in
        elim (some_or_none (IsBy x y) by n.graph.nodes) [
          | inl r ↦ inl (inl (r.0, r.2.0, r.2.1.0, r.2.1.1))
          | inr none ↦ elim (comes_decided (from x) y) [
            | inl f ↦ inl (inr f)
            | inr other ↦ inr (λ step. elim step [
              | inl r ↦ none r.0 (linked_node n.graph x r.0 net.graph r.1.0) (r.1, (r.2, r.3))
              | inr f ↦ other f
            ])
          ]
        ]

    -- walks over the reached nodes lead to each of them, without repetition
    pub record AreLed (reached : List ℕ) : Type 0 where
      pub source : Has reached n.source
      pub distinct : IsDistinct reached
      pub nodes : (x : ℕ) → Has reached x → Has n.graph.nodes x
      pub walk : (x : ℕ) → Has reached x → List ℕ
      pub leads : (x : ℕ) (h : Has reached x) → Leads (IsResidual n from) n.source (walk x h) x
      pub once : (x : ℕ) (h : Has reached x) → IsDistinct (n.source ∷ walk x h)
      pub over : (x : ℕ) (h : Has reached x) (y : ℕ) → Has (walk x h) y → Has reached y

    pub led_source : AreLed (n.source ∷ [])
    led_source = record {
      source = inl refl;
      distinct = ((λ h. h), tt);
      nodes = λ x h. elim h [ inl e ↦ subst (Has n.graph.nodes) e net.source | inr k ↦ absurd k ];
      walk = λ x h. [];
      leads = λ x h. elim h [ inl e ↦ e | inr k ↦ absurd k ];
      once = λ x h. ((λ k. k), tt);
      over = λ x h y k. absurd k;
    }

    -- one node more, by a residual step
    pub led_more : (reached : List ℕ) (x y : ℕ) → AreLed reached → Has reached x → ¬ Has reached y
        → IsResidual n from x y → AreLed (y ∷ reached)
    led_more reached x y led hx off step =
        let steps = led.walk x hx in
        let next : (z : ℕ) → Has (y ∷ reached) z → (walk : List ℕ) × Leads (IsResidual n from) n.source walk z
        × IsDistinct (n.source ∷ walk) × ((a : ℕ) → Has walk a → Has (y ∷ reached) a) = λ z h. elim h [
          | inl e ↦ (
            steps ++ y ∷ [],
            subst (Leads (IsResidual n from) n.source (steps ++ y ∷ [])) e
                (leads_push (IsResidual n from) n.source x y steps (led.leads x hx) step),
            distinct_push (n.source ∷ steps) y (led.once x hx) (λ k. off (elim k [
              | inl s ↦ subst (Has reached) s led.source
              | inr m ↦ led.over x hx y m
            ])),
            λ a k. elim (has_append_cases steps (y ∷ []) a k) [
              | inl m ↦ inr (led.over x hx a m)
              | inr m ↦ elim m [ inl s ↦ inl s | inr w ↦ absurd w ]
            ],
          )
          | inr k ↦ (led.walk z k, led.leads z k, led.once z k, λ a m. inr (led.over z k a m))
        ] in
        record {
          source = inr led.source;
          distinct = (off, led.distinct);
          nodes = λ z h. elim h [
            | inl e ↦ subst (Has n.graph.nodes) e (residual_node x y step)
            | inr k ↦ led.nodes z k
          ];
          walk = λ z h. (next z h).0;
          leads = λ z h. (next z h).1;
          once = λ z h. (next z h).2;
          over = λ z h. (next z h).3;
        }

    -- the reached nodes, where no step leads out of them
    pub record Explored : Type 0 where
      pub reached : List ℕ
      pub led : AreLed reached
      pub closed : (x y : ℕ) → Has reached x → IsResidual n from x y → Has reached y

    -- a step that leads out of the reached nodes
    abbrev IsOut : List ℕ → ℕ → ℕ → Type 0
    IsOut reached x y = ¬ Has reached y × IsResidual n from x y

    explore : (fuel : ℕ) (reached : List ℕ) → AreLed reached → length n.graph.nodes < fuel + length reached → Explored
    explore zero reached led l =
        let h = distinct_length reached n.graph.nodes led.distinct led.nodes in absurd (omega (arith, h, l))
    explore (suc fuel) reached led l =
        let out : (x y : ℕ) → IsDecided (IsOut reached x y) = λ x y.
        both_decided _ _ (not_decided _ (has_or_not reached y)) (residual_decided x y) in
        let leaves : (x : ℕ) → IsDecided ((y : ℕ) × Has n.graph.nodes y × IsOut reached x y) =
        λ x. some_decided (IsOut reached x) (out x) n.graph.nodes in
        elim (some_or_none (λ x. (y : ℕ) × Has n.graph.nodes y × IsOut reached x y) leaves reached) [
          | inl r ↦ explore fuel (r.2.0 ∷ reached) (led_more reached r.0 r.2.0 led r.1 r.2.2.0 r.2.2.1) (omega arith)
          | inr none ↦ record {
            reached = reached;
            led = led;
            closed = λ x y hx step. elim (has_or_not reached y) [
              | inl k ↦ k
              | inr off ↦ absurd (none x hx (y, residual_node x y step, (off, step)))
            ];
          }
        ]

    pub explored : Explored
    explored = explore (length n.graph.nodes) (n.source ∷ []) led_source (omega arith)

-- a walk by residual steps that leads to a target and meets no node twice
pub record AugmentingWalk (n : SplitNetState) (from : Table) : Type 0 where
  pub target : ℕ
  pub is_target : Has n.targets target
  pub walk : List ℕ
  pub leads : Leads (IsResidual n from) n.source walk target
  pub once : IsDistinct (n.source ∷ walk)

-- a target is found, or the search is stuck
pub walk_or_stuck : (n : SplitNetState) → IsSplitNet n → (from : Table) → ((v u : ℕ) → from v ≡ Some u → IsFree n u v)
    → AugmentingWalk n from ⊎ ((reached : List ℕ) × IsStuck n from reached)
walk_or_stuck n net from free =
    let e = explored n net from free in
    elim (meets_or_apart n.targets e.reached) [
      | inl m ↦ inl (record {
        target = m.0;
        is_target = m.2;
        walk = e.led.walk m.0 m.1;
        leads = e.led.leads m.0 m.1;
        once = e.led.once m.0 m.1;
      })
      | inr apart ↦ inr (
        e.reached,
        record {
          source = e.led.source;
          closed = e.closed;
          led = λ x h. (e.led.walk x h, e.led.leads x h);
          no_target = apart;
        },
      )
    ]

-- the reached nodes have a boundary, in ascending order
pub boundary_of : (n : SplitNetState) → IsSplitNet n → (reached : List ℕ)
    → (s : List ℕ) × IsBoundary n reached (set_of s)
boundary_of n net reached =
    let beside : (w : ℕ) → IsDecided ((x : ℕ) × Has reached x × IsFree n x w) = λ w.
    some_decided (λ x. IsFree n x w) (λ x. free_decided n x w) reached in
    let c = chosen (λ w. ¬ Has reached w × ((x : ℕ) × Has reached x × IsFree n x w))
    (λ w. both_decided _ _ (not_decided _ (has_or_not reached w)) (beside w)) n.graph.nodes in
    let each : (w : ℕ) → Has (set_of c.members) w
    → Has n.graph.nodes w × (¬ Has reached w × ((x : ℕ) × Has reached x × IsFree n x w)) = λ w h.
    (c.each w).0 (from_set c.members w h) in (
      c.members,
      record {
        distinct = ascends_distinct (set_of c.members) (set_ascends c.members);
        out = λ w h. (each w h).1.0;
        behind = λ w h. (each w h).1.1;
        all = λ x w hx f. elim (has_or_not reached w) [
          | inl k ↦ inl k
          | inr off ↦ inr (in_set c.members w
              ((c.each w).1 (linked_node n.graph x w net.graph f.0, (off, (x, hx, f)))))
        ];
      },
    )
