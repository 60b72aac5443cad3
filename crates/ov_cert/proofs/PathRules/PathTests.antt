-- The tests of paths and fans are equivalent to the relations.
use Rattle.std.proofs.Common.{◌≡◌, ◌≢◌, ◌∙◌, ◌↔◌, ◌⊎◌, ℕ, ◌<◌, inl, inr, List, [], ◌∷◌, length, Bool, false, ◌&&◌, eqb}
use Rattle.std.proofs.Common.{nat_lt, IsTrue, Option, Some, None, refl, sym, subst, arith}
use Rattle.std.proofs.lemmas.Bool.{and_parts, and_from, both_ways, ltb-true, eqb-true, eq-eqb}
use Rattle.ov_ids.specs.Members.{Has, IsDistinct}
use Rattle.ov_ids.specs.Sets.{has, adding}
use Rattle.ov_ids.proofs.Members.{has_tested}
use Rattle.ov_graph.specs.Links.{LinkGraph, Linked}
use Rattle.ov_graph.specs.Joined.{Leads, IsWalk}
use Rattle.ov_graph.specs.Paths.{IsPath, ArePaths, IsFan}
use Rattle.ov_graph.specs.Even.{members_below}
use Rattle.ov_graph.specs.Code.Tests.{are_joined}
use Rattle.ov_graph.proofs.EvenTest.Tested.{joined_tested}
use Rattle.ov_graph.proofs.EvenTest.Filtered.{has_filter, has_filtered}
use Rattle.ov_cert.specs.declared.cert.PairPaths.{PairPaths}
use Rattle.ov_cert.specs.declared.cert.FanPaths.{FanPaths}
use Rattle.ov_cert.specs.Verdict.{IsPairEntry, IsFanEntry}
use Rattle.ov_cert.proofs.PathRules.Fresh.{IsFresh, adding_new, adding_old, adding_cases, fresh_tested, in_turn_tested}
use Rattle.ov_cert.specs.Code.Tests.{chained, fresh, without_last, last_of, inner, steps, is_pair_path, are_pair_paths}
use Rattle.ov_cert.specs.Code.Tests.{is_earlier, is_fan_path, are_fan_paths, is_pair_entry, is_fan_entry}

chained_tested : (g : LinkGraph) (a : ℕ) (xs : List ℕ) → IsTrue (chained g (a ∷ xs)) ↔ Leads (Linked g) a xs
    (last_of a xs)
chained_tested g a [] = ((λ h. refl), (λ h. refl))
chained_tested g a (b ∷ xs) =
    let one = joined_tested g a b (are_joined g.links a b) refl in
    let more = chained_tested g b xs in (
      (λ h. let p = and_parts (are_joined g.links a b) (chained g (b ∷ xs)) h in (one.0 p.0, more.0 p.1)),
      (λ h. and_from (are_joined g.links a b) (chained g (b ∷ xs)) (one.1 h.0) (more.1 h.1)),
    )

-- what the test of a path requires, whatever its last node
legs_tested : (g : LinkGraph) (used own : List ℕ) (i : ℕ) (ends : Bool) (a b : ℕ) (rest : List ℕ)
    → IsTrue (eqb a i && (ends && (chained g (a ∷ b ∷ rest) && fresh g used own))) ↔
    (IsTrue ends × IsWalk g i (a ∷ b ∷ rest) (last_of b rest) × IsFresh g used own)
legs_tested g used own i ends a b rest =
    let chain = chained_tested g a (b ∷ rest) in
    let new = fresh_tested g used own in (
      (λ h.
          let p = and_parts (eqb a i) (ends && (chained g (a ∷ b ∷ rest) && fresh g used own)) h in
          let q = and_parts ends (chained g (a ∷ b ∷ rest) && fresh g used own) p.1 in
          let r = and_parts (chained g (a ∷ b ∷ rest)) (fresh g used own) q.1 in
          let e = eqb-true a i p.0 in
          (q.0, (e, subst (λ (z : ℕ). Leads (Linked g) z (b ∷ rest) (last_of b rest)) e (chain.0 r.0)), new.0 r.1)),
      (λ h.
          and_from (eqb a i) (ends && (chained g (a ∷ b ∷ rest) && fresh g used own)) (eq-eqb a i h.1.0)
          (and_from ends (chained g (a ∷ b ∷ rest) && fresh g used own) h.0
          (and_from (chained g (a ∷ b ∷ rest)) (fresh g used own)
          (chain.1 (subst (λ (z : ℕ). Leads (Linked g) z (b ∷ rest) (last_of b rest)) (sym h.1.0) h.1.1))
          (new.1 h.2)))),
    )

leads_last : (R : ℕ → ℕ → Type 0) (a : ℕ) (xs : List ℕ) (b : ℕ) → Leads R a xs b → last_of a xs ≡ b
leads_last R a [] b w = w
leads_last R a (x ∷ xs) b w = leads_last R x xs b w.1

-- a list is its front followed by its last item
in_front : (xs : List ℕ) (x : ℕ) → Has (without_last xs) x → Has xs x
in_front [] x h = h
in_front (a ∷ []) x h = absurd h
in_front (a ∷ b ∷ xs) x h = elim h [ inl e ↦ inl e | inr k ↦ inr (in_front (b ∷ xs) x k) ]

front_or_last : (a : ℕ) (xs : List ℕ) (x : ℕ) → Has (a ∷ xs) x → (last_of a xs ≡ x) ⊎ Has (without_last (a ∷ xs)) x
front_or_last a [] x h = elim h [ inl e ↦ inl e | inr k ↦ absurd k ]
front_or_last a (b ∷ xs) x h = elim h [
  | inl e ↦ inr (inl e)
  | inr k ↦ elim (front_or_last b xs x k) [ inl e ↦ inl e | inr m ↦ inr (inr m) ]
]

has_last : (a : ℕ) (xs : List ℕ) → Has (a ∷ xs) (last_of a xs)
has_last a [] = inl refl
has_last a (b ∷ xs) = inr (has_last b xs)

distinct_front : (a : ℕ) (xs : List ℕ) → IsDistinct (a ∷ xs) ↔ (¬ Has (without_last (a ∷ xs)) (last_of a xs))
    × IsDistinct (without_last (a ∷ xs))
distinct_front a [] = ((λ h. ((λ m. m), tt)), (λ h. ((λ m. m), tt)))
distinct_front a (b ∷ xs) =
    let more = distinct_front b xs in (
      (λ h.
          let r = more.0 h.1 in (
            (λ m. elim m [ inl e ↦ h.0 (subst (Has (b ∷ xs)) (sym e) (has_last b xs)) | inr k ↦ r.0 k ]),
            ((λ m. h.0 (in_front (b ∷ xs) a m)), r.1),
          )),
      (λ h. (
        (λ m. elim (front_or_last b xs a m) [ inl e ↦ h.0 (inl (sym e)) | inr k ↦ h.1.0 k ]),
        more.1 ((λ m. h.0 (inr m)), h.1.1),
      )),
    )

-- paths between two different nodes
module _ (g : LinkGraph) (i j : ℕ) (differ : i ≢ j) where
  pair_path_tested : (used p : List ℕ) → IsTrue (is_pair_path g used i j p) ↔
      (IsWalk g i p j × IsFresh g used (inner p))
  pair_path_tested used [] = ((λ h. absurd (both_ways false refl h)), (λ h. absurd h.0))
  pair_path_tested used (a ∷ []) = ((λ h. absurd (both_ways false refl h)), (λ h. absurd (differ h.0.1)))
  pair_path_tested used (a ∷ b ∷ rest) =
      let legs = legs_tested g used (without_last (b ∷ rest)) i (eqb (last_of b rest) j) a b rest in (
        (λ h. let r = legs.0 h in (subst (IsWalk g i (a ∷ b ∷ rest)) (eqb-true (last_of b rest) j r.0) r.1, r.2)),
        (λ h.
            let end : last_of b rest ≡ j = leads_last (Linked g) i (b ∷ rest) j h.0.1 in
            legs.1 (eq-eqb (last_of b rest) j end, subst (IsWalk g i (a ∷ b ∷ rest)) (sym end) h.0, h.1)),
      )

  pub inner_within : (p : List ℕ) (x : ℕ) → Has (inner p) x → Has p x
  inner_within [] x h = h
  inner_within (a ∷ rest) x h = inr (in_front rest x h)

  inner_cover : (p : List ℕ) (x : ℕ) → IsWalk g i p j → Has p x → Has (i ∷ j ∷ []) x ⊎ Has (inner p) x
  inner_cover [] x w h = absurd h
  inner_cover (a ∷ []) x w h = absurd (differ w.1)
  inner_cover (a ∷ b ∷ rest) x w h = elim h [
    | inl e ↦ inl (inl (sym w.0 ∙ e))
    | inr k ↦ elim (front_or_last b rest x k) [
      | inl e ↦ inl (inr
          (inl (sym (leads_last (Linked g) i (b ∷ rest) j w.1) ∙ e)))
      | inr m ↦ inr m
    ]
  ]

  -- the two ends in the order in which the tests have them
  abbrev ends : List ℕ
  ends = adding j (i ∷ [])

  in_ends : (x : ℕ) → Has (i ∷ j ∷ []) x → Has ends x
  in_ends x h = elim h [
    | inl e ↦ adding_old j (i ∷ []) x (inl e)
    | inr k ↦ elim k [ inl e ↦ subst (Has ends) e (adding_new j (i ∷ [])) | inr m ↦ absurd m ]
  ]

  path_from_inner : (p : List ℕ) → Has g.nodes i → Has g.nodes j → IsWalk g i p j → IsFresh g ends (inner p)
      → IsPath g i p j
  path_from_inner p ni nj w f = record {
    nodes = λ x h. elim (inner_cover p x w h) [
      | inl s ↦ elim s [
        | inl e ↦ subst (Has g.nodes) e ni
        | inr k ↦ elim k
            [ inl e ↦ subst (Has g.nodes) e nj | inr m ↦ absurd m ]
      ]
      | inr m ↦ (f.0 x m).0
    ];
    walk = w;
    distinct = distinct p w f;
  }
    where
      distinct : (p : List ℕ) → IsWalk g i p j → IsFresh g ends (inner p) → IsDistinct p
      distinct [] w f = absurd w
      distinct (a ∷ []) w f = ((λ m. m), tt)
      distinct (a ∷ b ∷ rest) w f =
          let end : last_of b rest ≡ j = leads_last (Linked g) i (b ∷ rest) j w.1 in (
            (λ m. elim (front_or_last b rest a m) [
              | inl e ↦ differ (sym w.0 ∙ (sym e ∙ end))
              | inr k ↦ (f.0 a k).1 (in_ends a (inl (sym w.0)))
            ]),
            (distinct_front b rest).1 (
              (λ m. (f.0 (last_of b rest) m).1
                  (in_ends (last_of b rest) (inr (inl (sym end))))),
              f.1,
            ),
          )

  inner_fresh : (p : List ℕ) → IsPath g i p j → IsFresh g ends (inner p)
  inner_fresh [] path = absurd path.walk
  inner_fresh (a ∷ []) path = absurd (differ path.walk.1)
  inner_fresh (a ∷ b ∷ rest) path =
      let end : last_of b rest ≡ j = leads_last (Linked g) i (b ∷ rest) j path.walk.1 in
      let parts = (distinct_front b rest).0 path.distinct.1 in (
        (λ x m. (
          path.nodes x (inr (in_front (b ∷ rest) x m)),
          λ u. elim (adding_cases j (i ∷ []) x u) [
            | inl e ↦ parts.0 (subst (Has (without_last (b ∷ rest))) (e ∙ sym end) m)
            | inr k ↦ elim k [
              | inl e ↦ path.distinct.0 (in_front (b ∷ rest) a
                  (subst (Has (without_last (b ∷ rest))) (sym (path.walk.0 ∙ e)) m))
              | inr n ↦ absurd n
            ]
          ],
        )),
        parts.1,
      )

  pub pair_paths_tested : (k : ℕ) (ps : List (List ℕ)) → Has g.nodes i → Has g.nodes j
      → ((length ps ≡ k) × IsTrue (are_pair_paths g ends i j ps)) ↔ ArePaths g i j k ps
  pair_paths_tested k ps ni nj =
      let all = in_turn_tested g (λ p. IsWalk g i p j) inner (i ∷ j ∷ []) inner_within inner_cover
      (λ used p. is_pair_path g used i j p) (λ used ps. are_pair_paths g used i j ps) (λ used. refl)
      (λ used p ps. refl) pair_path_tested ends ps in_ends in (
        (λ h.
            let r = all.0 h.1 in
            record { count = h.0; each = λ p m. let q = r.0 p m in path_from_inner p ni nj q.0 q.1; apart = r.1 }),
        (λ a. (a.count, all.1 ((λ p m. let path = a.each p m in (path.walk, inner_fresh p path)), a.apart))),
      )

-- paths from a member to members below it
module _ (g : LinkGraph) (q : List ℕ) (members : (x : ℕ) → Has q x → Has g.nodes x) (j : ℕ) where
  -- it leads from j to a member below j
  abbrev Descends : List ℕ → Type 0
  Descends p = (t : ℕ) × Has (members_below q j) t × IsWalk g j p t

  pub earlier_tested : (x : ℕ) → IsTrue (is_earlier q j x) ↔ Has (members_below q j) x
  earlier_tested x = (
    (λ t. let p = and_parts (nat_lt x j) (has q x) t in has_filter (λ y. nat_lt y j) q x
        ((has_tested q x (has q x) refl).0 p.1) p.0),
    (λ h. let p = has_filtered (λ y. nat_lt y j) q x h in and_from (nat_lt x j) (has q x) p.1
        ((has_tested q x (has q x) refl).1 p.0)),
  )

  -- a member below j differs from j
  below : (x : ℕ) → Has (members_below q j) x → x < j
  below x h = ltb-true x j (has_filtered (λ y. nat_lt y j) q x h).1

  fan_path_tested : (used p : List ℕ) → IsTrue (is_fan_path g q used j p) ↔ (Descends p × IsFresh g used (steps p))
  fan_path_tested used [] = ((λ h. absurd (both_ways false refl h)), (λ h. absurd h.0.2))
  fan_path_tested used (a ∷ []) = (
    (λ h. absurd (both_ways false refl h)),
    (λ h. let same : j ≡ h.0.0 = h.0.2.1 in let l : h.0.0 < j = below h.0.0 h.0.1 in absurd (omega arith)),
  )
  fan_path_tested used (a ∷ b ∷ rest) =
      let legs = legs_tested g used (b ∷ rest) j (is_earlier q j (last_of b rest)) a b rest in (
        (λ h. let r = legs.0 h in ((last_of b rest, (earlier_tested (last_of b rest)).0 r.0, r.1), r.2)),
        (λ h.
            let end : last_of b rest ≡ h.0.0 = leads_last (Linked g) j (b ∷ rest) h.0.0 h.0.2.1 in
            legs.1 (
              (earlier_tested (last_of b rest)).1 (subst (Has (members_below q j)) (sym end) h.0.1),
              subst
                  (IsWalk g j (a ∷ b ∷ rest)) (sym end) h.0.2,
              h.1,
            )),
      )

  pub steps_within : (p : List ℕ) (x : ℕ) → Has (steps p) x → Has p x
  steps_within [] x h = h
  steps_within (a ∷ rest) x h = inr h

  steps_cover : (p : List ℕ) (x : ℕ) → Descends p → Has p x → Has (j ∷ []) x ⊎ Has (steps p) x
  steps_cover [] x w h = absurd h
  steps_cover (a ∷ rest) x w h = elim h [ inl e ↦ inl (inl (sym w.2.0 ∙ e)) | inr k ↦ inr k ]

  fan_from_steps : (p : List ℕ) → Has g.nodes j → Descends p → IsFresh g (j ∷ []) (steps p) → (t : ℕ)
      × Has (members_below q j) t × IsPath g j p t
  fan_from_steps p nj w f =
      let nodes : (x : ℕ) → Has p x → Has g.nodes x = λ x h. elim (steps_cover p x w h) [
        | inl s ↦ elim s [ inl e ↦ subst (Has g.nodes) e nj | inr m ↦ absurd m ]
        | inr m ↦ (f.0 x m).0
      ] in (
        w.0,
        w.1,
        record { nodes = nodes; walk = w.2; distinct = distinct p w f },
      )
    where
      distinct : (p : List ℕ) → Descends p → IsFresh g (j ∷ []) (steps p) → IsDistinct p
      distinct [] w f = tt
      distinct (a ∷ rest) w f = ((λ m. (f.0 a m).1 (inl (sym w.2.0))), f.1)

  steps_fresh : (p : List ℕ) (t : ℕ) → IsPath g j p t → IsFresh g (j ∷ []) (steps p)
  steps_fresh [] t path = absurd path.walk
  steps_fresh (a ∷ rest) t path = (
    (λ x m. (
      path.nodes x (inr m),
      λ u. elim u [ inl e ↦ path.distinct.0 (subst (Has rest) (sym (path.walk.0 ∙ e)) m) | inr n ↦ absurd n ],
    )),
    path.distinct.1,
  )

  pub fan_paths_tested : (k : ℕ) (ps : List (List ℕ)) → Has g.nodes j
      → ((length ps ≡ k) × IsTrue (are_fan_paths g q (j ∷ []) j ps)) ↔ IsFan g j (members_below q j) k ps
  fan_paths_tested k ps nj =
      let all = in_turn_tested g Descends steps (j ∷ []) steps_within steps_cover (λ used p. is_fan_path g q used j p)
      (λ used ps. are_fan_paths g q used j ps) (λ used. refl) (λ used p ps. refl) fan_path_tested (j ∷ []) ps
      (λ x s. s) in (
        (λ h.
            let r = all.0 h.1 in
            record {
              count = h.0;
              outside = λ m. let l : j < j = below j m in absurd (omega arith);
              each = λ p m. let q = r.0 p m in fan_from_steps p nj q.0 q.1;
              apart = r.1;
            }),
        (λ a. (a.count, all.1 ((λ p m. let r = a.each p m in ((r.0, r.1, r.2.walk), steps_fresh p r.0 r.2)), a.apart))),
      )

-- the test of a pair's entry
pub pair_entry_tested : (g : LinkGraph) (k : ℕ) (p : ℕ × ℕ) → Has g.nodes p.0 → Has g.nodes p.1 → p.0 ≢ p.1
    → (o : Option PairPaths) → IsTrue (is_pair_entry g k p o) ↔ IsPairEntry g k p o
pair_entry_tested g k p ni nj differ None = ((λ h. absurd (both_ways false refl h)), (λ h. absurd h))
pair_entry_tested g k p ni nj differ (Some e) =
    let used = adding p.1 (p.0 ∷ []) in
    let are = pair_paths_tested g p.0 p.1 differ k e.paths ni nj in (
      (λ h.
          let q = and_parts (eqb e.i p.0) (eqb e.j p.1 && (eqb (length e.paths) k && are_pair_paths g used p.0 p.1
          e.paths)) h in
          let r = and_parts (eqb e.j p.1) (eqb (length e.paths) k && are_pair_paths g used p.0 p.1 e.paths) q.1 in
          let s = and_parts (eqb (length e.paths) k) (are_pair_paths g used p.0 p.1 e.paths) r.1 in
          (eqb-true e.i p.0 q.0, eqb-true e.j p.1 r.0, are.0 (eqb-true (length e.paths) k s.0, s.1))),
      (λ h.
          let t = are.1 h.2 in
          and_from (eqb e.i p.0) (eqb e.j p.1 && (eqb (length e.paths) k && are_pair_paths g used p.0 p.1 e.paths))
          (eq-eqb e.i p.0 h.0)
          (and_from (eqb e.j p.1) (eqb (length e.paths) k && are_pair_paths g used p.0 p.1 e.paths) (eq-eqb e.j p.1 h.1)
          (and_from (eqb (length e.paths) k) (are_pair_paths g used p.0 p.1 e.paths) (eq-eqb (length e.paths) k t.0)
          t.1))),
    )

-- the test of a fan's entry
pub fan_entry_tested : (g : LinkGraph) (q : List ℕ) → ((x : ℕ) → Has q x → Has g.nodes x) → (k j : ℕ) → Has g.nodes j
    → (o : Option FanPaths)
    → IsTrue (is_fan_entry g q k j o) ↔ IsFanEntry g q k j o
fan_entry_tested g q members k j nj None = ((λ h. absurd (both_ways false refl h)), (λ h. absurd h))
fan_entry_tested g q members k j nj (Some e) =
    let are = fan_paths_tested g q members j k e.paths nj in (
      (λ h.
          let s = and_parts (eqb e.j j) (eqb (length e.paths) k && are_fan_paths g q (j ∷ []) j e.paths) h in
          let r = and_parts (eqb (length e.paths) k) (are_fan_paths g q (j ∷ []) j e.paths) s.1 in
          (eqb-true e.j j s.0, are.0 (eqb-true (length e.paths) k r.0, r.1))),
      (λ h.
          let t = are.1 h.1 in
          and_from (eqb e.j j) (eqb (length e.paths) k && are_fan_paths g q (j ∷ []) j e.paths) (eq-eqb e.j j h.0)
          (and_from (eqb (length e.paths) k) (are_fan_paths g q (j ∷ []) j e.paths) (eq-eqb (length e.paths) k t.0)
          t.1)),
    )
