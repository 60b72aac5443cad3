-- Fresh nodes: distinct nodes outside a set. Lists of nodes are added to the set one after another.
use Rattle.std.proofs.Common.{◌≡◌, ◌∙◌, ◌↔◌, ◌⊎◌, ℕ, inl, inr, List, [], ◌∷◌, Bool, true, false, ◌&&◌, not, cond, ltb}
use Rattle.std.proofs.Common.{IsTrue, refl, sym, subst, arith}
use Rattle.std.proofs.lemmas.Bool.{and_parts, and_from, both_ways, not-true, not_from_false, false_from_ne_true}
use Rattle.std.proofs.lemmas.Bool.{ltb-false}
use Rattle.ov_ids.specs.Members.{Has, IsDistinct}
use Rattle.ov_ids.specs.Sets.{has, adding}
use Rattle.ov_ids.proofs.Members.{has_tested}
use Rattle.ov_ids.proofs.Sets.{IsIn-adding}
use Rattle.ov_graph.specs.Links.{LinkGraph}
use Rattle.ov_graph.specs.Joined.{Survives}
use Rattle.ov_graph.specs.Paths.{ShareOnly}
use Rattle.ov_graph.proofs.EvenTest.Walks.{AllSurvive}
use Rattle.ov_cert.specs.Code.Tests.{fresh, entered}

-- the members of a set with x added: x and the earlier members
pub adding_new : (x : ℕ) (t : List ℕ) → Has (adding x t) x
adding_new x [] = inl refl
adding_new x (y ∷ t) =
    elim (ltb x y) as (λ b. ltb x y ≡ b → Has (cond b (x ∷ y ∷ t) (y ∷ cond (ltb y x) (adding x t) t)) x) [
      | true ↦ λ _. inl refl
      | false ↦ λ e. elim (ltb y x) as (λ b. ltb y x ≡ b → Has (y ∷ cond b (adding x t) t) x) [
        | true ↦ λ _. inr (adding_new x t)
        | false ↦ λ f. inl (omega (arith, ltb-false x y e, ltb-false y x f))
      ] refl
    ] refl

pub adding_old : (x : ℕ) (t : List ℕ) (z : ℕ) → Has t z → Has (adding x t) z
adding_old x [] z h = absurd h
adding_old x (y ∷ t) z h =
    elim (ltb x y) as (λ b. Has (cond b (x ∷ y ∷ t) (y ∷ cond (ltb y x) (adding x t) t)) z) [
      | true ↦ inr h
      | false ↦ elim h [
        | inl e ↦ inl e
        | inr k ↦ inr (elim (ltb y x) as (λ b. Has (cond b (adding x t) t) z) [ true ↦ adding_old x t z k | false ↦ k ])
      ]
    ]

pub adding_cases : (x : ℕ) (t : List ℕ) (z : ℕ) → Has (adding x t) z → (z ≡ x) ⊎ Has t z
adding_cases x t z h =
    elim (IsIn-adding x t z ((has_tested (adding x t) z (has (adding x t) z) refl).1 h)) [
      | inl e ↦ inl e
      | inr k ↦ inr ((has_tested t z (has t z) refl).0 k)
    ]

-- the members of a set with a list added: the members of the list and the earlier members
pub entered_old : (used xs : List ℕ) (z : ℕ) → Has used z → Has (entered used xs) z
entered_old used [] z h = h
entered_old used (x ∷ xs) z h = entered_old (adding x used) xs z (adding_old x used z h)

pub entered_new : (used xs : List ℕ) (z : ℕ) → Has xs z → Has (entered used xs) z
entered_new used [] z h = absurd h
entered_new used (x ∷ xs) z h = elim h [
  | inl e ↦ entered_old (adding x used) xs z (subst (Has (adding x used)) e (adding_new x used))
  | inr k ↦ entered_new (adding x used) xs z k
]

pub entered_cases : (used xs : List ℕ) (z : ℕ) → Has (entered used xs) z → Has used z ⊎ Has xs z
entered_cases used [] z h = inl h
entered_cases used (x ∷ xs) z h = elim (entered_cases (adding x used) xs z h) [
  | inl k ↦ elim (adding_cases x used z k) [ inl e ↦ inr (inl (sym e)) | inr m ↦ inl m ]
  | inr k ↦ inr (inr k)
]

-- the test `fresh`: all are nodes outside the set, and no id occurs twice
abbrev pub IsFresh : LinkGraph → List ℕ → List ℕ → Type 0
IsFresh g used xs = AllSurvive g used xs × IsDistinct xs

pub fresh_tested : (g : LinkGraph) (used xs : List ℕ) → IsTrue (fresh g used xs) ↔ IsFresh g used xs
fresh_tested g used [] = ((λ h. ((λ x m. absurd m), tt)), (λ h. refl))
fresh_tested g used (x ∷ xs) = (
  (λ h.
      let p = and_parts (has g.nodes x) (not (has used x) && fresh g (adding x used) xs) h in
      let q = and_parts (not (has used x)) (fresh g (adding x used) xs) p.1 in
      let r = (fresh_tested g (adding x used) xs).0 q.1 in
      let out : ¬ Has used x = λ m. both_ways (has used x) (not-true (has used x) q.0)
      ((has_tested used x (has used x) refl).1 m) in (
        (λ y m. elim m [
          | inl e ↦ subst (Survives g.nodes used) e ((has_tested g.nodes x (has g.nodes x) refl).0 p.0, out)
          | inr k ↦ ((r.0 y k).0, λ u. (r.0 y k).1 (adding_old x used y u))
        ]),
        ((λ m. (r.0 x m).1 (adding_new x used)), r.1),
      )),
  (λ h.
      let here = h.0 x (inl refl) in
      let rest : IsFresh g (adding x used) xs = (
        (λ y m. (
          (h.0 y (inr m)).0,
          λ u. elim (adding_cases x used y u) [ inl e ↦ h.1.0 (subst (Has xs) e m) | inr k ↦ (h.0 y (inr m)).1 k ],
        )),
        h.1.1,
      ) in
      and_from (has g.nodes x) (not (has used x) && fresh g (adding x used) xs)
      ((has_tested g.nodes x (has g.nodes x) refl).1 here.0)
      (and_from (not (has used x)) (fresh g (adding x used) xs)
      (not_from_false (has used x) (false_from_ne_true (has used x)
      (λ t. here.1 ((has_tested used x (has used x) refl).0 t))))
      ((fresh_tested g (adding x used) xs).1 rest))),
)

-- each list satisfies `Is`, and its own nodes are fresh
abbrev pub AllFresh : LinkGraph → (List ℕ → Type 0) → (List ℕ → List ℕ) → List ℕ → List (List ℕ) → Type 0
AllFresh g Is own used ps = (p : List ℕ) → Has ps p → Is p × IsFresh g used (own p)

-- A test takes one list after another and adds the own nodes of each list to the set. It passes exactly if each list
-- satisfies `Is` and any two lists share only nodes of `shared`. Each list must consist of its own nodes and nodes of
-- `shared`.
module _ (g : LinkGraph) (Is : List ℕ → Type 0) (own : List ℕ → List ℕ) (shared : List ℕ)
    (within : (p : List ℕ) (x : ℕ) → Has (own p) x → Has p x)
    (cover : (p : List ℕ) (x : ℕ) → Is p → Has p x → Has shared x ⊎ Has (own p) x) where
  all_more : (used p : List ℕ) (ps : List (List ℕ)) → (Is p × IsFresh g used (own p))
      → AllFresh g Is own (entered used (own p)) ps → AllFresh g Is own used (p ∷ ps)
  all_more used p ps here each q h = elim h [
    | inl e ↦ subst (λ (r : List ℕ). Is r × IsFresh g used (own r)) e here
    | inr k ↦ let r = each q k in (
      r.0,
      (
        (λ x m. ((r.1.0 x m).0, λ u. (r.1.0 x m).1 (entered_old used (own p) x u))),
        r.1.1,
      ),
    )
  ]

  all_rest : (used p : List ℕ) (ps : List (List ℕ)) → ((x : ℕ) → Has shared x → Has used x)
      → AllFresh g Is own used (p ∷ ps) → ShareOnly shared (p ∷ ps) → AllFresh g Is own (entered used (own p)) ps
  all_rest used p ps sub each only q h =
      let r = each q (inr h) in (
        r.0,
        (
          (λ x m. (
            (r.1.0 x m).0,
            λ n. (r.1.0 x m).1 (elim (entered_cases used (own p) x n)
                [ inl u ↦ u | inr o ↦ sub x (only.0 q x h (within p x o) (within q x m)) ]),
          )),
          r.1.1,
        ),
      )

  shares_only : (used p : List ℕ) (ps : List (List ℕ)) → Is p → AllFresh g Is own (entered used (own p)) ps
      → (q : List ℕ) (x : ℕ) → Has ps q → Has p x → Has q x → Has shared x
  shares_only used p ps is each q x h m n =
      let r = each q h in
      elim (cover p x is m) [
        | inl s ↦ s
        | inr a ↦ elim (cover q x r.0 n) [ inl s ↦ s | inr b ↦ absurd ((r.1.0 x b).1 (entered_new used (own p) x a)) ]
      ]

  pub in_turn_tested : (test : List ℕ → List ℕ → Bool) (tests : List ℕ → List (List ℕ) → Bool)
      → ((used : List ℕ) → tests used [] ≡ true) → ((used p : List ℕ) (ps : List (List ℕ))
      → tests used (p ∷ ps) ≡ (test used p && tests (entered used (own p)) ps))
      → ((used p : List ℕ) → IsTrue (test used p) ↔ (Is p × IsFresh g used (own p)))
      → (used : List ℕ) (ps : List (List ℕ)) → ((x : ℕ) → Has shared x → Has used x)
      → IsTrue (tests used ps) ↔ (AllFresh g Is own used ps × ShareOnly shared ps)
  in_turn_tested test tests none more one used [] sub = ((λ h. ((λ p m. absurd m), tt)), (λ h. none used))
  in_turn_tested test tests none more one used (p ∷ ps) sub =
      let after = in_turn_tested test tests none more one (entered used (own p)) ps
      (λ x s. entered_old used (own p) x (sub x s)) in (
        (λ h.
            let r = and_parts (test used p) (tests (entered used (own p)) ps) (sym (more used p ps) ∙ h) in
            let here = (one used p).0 r.0 in
            let rest = after.0 r.1 in
            (all_more used p ps here rest.0, (shares_only used p ps here.0 rest.0, rest.1))),
        (λ h.
            more used p ps ∙ and_from (test used p) (tests (entered used (own p)) ps)
            ((one used p).1 (h.0 p (inl refl))) (after.1 (all_rest used p ps sub h.0 h.1, h.1.1))),
      )
