-- The flaw that the functions find is one that the entry has.
use Rattle.std.proofs.Common.{◌≡◌, ◌≢◌, ◌∙◌, ◌⊎◌, ℕ, suc, ◌+◌, inl, inr, Bool, true, false, ◌&&◌, not, cond, eqb, List}
use Rattle.std.proofs.Common.{[], ◌∷◌, ◌++◌, length, take, slice_get, Option, Some, None, is_none, refl, sym, ap, subst}
use Rattle.std.proofs.Common.{append_assoc, arith}
use Rattle.std.proofs.lemmas.Bool.{both_ways, eqb-true, eq-eqb, and_cases, and_from}
use Rattle.std.proofs.lemmas.Option.{same_Some, none-some}
use Rattle.ov_ids.specs.Members.{Has}
use Rattle.ov_ids.specs.Sets.{has, adding}
use Rattle.ov_ids.proofs.Members.{has_tested, has_or_not, has_append_right}
use Rattle.ov_graph.specs.Links.{LinkGraph, Linked}
use Rattle.ov_graph.specs.Even.{members_below}
use Rattle.ov_graph.specs.Code.Tests.{are_joined}
use Rattle.ov_graph.proofs.EvenTest.Tested.{joined_tested}
use Rattle.ov_cert.specs.declared.cert.PairPaths.{PairPaths}
use Rattle.ov_cert.specs.declared.cert.FanPaths.{FanPaths}
use Rattle.ov_cert.specs.declared.path_and_entry_flaws.PathFlaw.{PathFlaw}
use Rattle.ov_cert.specs.declared.path_and_entry_flaws.PathFlaw.TheVariants.{TooShort, BeginsAt, EndsAt, NoLink, Taken}
use Rattle.ov_cert.specs.declared.path_and_entry_flaws.EntryFlaw.{EntryFlaw}
use Rattle.ov_cert.specs.declared.path_and_entry_flaws.EntryFlaw.TheVariants.{Missing, NamesOthers, Number, Path}
use Rattle.ov_cert.specs.Flaws.{OccursTwice, OneHas, HasPathFlaw, HasPairFlaw, HasFanFlaw}
use Rattle.ov_cert.specs.Code.Tests.{entered, without_last, last_of, inner, steps, is_earlier, is_pair_path}
use Rattle.ov_cert.specs.Code.Tests.{are_pair_paths, is_fan_path, are_fan_paths}
use Rattle.ov_cert.specs.Code.Flaws.{chain_flaw, first_taken, steps_flaw, flaw_by_ends, pair_path_flaw, fan_path_flaw}
use Rattle.ov_cert.specs.Code.Flaws.{path_or_later, pair_paths_flaw, fan_paths_flaw, pair_entry_flaw, fan_entry_flaw}
use Rattle.ov_cert.proofs.PathRules.Ends.{not_false}
use Rattle.ov_cert.proofs.PathRules.Fresh.{adding_cases, entered_cases}
use Rattle.ov_cert.proofs.PathRules.PathTests.{inner_within, steps_within, earlier_tested, pair_paths_tested}
use Rattle.ov_cert.proofs.PathRules.PathTests.{fan_paths_tested}
use Rattle.ov_cert.proofs.PathRules.FlawTests.{pair_path_none, fan_path_none}

-- the flaw is a step of the list between two nodes that are not linked
record NoLinkIn (g : LinkGraph) (p : List ℕ) (f : PathFlaw) : Type 0 where
  pub x : ℕ
  pub y : ℕ
  pub front : List ℕ
  pub back : List ℕ
  pub is : NoLink x y ≡ f
  pub there : p ≡ front ++ x ∷ y ∷ back
  pub apart : ¬ Linked g x y

chain_rule : (g : LinkGraph) (p : List ℕ) (f : PathFlaw) → chain_flaw g p ≡ Some f → NoLinkIn g p f
chain_rule g [] f e = absurd (none-some f e)
chain_rule g (a ∷ []) f e = absurd (none-some f e)
chain_rule g (a ∷ b ∷ rest) f e =
    elim (are_joined g.links a b) as (λ t. are_joined g.links a b ≡ t
    → cond t (chain_flaw g (b ∷ rest)) (Some (NoLink a b)) ≡ Some f → NoLinkIn g (a ∷ b ∷ rest) f) [
      | true ↦ λ _ s. let r = chain_rule g (b ∷ rest) f s in record {
        x = r.x;
        y = r.y;
        front = a ∷ r.front;
        back = r.back;
        is = r.is;
        there = ap (λ t. a ∷ t) r.there;
        apart = r.apart;
      }
      | false ↦ λ off s. record {
        x = a;
        y = b;
        front = [];
        back = rest;
        is = same_Some (NoLink a b) f s;
        there = refl;
        apart = λ l. both_ways (are_joined g.links a b) off
            ((joined_tested g a b (are_joined g.links a b) refl).1 l);
      }
    ] refl e

-- x is in the list, and is no node, or is there before that, or is used
record TakenIn (g : LinkGraph) (used xs : List ℕ) (x : ℕ) : Type 0 where
  pub front : List ℕ
  pub back : List ℕ
  pub there : xs ≡ front ++ x ∷ back
  pub why : (¬ Has g.nodes x) ⊎ (Has front x ⊎ Has used x)

taken_rule : (g : LinkGraph) (used xs : List ℕ) (x : ℕ) → first_taken g used xs ≡ Some x → TakenIn g used xs x
taken_rule g used [] x e = absurd (none-some x e)
taken_rule g used (y ∷ xs) x e =
    let node = has g.nodes y in
    let free = not (has used y) in
    elim (node && free) as (λ t. (node && free) ≡ t → cond t (first_taken g (adding y used) xs) (Some y) ≡ Some x
    → TakenIn g used (y ∷ xs) x) [
      | true ↦ λ _ s. later (taken_rule g (adding y used) xs x s)
      | false ↦ λ off s. subst (TakenIn g used (y ∷ xs)) (same_Some y x s) (here off)
    ] refl e
  where
    later : TakenIn g (adding y used) xs x → TakenIn g used (y ∷ xs) x
    later r = record {
      front = y ∷ r.front;
      back = r.back;
      there = ap (λ t. y ∷ t) r.there;
      why = elim r.why [
        | inl n ↦ inl n
        | inr k ↦ inr (elim k [
          | inl m ↦ inl (inr m)
          | inr u ↦ elim (adding_cases y used x u) [ inl s ↦ inl (inl (sym s)) | inr m ↦ inr m ]
        ])
      ];
    }

    here : (has g.nodes y && not (has used y)) ≡ false → TakenIn g used (y ∷ xs) y
    here off = record {
      front = [];
      back = xs;
      there = refl;
      why = elim (and_cases (has g.nodes y) (not (has used y)) off) [
        | inl n ↦ inl (λ m. both_ways (has g.nodes y) n ((has_tested g.nodes y (has g.nodes y) refl).1 m))
        | inr u ↦ inr (inr ((has_tested used y (has used y) refl).0 (not_false (has used y) u)))
      ];
    }

-- a list is its front followed by its last item
front_then_last : (a : ℕ) (xs : List ℕ) → a ∷ xs ≡ without_last (a ∷ xs) ++ last_of a xs ∷ []
front_then_last a [] = refl
front_then_last a (b ∷ xs) = ap (λ t. a ∷ t) (front_then_last b xs)

-- a flaw of the steps is one of an unlinked step, or of an id that is taken
steps_rule : (g : LinkGraph) (used p own : List ℕ) (f : PathFlaw)
    → steps_flaw (chain_flaw g p) (first_taken g used own) ≡ Some f
    → NoLinkIn g p f ⊎ ((x : ℕ) × (Taken x ≡ f) × TakenIn g used own x)
steps_rule g used p own f e =
    elim (chain_flaw g p) as (λ o. chain_flaw g p ≡ o → steps_flaw o (first_taken g used own) ≡ Some f
    → NoLinkIn g p f ⊎ ((x : ℕ) × (Taken x ≡ f) × TakenIn g used own x)) [
      | Some c ↦ λ is s. inl (chain_rule g p f (is ∙ s))
      | None ↦ λ _ s. elim (first_taken g used own) as (λ o. first_taken g used own ≡ o
          → steps_flaw None o ≡ Some f → NoLinkIn g p f ⊎ ((x : ℕ) × (Taken x ≡ f) × TakenIn g used own x)) [
            | Some x ↦ λ is t. inr (x, same_Some (Taken x) f t, taken_rule g used own x is)
            | None ↦ λ _ t. absurd (none-some f t)
          ] refl s
    ] refl e

-- the flaw of a path from a to z, by its parts
module _ (g : LinkGraph) (from : ℕ) (IsEnd : ℕ → Type 0) (shared : List ℕ) (earlier : List (List ℕ)) where
  abbrev Has_flaw : List ℕ → PathFlaw → Type 0
  Has_flaw p f = HasPathFlaw g from IsEnd shared earlier p f

  ends_rule : (p front rest : List ℕ) (a z : ℕ) (ends : Bool) (o : Option PathFlaw) (f : PathFlaw) → p ≡ a ∷ rest
      → p ≡ front ++ z ∷ [] → (ends ≡ false → ¬ IsEnd z) → (a ≡ from → ends ≡ true → o ≡ Some f → Has_flaw p f)
      → flaw_by_ends (eqb a from) ends a z o ≡ Some f → Has_flaw p f
  ends_rule p front rest a z ends o f begins finishes out more e =
      elim (eqb a from) as (λ t. eqb a from ≡ t → flaw_by_ends t ends a z o ≡ Some f → Has_flaw p f) [
        | true ↦ λ on s. elim ends as (λ t. ends ≡ t → flaw_by_ends true t a z o ≡ Some f → Has_flaw p f) [
          | true ↦ λ at r. more (eqb-true a from on) at r
          | false ↦ λ off r. subst (Has_flaw p) (same_Some (EndsAt z) f r) (front, finishes, out off)
        ] refl s
        | false ↦ λ off s. subst (Has_flaw p) (same_Some (BeginsAt a) f s)
            (rest, begins, λ same. both_ways (eqb a from) off (eq-eqb a from same))
      ] refl e

  link_rule : (p : List ℕ) (f : PathFlaw) → NoLinkIn g p f → Has_flaw p f
  link_rule p f r = subst (Has_flaw p) r.is (r.front, r.back, r.there, r.apart)

  -- an id after the first of a path is taken, if the set has no other nodes than those of `shared` and of earlier paths
  taken_here : (used p front back : List ℕ) (x : ℕ) → p ≡ front ++ x ∷ back
      → (¬ Has g.nodes x) ⊎ (Has front x ⊎ Has used x) → (Has shared x → OccursTwice p x)
      → (Has used x → Has shared x ⊎ OneHas earlier x) → Has_flaw p (Taken x)
  taken_here used p front back x there why ends cover = (
    subst (λ t. Has t x) (sym there) (has_append_right front (x ∷ back) x (inl refl)),
    elim why [
      | inl n ↦ inl n
      | inr k ↦ inr (elim k [
        | inl m ↦ inl (front, back, there, m)
        | inr u ↦ elim (has_or_not shared x) [
          | inl s ↦ inl (ends s)
          | inr n ↦ elim (cover u) [ inl s ↦ absurd (n s) | inr o ↦ inr (n, o) ]
        ]
      ])
    ],
  )

-- an inner node of a path that equals one of its two ends is on the path twice
pair_twice : (i j a z x : ℕ) (p inside front back : List ℕ) → p ≡ a ∷ (inside ++ z ∷ [])
    → inside ≡ front ++ x ∷ back → p ≡ (a ∷ front) ++ x ∷ (back ++ z ∷ []) → a ≡ i → z ≡ j → Has (i ∷ j ∷ []) x
    → OccursTwice p x
pair_twice i j a z x p inside front back whole there at begins finishes h = elim h [
  | inl s ↦ (a ∷ front, back ++ z ∷ [], at, inl (begins ∙ s))
  | inr k ↦ elim k [
    | inl s ↦ (
      a ∷ inside,
      [],
      subst (λ t. p ≡ a ∷ (inside ++ t ∷ [])) (finishes ∙ s) whole,
      inr (subst (λ t. Has t x) (sym there) (has_append_right front (x ∷ back) x (inl refl))),
    )
    | inr m ↦ absurd m
  ]
]

why_inside : {P Q : Type 0} (a x : ℕ) (front : List ℕ) → P ⊎ (Has front x ⊎ Q) → P ⊎ (Has (a ∷ front) x ⊎ Q)
why_inside a x front w = elim w [
  | inl n ↦ inl n
  | inr k ↦ inr (elim k [ inl m ↦ inl (inr m) | inr u ↦ inr u ])
]

-- the flaw of a path that should lead from i to j
pub pair_path_rule : (g : LinkGraph) (used : List ℕ) (i j : ℕ) (earlier : List (List ℕ)) (p : List ℕ) (f : PathFlaw)
    → ((x : ℕ) → Has used x → Has (i ∷ j ∷ []) x ⊎ OneHas earlier x) → pair_path_flaw g used i j p ≡ Some f
    → HasPathFlaw g i (λ x. x ≡ j) (i ∷ j ∷ []) earlier p f
pair_path_rule g used i j earlier [] f cover e = subst (HasPathFlaw g i (λ x. x ≡ j) (i ∷ j ∷ []) earlier [])
    (same_Some TooShort f e) (omega arith)
pair_path_rule g used i j earlier (a ∷ []) f cover e = subst
    (HasPathFlaw g i (λ x. x ≡ j) (i ∷ j ∷ []) earlier (a ∷ [])) (same_Some TooShort f e) (omega arith)
pair_path_rule g used i j earlier (a ∷ b ∷ rest) f cover e =
    let p = a ∷ b ∷ rest in
    let z = last_of b rest in
    let inside = without_last (b ∷ rest) in
    let IsEnd : ℕ → Type 0 = λ x. x ≡ j in
    let shared = i ∷ j ∷ [] in
    let whole : p ≡ a ∷ (inside ++ z ∷ []) = ap (λ t. a ∷ t) (front_then_last b rest) in
    ends_rule g i IsEnd shared earlier p (a ∷ inside) (b ∷ rest) a z (eqb z j)
    (steps_flaw (chain_flaw g p) (first_taken g used inside)) f refl whole
    (λ off same. both_ways (eqb z j) off (eq-eqb z j same))
    (λ begins ends o. elim (steps_rule g used p inside f o) [
      | inl l ↦ link_rule g i IsEnd shared earlier p f l
      | inr t ↦
          let x = t.0 in
          let k = t.2 in
          let at : p ≡ (a ∷ k.front) ++ x ∷ (k.back ++ z ∷ []) = whole ∙ ap (λ t. a ∷ (t ++ z ∷ [])) k.there
          ∙ ap (λ t. a ∷ t) (append_assoc k.front (x ∷ k.back) (z ∷ [])) in
          subst (HasPathFlaw g i IsEnd shared earlier p) t.1
          (taken_here g i IsEnd shared earlier used p (a ∷ k.front) (k.back ++ z ∷ []) x at
          (why_inside a x k.front k.why)
          (pair_twice i j a z x p inside k.front k.back whole k.there at begins (eqb-true z j ends)) (cover x))
    ]) e

-- the flaw of a path that should lead from j to a member below j
pub fan_path_rule : (g : LinkGraph) (q : List ℕ) → ((x : ℕ) → Has q x → Has g.nodes x) → (used : List ℕ) (j : ℕ)
    (earlier : List (List ℕ)) (p : List ℕ) (f : PathFlaw)
    → ((x : ℕ) → Has used x → Has (j ∷ []) x ⊎ OneHas earlier x) → fan_path_flaw g q used j p ≡ Some f
    → HasPathFlaw g j (Has (members_below q j)) (j ∷ []) earlier p f
fan_path_rule g q members used j earlier [] f cover e = subst
    (HasPathFlaw g j (Has (members_below q j)) (j ∷ []) earlier []) (same_Some TooShort f e) (omega arith)
fan_path_rule g q members used j earlier (a ∷ []) f cover e = subst
    (HasPathFlaw g j (Has (members_below q j)) (j ∷ []) earlier (a ∷ [])) (same_Some TooShort f e) (omega arith)
fan_path_rule g q members used j earlier (a ∷ b ∷ rest) f cover e =
    let p = a ∷ b ∷ rest in
    let z = last_of b rest in
    let inside = without_last (b ∷ rest) in
    let IsEnd : ℕ → Type 0 = Has (members_below q j) in
    let shared = j ∷ [] in
    let whole : p ≡ a ∷ (inside ++ z ∷ []) = ap (λ t. a ∷ t) (front_then_last b rest) in
    ends_rule g j IsEnd shared earlier p (a ∷ inside) (b ∷ rest) a z (is_earlier q j z)
    (steps_flaw (chain_flaw g p) (first_taken g used (b ∷ rest))) f refl whole
    (λ off below. both_ways (is_earlier q j z) off ((earlier_tested g q members j z).1 below))
    (λ begins ends o. elim (steps_rule g used p (b ∷ rest) f o) [
      | inl l ↦ link_rule g j IsEnd shared earlier p f l
      | inr t ↦
          let x = t.0 in
          let k = t.2 in
          let at : p ≡ (a ∷ k.front) ++ x ∷ k.back = ap (λ t. a ∷ t) k.there in
          subst (HasPathFlaw g j IsEnd shared earlier p) t.1
          (taken_here g j IsEnd shared earlier used p (a ∷ k.front) k.back x at (why_inside a x k.front k.why)
          (λ h. elim h [ inl s ↦ (a ∷ k.front, k.back, at, inl (begins ∙ s)) | inr m ↦ absurd m ]) (cover x))
    ]) e

-- the used nodes after these paths, each of which adds its own nodes
abbrev after : (List ℕ → List ℕ) → List ℕ → List (List ℕ) → List ℕ
after own used [] = used
after own used (p ∷ ps) = after own (entered used (own p)) ps

after_cases : (own : List ℕ → List ℕ) (used : List ℕ) (ps : List (List ℕ)) (x : ℕ) → Has (after own used ps) x
    → Has used x ⊎ ((r : List ℕ) × Has ps r × Has (own r) x)
after_cases own used [] x h = inl h
after_cases own used (p ∷ ps) x h = elim (after_cases own (entered used (own p)) ps x h) [
  | inl u ↦ elim (entered_cases used (own p) x u) [ inl m ↦ inl m | inr m ↦ inr (p, inl refl, m) ]
  | inr r ↦ inr (r.0, inr r.1, r.2)
]

-- the flaw is that of the path at this place, and the paths before it are right
record FoundAt (one : List ℕ → List ℕ → Option PathFlaw) (own : List ℕ → List ℕ)
    (tests : List ℕ → List (List ℕ) → Bool) (used : List ℕ) (n : ℕ) (ps : List (List ℕ)) (f : EntryFlaw) : Type 0 where
  pub at : ℕ
  pub flaw : PathFlaw
  pub path : List ℕ
  pub is : Path (n + at) flaw ≡ f
  pub there : slice_get ps at ≡ Some path
  pub count : length (take at ps) ≡ at
  pub before : tests used (take at ps) ≡ true
  pub says : one (after own used (take at ps)) path ≡ Some flaw

-- a function that finds the first flaw of paths; each path adds its own nodes to the set for the later ones
module _ (one : List ℕ → List ℕ → Option PathFlaw) (own : List ℕ → List ℕ) (test : List ℕ → List ℕ → Bool)
    (tests : List ℕ → List (List ℕ) → Bool) (paths : List ℕ → ℕ → List (List ℕ) → Option EntryFlaw)
    (right : (used p : List ℕ) → is_none (one used p) ≡ test used p)
    (tests_none : (used : List ℕ) → tests used [] ≡ true)
    (tests_more : (used p : List ℕ) (ps : List (List ℕ))
    → tests used (p ∷ ps) ≡ (test used p && tests (entered used (own p)) ps))
    (none : (used : List ℕ) (n : ℕ) → paths used n [] ≡ None)
    (more : (used : List ℕ) (n : ℕ) (p : List ℕ) (ps : List (List ℕ))
    → paths used n (p ∷ ps) ≡ path_or_later n (one used p) (paths (entered used (own p)) (suc n) ps)) where
  found : (used : List ℕ) (n : ℕ) (ps : List (List ℕ)) (f : EntryFlaw) → paths used n ps ≡ Some f
      → FoundAt one own tests used n ps f
  found used n [] f e = absurd (none-some f (sym (none used n) ∙ e))
  found used n (p ∷ ps) f e =
      elim (one used p) as (λ o. one used p ≡ o
      → path_or_later n o (paths (entered used (own p)) (suc n) ps) ≡ Some f
      → FoundAt one own tests used n (p ∷ ps) f) [
        | Some c ↦ λ is s. let z : n + 0 ≡ n = omega arith in record {
          at = 0;
          flaw = c;
          path = p;
          is = ap (λ (m : ℕ). Path m c) z ∙ same_Some (Path n c) f s;
          there = refl;
          count = refl;
          before = tests_none used;
          says = is;
        }
        | None ↦ λ is s.
            let r = found (entered used (own p)) (suc n) ps f s in
            let z : n + suc r.at ≡ suc n + r.at = omega arith in
            record {
              at = suc r.at;
              flaw = r.flaw;
              path = r.path;
              is = ap (λ (m : ℕ). Path m r.flaw) z ∙ r.is;
              there = r.there;
              count = ap suc r.count;
              before = tests_more used p (take r.at ps) ∙ and_from (test used p)
                  (tests (entered used (own p)) (take r.at ps)) (sym (right used p) ∙ ap is_none is) r.before;
              says = r.says;
            }
      ] refl (sym (more used n p ps) ∙ e)

-- the flaw of a pair's entry
pub pair_entry_rule : (g : LinkGraph) (k i j : ℕ) → Has g.nodes i → Has g.nodes j → i ≢ j → (o : Option PairPaths)
    (f : EntryFlaw) → pair_entry_flaw g k (i, j) o ≡ Some f → HasPairFlaw g k i j o f
pair_entry_rule g k i j ni nj differ None f e = subst (HasPairFlaw g k i j None) (same_Some Missing f e) tt
pair_entry_rule g k i j ni nj differ (Some e) f s =
    let Flaw = HasPairFlaw g k i j (Some e) in
    let ends = adding j (i ∷ []) in
    let after_number = pair_paths_flaw g ends i j 0 e.paths in
    let after_j = cond (eqb (length e.paths) k) after_number (Some Number) in
    let after_i = cond (eqb e.j j) after_j (Some NamesOthers) in
    elim (eqb e.i i) as (λ t. eqb e.i i ≡ t → cond t after_i (Some NamesOthers) ≡ Some f → Flaw f) [
      | false ↦ λ off r. subst Flaw (same_Some NamesOthers f r) (λ h. both_ways (eqb e.i i) off (eq-eqb e.i i h.0))
      | true ↦ λ on_i r. elim (eqb e.j j) as (λ t. eqb e.j j ≡ t → cond t after_j (Some NamesOthers) ≡ Some f
          → Flaw f) [
            | false ↦ λ no r. subst Flaw (same_Some NamesOthers f r) (λ h. both_ways (eqb e.j j) no (eq-eqb e.j j h.1))
            | true ↦ λ on_j r. elim (eqb (length e.paths) k) as (λ t. eqb (length e.paths) k ≡ t
                → cond t after_number (Some Number) ≡ Some f → Flaw f) [
                  | false ↦ λ off r. subst Flaw (same_Some Number f r) (
                    eqb-true e.i i on_i,
                    eqb-true e.j j on_j,
                    λ h. both_ways (eqb (length e.paths) k) off (eq-eqb (length e.paths) k h),
                  )
                  | true ↦ λ on r. named (eqb-true e.i i on_i) (eqb-true e.j j on_j) (eqb-true (length e.paths) k on) r
                ] refl r
          ] refl r
    ] refl s
  where
    named : e.i ≡ i → e.j ≡ j → length e.paths ≡ k → pair_paths_flaw g (adding j (i ∷ [])) i j 0 e.paths ≡ Some f
        → HasPairFlaw g k i j (Some e) f
    named ei ej count r =
        let ends = adding j (i ∷ []) in
        let m = found (λ used p. pair_path_flaw g used i j p) inner (λ used p. is_pair_path g used i j p)
        (λ used ps. are_pair_paths g used i j ps) (λ used n ps. pair_paths_flaw g used i j n ps)
        (λ used p. pair_path_none g used i j p) (λ used. refl) (λ used p ps. refl) (λ used n. refl)
        (λ used n p ps. refl) ends 0 e.paths f r in
        let z : m.at ≡ 0 + m.at = omega arith in
        let before = take m.at e.paths in
        let cover : (x : ℕ) → Has (after inner ends before) x → Has (i ∷ j ∷ []) x ⊎ OneHas before x =
        λ x h. elim (after_cases inner ends before x h) [
          | inl u ↦ elim (adding_cases j (i ∷ []) x u) [
            | inl s ↦ inl (inr (inl (sym s)))
            | inr k ↦ elim k [ inl s ↦ inl (inl s) | inr n ↦ absurd n ]
          ]
          | inr r ↦ inr (r.0, r.1, inner_within g i j differ r.0 x r.2)
        ] in
        subst (HasPairFlaw g k i j (Some e)) (ap (λ (t : ℕ). Path t m.flaw) z ∙ m.is) (
          ei,
          ej,
          count,
          (pair_paths_tested g i j differ m.at before ni nj).0 (m.count, m.before),
          (m.path, m.there, pair_path_rule g (after inner ends before) i j before m.path m.flaw cover m.says),
        )

-- the flaw of a fan's entry
pub fan_entry_rule : (g : LinkGraph) (q : List ℕ) → ((x : ℕ) → Has q x → Has g.nodes x) → (k j : ℕ) → Has g.nodes j
    → (o : Option FanPaths) (f : EntryFlaw) → fan_entry_flaw g q k j o ≡ Some f → HasFanFlaw g q k j o f
fan_entry_rule g q members k j nj None f e = subst (HasFanFlaw g q k j None) (same_Some Missing f e) tt
fan_entry_rule g q members k j nj (Some e) f s =
    let Flaw = HasFanFlaw g q k j (Some e) in
    let after_number = fan_paths_flaw g q (j ∷ []) j 0 e.paths in
    let after_j = cond (eqb (length e.paths) k) after_number (Some Number) in
    elim (eqb e.j j) as (λ t. eqb e.j j ≡ t → cond t after_j (Some NamesOthers) ≡ Some f → Flaw f) [
      | false ↦ λ off r. subst Flaw (same_Some NamesOthers f r) (λ h. both_ways (eqb e.j j) off (eq-eqb e.j j h))
      | true ↦ λ on_j r. elim (eqb (length e.paths) k) as (λ t. eqb (length e.paths) k ≡ t
          → cond t after_number (Some Number) ≡ Some f → Flaw f) [
            | false ↦ λ off r. subst Flaw (same_Some Number f r)
                (eqb-true e.j j on_j, λ h. both_ways (eqb (length e.paths) k) off (eq-eqb (length e.paths) k h))
            | true ↦ λ on r. named (eqb-true e.j j on_j) (eqb-true (length e.paths) k on) r
          ] refl r
    ] refl s
  where
    named : e.j ≡ j → length e.paths ≡ k → fan_paths_flaw g q (j ∷ []) j 0 e.paths ≡ Some f
        → HasFanFlaw g q k j (Some e) f
    named ej count r =
        let m = found (λ used p. fan_path_flaw g q used j p) steps (λ used p. is_fan_path g q used j p)
        (λ used ps. are_fan_paths g q used j ps) (λ used n ps. fan_paths_flaw g q used j n ps)
        (λ used p. fan_path_none g q used j p) (λ used. refl) (λ used p ps. refl) (λ used n. refl)
        (λ used n p ps. refl) (j ∷ []) 0 e.paths f r in
        let z : m.at ≡ 0 + m.at = omega arith in
        let before = take m.at e.paths in
        let cover : (x : ℕ) → Has (after steps (j ∷ []) before) x → Has (j ∷ []) x ⊎ OneHas before x =
        λ x h. elim (after_cases steps (j ∷ []) before x h) [
          | inl u ↦ inl u
          | inr r ↦ inr (r.0, r.1, steps_within g q members j r.0 x r.2)
        ] in
        subst (HasFanFlaw g q k j (Some e)) (ap (λ (t : ℕ). Path t m.flaw) z ∙ m.is) (
          ej,
          count,
          (fan_paths_tested g q members j m.at before nj).0 (m.count, m.before),
          (
            m.path,
            m.there,
            fan_path_rule g q members (after steps (j ∷ []) before) j before m.path m.flaw cover m.says,
          ),
        )
