-- The first item that fails a test.
use Rattle.std.proofs.Common.{◌≡◌, ◌∙◌, ◌↔◌, ◌⊎◌, ℕ, zero, suc, ◌+◌, ◌<◌, inl, inr, List, [], ◌∷◌, ◌++◌, length}
use Rattle.std.proofs.Common.{slice_get, Bool, true, false, cond, IsTrue, Option, Some, None, refl, sym, ap, arith}
use Rattle.std.proofs.lemmas.Bool.{both_ways}
use Rattle.ov_ids.specs.Members.{Has}
use Rattle.ov_graph.specs.Links.{LinkGraph}
use Rattle.ov_cert.specs.declared.cert.PairPaths.{PairPaths}
use Rattle.ov_cert.specs.declared.cert.FanPaths.{FanPaths}
use Rattle.ov_cert.specs.declared.fault.CheckFault.{CheckFault}
use Rattle.ov_cert.specs.declared.fault.CheckFault.TheVariants.{Pair, Fan}
use Rattle.ov_cert.specs.Verdict.{AllHold, IsFirstAtFault}
use Rattle.ov_cert.specs.Code.Tests.{is_pair_entry, is_fan_entry, pairs_fault, fans_fault, first}

pub first_cond : (b : Bool) (x later : Option CheckFault) (e : CheckFault)
    → first (cond b x (Some e)) later ≡ cond b (first x later) (Some e)
first_cond true x later e = refl
first_cond false x later e = refl

-- each place within a list has an item
pub has_found : {X : Type 0} (xs : List X) (p : ℕ) (x : X) → slice_get xs p ≡ Some x → Has xs x
has_found [] p x e = absurd cc
has_found (y ∷ ys) zero x e = inl (let f : Some y ≡ Some x = e in cc)
has_found (y ∷ ys) (suc p) x e = inr (has_found ys p x e)

pub not_yes : (b : Bool) → ¬ (b ≡ true) → b ≡ false
not_yes true n = absurd (n refl)
not_yes false n = refl

-- `find` tests the items from a place on, and its result is the fault of the first item that fails
pub record Finds {X : Type 0} (test : ℕ → X → Bool) (fault : X → CheckFault) (find : ℕ → List X → Option CheckFault) :
    Type 0 where
  pub none : (place : ℕ) → find place [] ≡ None
  pub next : (place : ℕ) (x : X) (xs : List X) → find place (x ∷ xs) ≡ cond (test place x) (find (suc place) xs)
      (Some (fault x))

module _ {X : Type 0} (test : ℕ → X → Bool) (fault : X → CheckFault) (find : ℕ → List X → Option CheckFault)
    (finds : Finds test fault find) where
  pub found_append : (place : ℕ) (xs ys : List X) → find place (xs ++ ys) ≡ first (find place xs)
      (find (place + length xs) ys)
  found_append place [] ys =
      let e : place + length {A = X} [] ≡ place = omega arith in
      rw (finds.none place, e) refl
  found_append place (x ∷ xs) ys =
      let e : place + suc (length xs) ≡ suc place + length xs = omega arith in
      let later = find (suc place + length xs) ys in
      finds.next place x (xs ++ ys) ∙ ap (λ o. cond (test place x) o (Some (fault x))) (found_append (suc place) xs ys)
      ∙ sym (first_cond (test place x) (find (suc place) xs) later (fault x))
      ∙ ap (λ o. first o later) (sym (finds.next place x xs))
      ∙ ap (λ n. first (find place (x ∷ xs)) (find n ys)) (sym e)

  passed : (place : ℕ) (x : X) (xs : List X) (o : Option CheckFault) → test place x ≡ true → find (suc place) xs ≡ o
      → find place (x ∷ xs) ≡ o
  passed place x xs o t e = finds.next place x xs ∙ ap (λ b. cond b (find (suc place) xs) (Some (fault x))) t ∙ e

  failed : (place : ℕ) (x : X) (xs : List X) → test place x ≡ false → find place (x ∷ xs) ≡ Some (fault x)
  failed place x xs f = finds.next place x xs ∙ ap (λ b. cond b (find (suc place) xs) (Some (fault x))) f

  moved : (place p : ℕ) (x : X) (b : Bool) → test (suc place + p) x ≡ b → test (place + suc p) x ≡ b
  moved place p x b t = let e : place + suc p ≡ suc place + p = omega arith in ap (λ n. test n x) e ∙ t

  moved_back : (place p : ℕ) (x : X) (b : Bool) → test (place + suc p) x ≡ b → test (suc place + p) x ≡ b
  moved_back place p x b t = let e : suc place + p ≡ place + suc p = omega arith in ap (λ n. test n x) e ∙ t

  here : (place : ℕ) (x : X) (b : Bool) → test (place + 0) x ≡ b → test place x ≡ b
  here place x b t = let e : place ≡ place + 0 = omega arith in ap (λ n. test n x) e ∙ t

  there : (place : ℕ) (x : X) (b : Bool) → test place x ≡ b → test (place + 0) x ≡ b
  there place x b t = let e : place + 0 ≡ place = omega arith in ap (λ n. test n x) e ∙ t

  -- every item of the list passes; the first item has this place
  AllPass : ℕ → List X → Type 0
  AllPass place xs = (p : ℕ) (x : X) → slice_get xs p ≡ Some x → test (place + p) x ≡ true

  all_found : (place : ℕ) (xs : List X) → AllPass place xs → find place xs ≡ None
  unfolding AllPass
  all_found place [] all = finds.none place
  all_found place (x ∷ xs) all =
      passed place x xs None (here place x true (all 0 x refl))
      (all_found (suc place) xs (λ p y e. moved_back place p y true (all (suc p) y e)))

  one_found : (place : ℕ) (xs : List X) (p : ℕ) (x : X) → slice_get xs p ≡ Some x → test (place + p) x ≡ false
      → ((r : ℕ) (y : X) → r < p → slice_get xs r ≡ Some y → test (place + r) y ≡ true) → find place xs ≡ Some (fault x)
  one_found place [] p x e f before = absurd cc
  one_found place (y ∷ ys) zero x e f before =
      let s : Some y ≡ Some x = e in
      let w : y ≡ x = cc in
      failed place y ys (ap (test place) w ∙ here place x false f) ∙ ap (λ z. Some (fault z)) w
  one_found place (y ∷ ys) (suc p) x e f before =
      passed place y ys (Some (fault x)) (here place y true (before 0 y (omega arith) refl))
      (one_found (suc place) ys p x e (moved_back place p x false f)
      (λ r z l k. moved_back place r z true (before (suc r) z (omega (arith, l)) k)))

  -- the first item that fails
  record FirstFail (place : ℕ) (xs : List X) : Type 0 where
    at : ℕ
    item : X
    there_is : slice_get xs at ≡ Some item
    fails : test (place + at) item ≡ false
    before : (r : ℕ) (y : X) → r < at → slice_get xs r ≡ Some y → test (place + r) y ≡ true

  all_more : (place : ℕ) (x : X) (xs : List X) → test place x ≡ true → AllPass (suc place) xs → AllPass place (x ∷ xs)
  unfolding AllPass
  all_more place x xs t all zero y e = let s : Some x ≡ Some y = e in let w : x ≡ y = cc in there place y true
      (ap (test place) (sym w) ∙ t)
  all_more place x xs t all (suc p) y e = moved place p y true (all p y e)

  fail_more : (place : ℕ) (x : X) (xs : List X) → test place x ≡ true → FirstFail (suc place) xs
      → FirstFail place (x ∷ xs)
  fail_more place x xs t f = record {
    at = suc f.at;
    item = f.item;
    there_is = f.there_is;
    fails = moved place f.at f.item false f.fails;
    before = before;
  }
    where
      before : (r : ℕ) (y : X) → r < suc f.at → slice_get (x ∷ xs) r ≡ Some y → test (place + r) y ≡ true
      before zero y l e = let s : Some x ≡ Some y = e in let w : x ≡ y = cc in there place y true
          (ap (test place) (sym w) ∙ t)
      before (suc r) y l e = moved place r y true (f.before r y (omega (arith, l)) e)

  looked : (place : ℕ) (xs : List X) → AllPass place xs ⊎ FirstFail place xs
  unfolding AllPass
  looked place [] = inl (λ p x e. absurd cc)
  looked place (x ∷ xs) =
      elim (test place x) as (λ b. test place x ≡ b → AllPass place (x ∷ xs) ⊎ FirstFail place (x ∷ xs)) [
        | true ↦ λ t. elim (looked (suc place) xs) [
          | inl all ↦ inl (all_more place x xs t all)
          | inr f ↦ inr
              (fail_more place x xs t f)
        ]
        | false ↦ λ f. inr (record {
          at = 0;
          item = x;
          there_is = refl;
          fails = there place x false f;
          before =
              λ r y l e. absurd (omega (arith, l));
        })
      ] refl

  module _ (Holds : ℕ → X → Type 0) (xs : List X) (tested : (at : ℕ) (x : X) → Has xs x
      → IsTrue (test at x) ↔ Holds at x) where
    holds_at : (p : ℕ) (x : X) → slice_get xs p ≡ Some x → test (0 + p) x ≡ true → Holds p x
    holds_at p x e t = let z : 0 + p ≡ p = omega arith in (tested p x (has_found xs p x e)).0
        (ap (λ n. test n x) (sym z) ∙ t)

    passes_at : (p : ℕ) (x : X) → slice_get xs p ≡ Some x → Holds p x → test (0 + p) x ≡ true
    passes_at p x e h = let z : 0 + p ≡ p = omega arith in ap (λ n. test n x) z ∙ (tested p x (has_found xs p x e)).1 h

    pub none_when : AllHold Holds xs → find 0 xs ≡ None
    unfolding AllPass
    none_when all = all_found 0 xs (λ p x e. passes_at p x e (all p x e))

    pub some_when : (x : X) → IsFirstAtFault Holds xs x → find 0 xs ≡ Some (fault x)
    some_when x f =
        one_found 0 xs f.place x f.there (not_yes (test (0 + f.place) x) (λ t. f.fails (holds_at f.place x f.there t)))
        (λ r y l e. passes_at r y e (f.before r y l e))

    pub found : AllHold Holds xs ⊎ ((x : X) × IsFirstAtFault Holds xs x)
    unfolding AllPass
    found = elim (looked 0 xs) [
      | inl all ↦ inl (λ p x e. holds_at p x e (all p x e))
      | inr f ↦ inr (
        f.item,
        record {
          place = f.at;
          there = f.there_is;
          fails = λ h. both_ways (test (0 + f.at) f.item) f.fails (passes_at f.at f.item f.there_is h);
          before = λ r y l e. holds_at r y e (f.before r y l e);
        },
      )
    ]

pub pairs_found : (g : LinkGraph) (k : ℕ) (entries : List PairPaths)
    → Finds (λ place p. is_pair_entry g k p (slice_get entries place)) (λ p. Pair p.0 p.1) (pairs_fault g k entries)
pairs_found g k entries = record { none = λ place. refl; next = λ place p ps. refl }

pub fans_found : (g : LinkGraph) (q : List ℕ) (k : ℕ) (entries : List FanPaths)
    → Finds (λ place j. is_fan_entry g q k j (slice_get entries place)) (λ j. Fan j) (fans_fault g q k entries)
fans_found g q k entries = record { none = λ place. refl; next = λ place j js. refl }
