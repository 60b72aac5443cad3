-- The parts of all views, where one view changes, is cut in two or joins another.
use Rattle.std.proofs.Common.{◌≡◌, ℕ, zero, suc, ◌+◌, ◌≤◌, List, [], ◌∷◌, ◌++◌, length, set, take, drop, refl, sym}
use Rattle.std.proofs.Common.{ap, subst, ⊎_elim, arith}
use mathlib.Core.Option.{some, some-injective, some-ne-none}
use lib.ListN.{get_elem?}
use Rattle.atomic_table.proofs.Lists.{at_set}
use Rattle.ov_snap.specs.Parts.{Each, total}
use Rattle.ov_hall.specs.Code.Rules.{flat}

-- the same elements, in another order
pub record Shuffled {A : Type 0} (xs ys : List A) : Type 1 where
  pub sums : (f : A → ℕ) → total f ys ≡ total f xs
  pub each : (P : A → Type 0) → Each P xs → Each P ys

module _ {A : Type 0} where
  pub total-append : (f : A → ℕ) (xs ys : List A) → total f (xs ++ ys) ≡ total f xs + total f ys
  total-append f [] ys = omega arith
  total-append f (x ∷ xs) ys = omega (arith, total-append f xs ys)

  pub each-append : (P : A → Type 0) (xs ys : List A) → Each P xs → Each P ys → Each P (xs ++ ys)
  each-append P [] ys a b = b
  each-append P (x ∷ xs) ys a b = (a.0, each-append P xs ys a.1 b)

  pub each-front : (P : A → Type 0) (xs ys : List A) → Each P (xs ++ ys) → Each P xs
  each-front P [] ys a = tt
  each-front P (x ∷ xs) ys a = (a.0, each-front P xs ys a.1)

  pub each-back : (P : A → Type 0) (xs ys : List A) → Each P (xs ++ ys) → Each P ys
  each-back P [] ys a = a
  each-back P (x ∷ xs) ys a = each-back P xs ys a.1

  pub each-map : (P Q : A → Type 0) (xs : List A) → ((x : A) → P x → Q x) → Each P xs → Each Q xs
  each-map P Q [] h a = tt
  each-map P Q (x ∷ xs) h a = (h x a.0, each-map P Q xs h a.1)

  -- each element, with what it weighs at most
  pub members : (P Q : A → Type 0) (xs : List A) → Each P xs → ((a : A) → P a → ((f : A → ℕ) → f a ≤ total f xs) → Q a)
      → Each Q xs
  members P Q [] a h = tt
  members P Q (x ∷ xs) a h = (
    h x a.0 (λ f. omega arith),
    members P Q xs a.1 (λ y p few. h y p (λ f. let s = few f in
        omega (arith, s))),
  )

  pub ones : (xs : List A) → total (λ _. 1) xs ≡ length xs
  ones [] = refl
  ones (x ∷ xs) = omega (arith, ones xs)

  pub one_less : (f : A → ℕ) (xs : List A) → total f (drop 1 xs) + total f (take 1 xs) ≡ total f xs
  one_less f [] = refl
  one_less f (x ∷ xs) = omega arith

  pub each-drop : (P : A → Type 0) (xs : List A) → Each P xs → Each P (drop 1 xs)
  each-drop P [] a = tt
  each-drop P (x ∷ xs) a = a.1

  pub each-take : (P : A → Type 0) (xs : List A) → Each P xs → Each P (take 1 xs)
  each-take P [] a = tt
  each-take P (x ∷ xs) a = (a.0, tt)

  -- a list with the same elements as a list of one
  pub alone : (xs ys : List A) (a : A) → Shuffled xs ys → xs ≡ a ∷ [] → ys ≡ a ∷ []
  alone xs ys a s is = go ys (let n = s.sums (λ _. 1) in let one = ap (total (λ (_ : A). 1)) is in
      omega (arith, ones ys)) (s.each (λ x. x ≡ a) (subst (Each (λ x. x ≡ a)) (sym is) (refl, tt)))
    where
      go : (ys : List A) → length ys ≡ 1 → Each (λ x. x ≡ a) ys → ys ≡ a ∷ []
      go [] n e = absurd (omega arith)
      go (y ∷ []) n e = ap (λ z. z ∷ []) e.0
      go (y ∷ z ∷ zs) n e = absurd (omega arith)

module _ {V A : Type 0} (part : V → List A) where
  abbrev all : List V → List A
  all vs = flat part vs

  pub flat-set : (f : A → ℕ) (vs : List V) (i : ℕ) (v w : V) → get_elem? vs i ≡ some v
      → total f (flat part (set vs i w)) + total f (part v) ≡ total f (flat part vs) + total f (part w)
  flat-set f [] i v w e = absurd (some-ne-none v (sym e))
  flat-set f (x ∷ xs) zero v w e =
      let is : total f (part x) ≡ total f (part v) = ap (λ (u : V). total f (part u)) (some-injective x v e) in
      omega (arith, total-append f (part w) (flat part xs), total-append f (part x) (flat part xs), is)
  flat-set f (x ∷ xs) (suc i) v w e =
      omega (
        arith,
        total-append f (part x) (flat part (set xs i w)),
        total-append f (part x) (flat part xs),
        flat-set f
            xs i v w e,
      )

  pub flat-le : (f : A → ℕ) (vs : List V) (i : ℕ) (v : V) → get_elem? vs i ≡ some v
      → total f (part v) ≤ total f (flat part vs)
  flat-le f [] i v e = absurd (some-ne-none v (sym e))
  flat-le f (x ∷ xs) zero v e =
      let is : total f (part x) ≡ total f (part v) = ap (λ (u : V). total f (part u)) (some-injective x v e) in
      omega (arith, total-append f (part x) (flat part xs), is)
  flat-le f (x ∷ xs) (suc i) v e = omega (arith, total-append f (part x) (flat part xs), flat-le f xs i v e)

  pub flat-set-each : (P : A → Type 0) (vs : List V) (i : ℕ) (w : V) → Each P (flat part vs) → Each P (part w)
      → Each P (flat part (set vs i w))
  flat-set-each P [] i w a b = tt
  flat-set-each P (x ∷ xs) zero w a b = each-append P (part w) (flat part xs) b (each-back P (part x) (flat part xs) a)
  flat-set-each P (x ∷ xs) (suc i) w a b = each-append P (part x) (flat part (set xs i w))
      (each-front P (part x) (flat part xs) a) (flat-set-each P xs i w (each-back P (part x) (flat part xs) a) b)

  pub flat-at : (P : A → Type 0) (vs : List V) (i : ℕ) (v : V) → get_elem? vs i ≡ some v → Each P (flat part vs)
      → Each P (part v)
  flat-at P [] i v e a = absurd (some-ne-none v (sym e))
  flat-at P (x ∷ xs) zero v e a = subst (λ (u : V). Each P (part u)) (some-injective x v e)
      (each-front P (part x) (flat part xs) a)
  flat-at P (x ∷ xs) (suc i) v e a = flat-at P xs i v e (each-back P (part x) (flat part xs) a)

  -- the other views' parts, with what they weigh beside this view's
  pub flat-rest : (P Q : A → Type 0) (vs : List V) (i : ℕ) (v u : V) → get_elem? vs i ≡ some v → Each P (flat part vs)
      → ((a : A) → P a → ((f : A → ℕ) → f a + total f (part v) ≤ total f (flat part vs)) → Q a) → Each Q (part u)
      → Each Q (flat part (set vs i u))
  flat-rest P Q [] i v u e a h b = tt
  flat-rest P Q (x ∷ xs) zero v u e a h b =
      let is : (f : A → ℕ) → total f (part x) ≡ total f (part v) =
      λ f. ap (λ (w : V). total f (part w)) (some-injective x v e) in
      each-append Q (part u) (flat part xs) b
      (members P Q (flat part xs) (each-back P (part x) (flat part xs) a) (λ y p few. h y p (λ f. let s = few f in
      let t = is f in omega (arith, s, t, total-append f (part x) (flat part xs)))))
  flat-rest P Q (x ∷ xs) (suc i) v u e a h b =
      each-append Q (part x) (flat part (set xs i u))
      (members P Q (part x) (each-front P (part x) (flat part xs) a) (λ y p few. h y p (λ f. let s = few f in let t =
      flat-le f xs i v e in omega (arith, s, t, total-append f (part x) (flat part xs)))))
      (flat-rest P Q xs i v u e (each-back P (part x) (flat part xs) a) (λ y p few. h y p (λ f. let s = few f in
      omega (arith, s, total-append f (part x) (flat part xs)))) b)

  flat-append : (f : A → ℕ) (vs us : List V) → total f (flat part (vs ++ us)) ≡ total f (flat part vs) + total f
      (flat part us)
  flat-append f [] us = omega arith
  flat-append f (v ∷ vs) us = omega (
    arith,
    total-append f (part v) (flat part (vs ++ us)),
    total-append f (part v)
        (flat part vs),
    flat-append f vs us,
  )

  flat-append-each : (P : A → Type 0) (vs us : List V) → Each P (flat part vs) → Each P (flat part us)
      → Each P (flat part (vs ++ us))
  flat-append-each P [] us a b = b
  flat-append-each P (v ∷ vs) us a b = each-append P (part v) (flat part (vs ++ us))
      (each-front P (part v) (flat part vs) a) (flat-append-each P vs us (each-back P (part v) (flat part vs) a) b)

  -- a view is cut into l and r, which have its parts
  pub apart : (vs : List V) (i : ℕ) (v l r : V) → get_elem? vs i ≡ some v
      → ((f : A → ℕ) → total f (part l) + total f (part r) ≡ total f (part v))
      → ((P : A → Type 0) → Each P (part v) → Each P (part l) × Each P (part r))
      → Shuffled (flat part vs) (flat part (set vs i l ++ r ∷ []))
  apart vs i v l r at sum both = record {
    sums = λ f. omega (
      arith,
      flat-set f vs i v l at,
      flat-append f (set vs i l) (r ∷ []),
      total-append f (part r) [],
      sum f,
    );
    each = λ P a.
        let mine = both P (flat-at P vs i v at a) in
        flat-append-each P (set vs i l) (r ∷ []) (flat-set-each P vs i l a mine.0)
        (each-append P (part r) [] mine.1 tt);
  }

  -- two views become one, and an empty one
  pub together : (vs : List V) (i j : ℕ) (v w b e : V) → get_elem? vs i ≡ some v → ¬ (j ≡ i)
      → get_elem? (set vs i b) j ≡ some w → part b ≡ part v ++ part w → part e ≡ []
      → Shuffled (flat part vs) (flat part (set (set vs i b) j e))
  together vs i j v w b e at far there both none = record {
    sums = λ f.
        let t : total f (part b) ≡ total f (part v ++ part w) = ap (total f) both in
        let z : total f (part e) ≡ 0 = ap (total f) none in
        omega (
          arith,
          flat-set f vs i v b at,
          flat-set f (set vs i b) j w e there,
          total-append f (part v) (part w),
          t,
          z,
        );
    each = λ P a.
        let was : get_elem? vs j ≡ some w = ⊎_elim (λ t. absurd (far t.0)) (λ t. t.1) (at_set vs i j b w there) in
        flat-set-each P (set vs i b) j e (flat-set-each P vs i b a
        (subst (Each P) (sym both) (each-append P (part v) (part w) (flat-at P vs i v at a)
        (flat-at P vs j w was a)))) (subst (Each P) (sym none) tt);
  }

  -- a view with one part, where the parts of all views are that one
  pub alone-set : (vs : List V) (i : ℕ) (v u : V) (a b c : A) → get_elem? vs i ≡ some v → part v ≡ a ∷ []
      → part u ≡ b ∷ [] → flat part vs ≡ c ∷ [] → flat part (set vs i u) ≡ b ∷ []
  alone-set vs i v u a b c at one one' all = go (flat part (set vs i u)) long here
    where
      long : length (flat part (set vs i u)) ≡ 1
      long =
          let x = flat-set (λ _. 1) vs i v u at in
          let p : total (λ _. 1) (part v) ≡ 1 = ap (total (λ (_ : A). 1)) one in
          let q : total (λ _. 1) (part u) ≡ 1 = ap (total (λ (_ : A). 1)) one' in
          let r : total (λ _. 1) (flat part vs) ≡ 1 = ap (total (λ (_ : A). 1)) all in
          omega (arith, ones (flat part (set vs i u)), x, p, q, r)

      here : (P : A → Type 0) → Each P (flat part (set vs i u)) → P b
      here P e = let h : Each P (b ∷ []) = subst (Each P) one' (flat-at P (set vs i u) i u (there vs i v at) e) in h.0
        where
          there : (vs : List V) (i : ℕ) (v : V) → get_elem? vs i ≡ some v → get_elem? (set vs i u) i ≡ some u
          there [] i v e = absurd (some-ne-none v (sym e))
          there (x ∷ xs) zero v e = refl
          there (x ∷ xs) (suc i) v e = there xs i v e

      go : (ys : List A) → length ys ≡ 1 → ((P : A → Type 0) → Each P ys → P b) → ys ≡ b ∷ []
      go [] n h = absurd (omega arith)
      go (y ∷ []) n h = ap (λ z. z ∷ []) (h (λ x. y ≡ x) (refl, tt))
      go (y ∷ z ∷ zs) n h = absurd (omega arith)
