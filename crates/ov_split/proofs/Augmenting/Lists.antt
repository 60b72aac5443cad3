-- Lists of nodes: without repetition, without a member, and written as sets.
use Rattle.std.proofs.Common.{◌≡◌, ◌∙◌, ◌↔◌, ℕ, suc, ◌≤◌, ◌⊎◌, inl, inr, List, [], ◌∷◌, ◌++◌, length, eqb, refl}
use Rattle.std.proofs.Common.{sym, ap, subst, arith, eq-eqb, eqb-true}
use Rattle.std.proofs.lemmas.Bool.{or_cases, or_left, or_right}
use Rattle.ov_ids.specs.Members.{Has, IsDistinct, Ascends}
use Rattle.ov_ids.specs.Sets.{has, adding}
use Rattle.ov_ids.proofs.Members.{has_append_right, has_append_cases, has_tested}
use Rattle.ov_ids.proofs.Sets.{IsSet-adding, length-adding, has_adding}
use Rattle.ov_graph.proofs.EvenTest.Escape.{less}

-- a list of distinct members of ys is no longer than ys
pub distinct_length : (xs ys : List ℕ) → IsDistinct xs → ((x : ℕ) → Has xs x → Has ys x) → length xs ≤ length ys
distinct_length [] ys d f = omega arith
distinct_length (x ∷ xs) ys d f =
    let w = less ys x (f x (inl refl)) in
    let h = distinct_length xs w.rest d.1
    (λ a k. elim (w.others a (f a (inr k))) [ inl e ↦ absurd (d.0 (subst (Has xs) (sym e) k)) | inr r ↦ r ]) in
    omega (arith, h, w.shorter)

-- a list without repetition, and without one member
pub record Others (es : List ℕ) (e : ℕ) : Type 0 where
  pub rest : List ℕ
  pub shorter : length es ≡ suc (length rest)
  pub distinct : IsDistinct rest
  pub gone : ¬ Has rest e
  pub within : (y : ℕ) → Has rest y → Has es y
  pub others : (y : ℕ) → Has es y → (e ≡ y) ⊎ Has rest y

pub others_of : (es : List ℕ) (e : ℕ) → Has es e → IsDistinct es → Others es e
others_of [] e h d = absurd h
others_of (z ∷ zs) e h d = elim h [
  | inl s ↦ record {
    rest = zs;
    shorter = refl;
    distinct = d.1;
    gone = subst (λ (a : ℕ). ¬ Has zs a) s d.0;
    within = λ y k. inr k;
    others = λ y k. elim k [ inl f ↦ inl (sym s ∙ f) | inr m ↦ inr m ];
  }
  | inr k ↦
      let r = others_of zs e k d.1 in
      record {
        rest = z ∷ r.rest;
        shorter = ap suc r.shorter;
        distinct = (λ m. d.0 (r.within z m), r.distinct);
        gone = λ m. elim m [ inl s ↦ d.0 (subst (Has zs) (sym s) k) | inr w ↦ r.gone w ];
        within = λ y m. elim m [ inl s ↦ inl s | inr w ↦ inr (r.within y w) ];
        others = λ y m. elim m [
          | inl f ↦ inr (inl f)
          | inr w ↦ elim (r.others y w) [ inl f ↦ inl f | inr q ↦ inr (inr q) ]
        ];
      }
]

-- the two parts of a list without repetition share nothing
pub distinct_parts : (xs ys : List ℕ) (a : ℕ) → IsDistinct (xs ++ ys) → Has xs a → Has ys a → ⊥
distinct_parts [] ys a d h k = h
distinct_parts (x ∷ xs) ys a d h k = elim h [
  | inl s ↦ d.0 (subst (Has (xs ++ ys)) (sym s) (has_append_right xs ys a k))
  | inr m ↦ distinct_parts xs ys a d.1 m k
]

-- one more at the end
pub distinct_push : (xs : List ℕ) (y : ℕ) → IsDistinct xs → ¬ Has xs y → IsDistinct (xs ++ y ∷ [])
distinct_push [] y d n = ((λ h. h), tt)
distinct_push (x ∷ xs) y d n = (
  (λ h. elim (has_append_cases xs (y ∷ []) x h) [
    | inl k ↦ d.0 k
    | inr k ↦ elim k [ inl s ↦ n (inl (sym s)) | inr w ↦ w ]
  ]),
  distinct_push xs y d.1 (λ h. n (inr h)),
)

pub off_both : (s t : List ℕ) (x : ℕ) → ¬ Has s x → ¬ Has t x → ¬ Has (s ++ t) x
off_both s t x m k h = elim (has_append_cases s t x h) [ inl a ↦ m a | inr b ↦ k b ]

-- the same members, written as a set
pub set_of : List ℕ → List ℕ
set_of [] = []
set_of (x ∷ xs) = adding x (set_of xs)

pub set_ascends : (xs : List ℕ) → Ascends (set_of xs)
unfolding set_of
set_ascends [] = tt
set_ascends (x ∷ xs) = IsSet-adding x (set_of xs) (set_ascends xs)

pub set_short : (xs : List ℕ) → length (set_of xs) ≤ length xs
unfolding set_of
set_short [] = omega arith
set_short (x ∷ xs) = let h = set_short xs in let l = length-adding x (set_of xs) in omega (arith, h, l)

has_more : (x : ℕ) (t : List ℕ) (z : ℕ) → Has (adding x t) z ↔ ((x ≡ z) ⊎ Has t z)
has_more x t z = (
  (λ h.
      let test = (has_tested (adding x t) z (has (adding x t) z) refl).1 h in
      elim (or_cases (eqb x z) (has t z) (sym (has_adding x t z) ∙ test)) [
        | inl e ↦ inl (eqb-true x z e)
        | inr k ↦ inr ((has_tested t z (has t z) refl).0 k)
      ]),
  (λ h. (has_tested (adding x t) z (has (adding x t) z) refl).0 (has_adding x t z ∙ elim h [
    | inl e ↦ or_left (eqb x z) (has t z) (eq-eqb x z e)
    | inr k ↦ or_right (eqb x z) (has t z) ((has_tested t z (has t z) refl).1 k)
  ])),
)

pub in_set : (xs : List ℕ) (x : ℕ) → Has xs x → Has (set_of xs) x
unfolding set_of
in_set [] x h = h
in_set (y ∷ ys) x h = (has_more y (set_of ys) x).1 (elim h [ inl e ↦ inl e | inr k ↦ inr (in_set ys x k) ])

pub from_set : (xs : List ℕ) (x : ℕ) → Has (set_of xs) x → Has xs x
unfolding set_of
from_set [] x h = h
from_set (y ∷ ys) x h =
    elim ((has_more y (set_of ys) x).0 h) [ inl e ↦ inl e | inr k ↦ inr (from_set ys x k) ]
