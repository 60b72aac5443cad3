-- Who is a neighbour after a step of the tree.
use Rattle.std.proofs.Common.{◌≡◌, ℕ, Bool, true, false, cond, not, ◌||◌, ◌&&◌, refl, sym, ap, subst, ◌∙◌, eqb}
use Rattle.std.proofs.lemmas.Bool.{eqb-true}
use Rattle.ov_ids.specs.Sets.{has, adding, without}
use Rattle.ov_ids.proofs.Sets.{has_adding, has_without}
use Rattle.ov_plum.specs.PlumState.{BranchesState, is_linked, up, down, makes_eager, makes_lazy}

up_law : (e p q : Bool) → ((e || p) || (q && not e)) ≡ (e || (p || q))
up_law true p q = refl
up_law false p true = refl
up_law false p false = refl

down_law : (e p q : Bool) → ((p && not e) || (q && not e)) ≡ ((p || q) && not e)
down_law true true q = elim q as (λ q. (q && false) ≡ false) [ true ↦ refl | false ↦ refl ]
down_law true false q = refl
down_law false true q = refl
down_law false false q = refl

-- who comes up is a neighbour, and the others stay
pub linked_up : (b : BranchesState) (x z : ℕ) → is_linked (up x b) z ≡ (eqb x z || is_linked b z)
linked_up b x z = (let p = has_adding x b.eager z in let q = has_without x b.lazy z in λ i. p i || q i)
    ∙ up_law (eqb x z) (has b.eager z) (has b.lazy z)

-- who goes down is none, and the others stay
pub linked_down : (b : BranchesState) (x z : ℕ) → is_linked (down x b) z ≡ (is_linked b z && not (eqb x z))
linked_down b x z = (let p = has_without x b.eager z in let q = has_without x b.lazy z in λ i. p i || q i)
    ∙ down_law (eqb x z) (has b.eager z) (has b.lazy z)

or_true : (p : Bool) → (p || true) ≡ true
or_true true = refl
or_true false = refl

lazy_law : (e p q : Bool) → ((p && not e) || (e || q)) ≡ (e || (p || q))
lazy_law true true q = refl
lazy_law true false q = refl
lazy_law false true q = refl
lazy_law false false q = refl

-- a neighbour is one however often it is said
absorbed : (b : BranchesState) (s z : ℕ) → is_linked b s ≡ true → (eqb s z || is_linked b z) ≡ is_linked b z
absorbed b s z e =
    elim (eqb s z) as (λ r. eqb s z ≡ r → (r || is_linked b z) ≡ is_linked b z) [
      | true ↦ λ d. sym (subst (λ y. is_linked b y ≡ true) (eqb-true s z d) e)
      | false ↦ λ _. refl
    ] refl

-- a neighbour that becomes eager or lazy stays one, and the others too
pub linked_eager : (b : BranchesState) (s z : ℕ) → is_linked (makes_eager s b) z ≡ is_linked b z
linked_eager b s z =
    elim (has b.lazy s) as (λ r. has b.lazy s ≡ r → is_linked (cond r (up s b) b) z ≡ is_linked b z) [
      | true ↦ λ e. linked_up b s z ∙ absorbed b s z (ap (λ q. has b.eager s || q) e ∙ or_true (has b.eager s))
      | false ↦ λ _. refl
    ] refl

pub linked_lazy : (b : BranchesState) (s z : ℕ) → is_linked (makes_lazy s b) z ≡ is_linked b z
linked_lazy b s z =
    let turned : BranchesState = record { eager = without s b.eager; lazy = adding s b.lazy } in
    elim (has b.eager s) as (λ r. has b.eager s ≡ r → is_linked (cond r turned b) z ≡ is_linked b z) [
      | true ↦ λ e. (let p = has_without s b.eager z in let q = has_adding s b.lazy z in λ i. p i || q i)
          ∙ lazy_law (eqb s z) (has b.eager z) (has b.lazy z) ∙ absorbed b s z (ap (λ p. p || has b.lazy s) e)
      | false ↦ λ _. refl
    ] refl
