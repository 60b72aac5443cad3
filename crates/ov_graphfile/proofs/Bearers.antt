-- Who has a name, one node after the other.
use Rattle.std.proofs.Common.{◌≡◌, ◌∙◌, ℕ, ◌+◌, List, Option, None, Some, Bool, true, false, cond, get_or}
use Rattle.std.proofs.Common.{inl, inr, refl, sym, ap, subst, arith}
use Rattle.std.proofs.lemmas.Bool.{cases_eq}
use Rattle.std.specs.Cmp.Lexicographic.{bytes_decides}
use Rattle.std.specs.Str.{bytes_eq}
use Rattle.std.specs.Map.{update}
use Rattle.ov_graphfile.specs.Code.Bearers.{AreBearers, HasName, IsBearerOf, one_more}
use Rattle.ov_graphfile.specs.declared.nodes_by_name.Bearer.{Bearer}
use Rattle.ov_graphfile.specs.declared.nodes_by_name.Bearer.TheVariants.{One, Several}

-- of no nodes nobody has a name
pub begun : (told : List (Option (List ℕ))) (table : List ℕ → Option Bearer) → ((name : List ℕ) → table name ≡ None)
    → AreBearers told 0 table
begun told table none name =
    subst (IsBearerOf told 0 name) (sym (none name)) (λ p l h. omega (arith, l))

-- one node more, which has another name or none
kept : (told : List (Option (List ℕ))) (done : ℕ) (name : List ℕ) (bearer : Option Bearer) → ¬ HasName told name done
    → IsBearerOf told done name bearer → IsBearerOf told (done + 1) name bearer
kept told done name None other b = λ p l h. elim (cases_eq p done) [
  | inl e ↦ other (subst (HasName told name) e h)
  | inr ne ↦ b p (omega (arith, l, ne)) h
]
kept told done name (Some (One p)) other b = (
  (let below = b.0 in omega (arith, below)),
  b.1,
  (λ q l h. elim (cases_eq q done) [
    | inl e ↦ absurd (other (subst (HasName told name) e h))
    | inr ne ↦ b.2 q (omega (arith, l, ne)) h
  ]),
)
kept told done name (Some Several) other b =
    let below = b.3 in (b.0, b.1, b.2, omega (arith, below), b.4, b.5)

-- one node more, without a name
pub rests : (told : List (Option (List ℕ))) (done : ℕ) (table : List ℕ → Option Bearer) → get_or told done None ≡ None
    → AreBearers told done table → AreBearers told (done + 1) table
rests told done table none are name =
    kept told done name (table name) (λ h. let e : None ≡ Some name = sym none ∙ h in cc) (are name)

-- one node more with this name
gained : (told : List (Option (List ℕ))) (done : ℕ) (name : List ℕ) (bearer : Option Bearer) → HasName told name done
    → IsBearerOf told done name bearer → IsBearerOf told (done + 1) name (Some (one_more bearer done))
gained told done name None here b = (
  omega arith,
  here,
  (λ q l h. elim (cases_eq q done) [ inl e ↦ e | inr ne ↦ absurd (b q (omega (arith, l, ne)) h) ]),
)
gained told done name (Some (One p)) here b = (p, done, b.0, omega arith, b.1, here)
gained told done name (Some Several) here b =
    let below = b.3 in (b.0, b.1, b.2, omega (arith, below), b.4, b.5)

same_name : (told : List (Option (List ℕ))) (done : ℕ) (s t : List ℕ) → HasName told s done → HasName told t done
    → s ≡ t
same_name told done s t a b = let e : Some s ≡ Some t = sym a ∙ b in cc

pub more : (told : List (Option (List ℕ))) (done : ℕ) (name : List ℕ) (old new : List ℕ → Option Bearer)
    → HasName told name done → AreBearers told done old
    → ((t : List ℕ) → new t ≡ update bytes_eq old name (Some (one_more (old name) done)) t)
    → AreBearers told (done + 1) new
more told done name old new here are put t =
    by (bytes_eq name t) refl
  where
    apart : name ≡ t → bytes_eq name t ≡ false → ⊥
    apart e n = let y : bytes_eq name t ≡ true = (bytes_decides name t).1 e in let z = sym n ∙ y in cc

    by : (b : Bool) → bytes_eq name t ≡ b → IsBearerOf told (done + 1) t (new t)
    by true y =
        let same : name ≡ t = (bytes_decides name t).0 y in
        subst (IsBearerOf told (done + 1) t)
        (sym (put t ∙ ap (λ (b : Bool). cond b (Some (one_more (old name) done)) (old t)) y))
        (subst (λ (s : List ℕ). IsBearerOf told (done + 1) s (Some (one_more (old name) done))) same
        (gained told done name (old name) here (are name)))
    by false n =
        subst (IsBearerOf told (done + 1) t)
        (sym (put t ∙ ap (λ (b : Bool). cond b (Some (one_more (old name) done)) (old t)) n))
        (kept told done t (old t) (λ h. apart (same_name told done name t here h) n) (are t))
