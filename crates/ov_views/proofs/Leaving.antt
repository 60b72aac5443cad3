-- The members of a set that are none of some nodes.
use Rattle.std.proofs.Common.{◌≡◌, ℕ, Bool, true, false, not, ◌&&◌, eqb, List, [], ◌∷◌, ◌++◌, refl, sym, ap, ◌∙◌}
use Rattle.std.proofs.Common.{append-nil}
use Rattle.std.proofs.lemmas.List.Elements.{filter-append}
use Rattle.std.specs.Prelude.{if◌then◌else◌}
use Rattle.std.specs.List.{list_all}
use Rattle.ov_ids.specs.Sets.{without, without_all}

-- x is none of these
abbrev pub is_none : ℕ → List ℕ → Bool
is_none x ids = list_all (λ id. not (eqb x id)) ids

-- the empty set has none
pub nobody_left : (ids : List ℕ) → without_all ids [] ≡ []
nobody_left [] = refl
nobody_left (y ∷ ids) = nobody_left ids

-- one member more stays if it is none of these
stays_if : (ids members : List ℕ) (x : ℕ) →
    without_all ids (members ++ x ∷ []) ≡ without_all ids members ++ (if is_none x ids then x ∷ [] else [])
stays_if [] members x = refl
stays_if (y ∷ ids) members x =
    elim (not (eqb x y)) as
    (λ b. without y (members ++ x ∷ []) ≡ without y members ++ (if b then x ∷ [] else []) →
    without_all ids (without y (members ++ x ∷ []))
    ≡ without_all ids (without y members) ++ (if (b && is_none x ids) then x ∷ [] else [])) [
      | true ↦ λ e. ap (without_all ids) e ∙ stays_if ids (without y members) x
      | false ↦ λ e. ap (without_all ids) (e ∙ append-nil (without y members))
          ∙ sym (append-nil (without_all ids (without y members)))
    ] (filter-append (λ z. not (eqb z y)) members (x ∷ []))

pub stays : (ids members : List ℕ) (x : ℕ) → is_none x ids ≡ true →
    without_all ids (members ++ x ∷ []) ≡ without_all ids members ++ x ∷ []
stays ids members x e =
    stays_if ids members x ∙ ap (λ (b : Bool). without_all ids members ++ (if b then x ∷ [] else [])) e

-- and else it goes
pub goes : (ids members : List ℕ) (x : ℕ) → is_none x ids ≡ false →
    without_all ids (members ++ x ∷ []) ≡ without_all ids members
goes ids members x e =
    stays_if ids members x ∙ ap (λ (b : Bool). without_all ids members ++ (if b then x ∷ [] else [])) e
    ∙ append-nil (without_all ids members)
