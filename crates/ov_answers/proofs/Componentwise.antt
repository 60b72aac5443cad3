-- Components that are told one after the other.
use Rattle.std.proofs.Common.{◌≡◌, ◌≢◌, ◌∙◌, ℕ, zero, suc, ◌+◌, ◌<◌, List, [], ◌∷◌, ◌++◌, length, take, get_or, eqb}
use Rattle.std.proofs.Common.{slice_get, unwrap_or, Some, None, codes, decimal, refl, sym, ap, subst, arith}
use Rattle.std.proofs.Common.{append_assoc, append-nil}
use Rattle.std.proofs.lemmas.Bool.{eq-eqb, ne_eqb}
use Rattle.std.proofs.lemmas.List.{take_more, length-take-le}
use Rattle.std.proofs.lemmas.Option.{get_or_from_slice_get, unwrap_or-slice_get}
use Rattle.ov_ids.proofs.Cases.{where_true, where_false}
use Rattle.ov_graphfile.specs.NamesState.{NamesState}
use Rattle.ov_answers.specs.Lines.{AreNodeLines, sizes_text, AreMemberLines, AreAllMemberLines}
use Rattle.ov_answers.specs.Code.Begun.{Gains}

-- ---- the component at a place

pub component_there : (components : List (List ℕ)) (i : ℕ) (component : List ℕ)
    → slice_get components i ≡ Some component
    → component ≡ get_or components i []
component_there components i component e = sym (get_or_from_slice_get components i component [] e)

pub no_component : (components : List (List ℕ)) (i : ℕ) → slice_get components i ≡ None → [] ≡ get_or components i []
no_component components i e = sym (ap (λ o. unwrap_or o []) e) ∙ unwrap_or-slice_get components i []

-- ---- the sizes

sizes_push : (component last : List ℕ) (components : List (List ℕ))
    → sizes_text (component ∷ components ++ last ∷ [])
    ≡ sizes_text (component ∷ components) ++ 44 ∷ decimal (length last)
sizes_push component last [] = refl
sizes_push component last (next ∷ components) =
    ap (λ t. decimal (length component) ++ 44 ∷ t) (sizes_push next last components)
    ∙ sym (append_assoc (decimal (length component)) (44 ∷ sizes_text (next ∷ components)) (44 ∷ decimal (length last)))

-- the first size
sizes_first : (components : List (List ℕ)) (i : ℕ) → i < length components → ¬ 0 < i
    → sizes_text (take (i + 1) components) ≡ sizes_text (take i components) ++ decimal (length (get_or components i []))
sizes_first [] i l none = absurd (omega (arith, l))
sizes_first (component ∷ components) zero l none = refl
sizes_first (component ∷ components) (suc i) l none = absurd (none (omega arith))

-- and one more, with a comma before it
sizes_next : (components : List (List ℕ)) (i : ℕ) → i < length components → 0 < i
    → sizes_text (take (i + 1) components)
    ≡ sizes_text (take i components) ++ 44 ∷ decimal (length (get_or components i []))
sizes_next [] i l some = absurd (omega (arith, l))
sizes_next (component ∷ components) zero l some = absurd (omega (arith, some))
sizes_next (component ∷ components) (suc i) l some =
    ap sizes_text (take_more (component ∷ components) (suc i) [] l)
    ∙ sizes_push component (get_or (component ∷ components) (suc i) []) (take i components)

-- what is written of the first component, and of one more
pub first_size : (components : List (List ℕ)) (i : ℕ) (component a b c : List ℕ) → i < length components → ¬ 0 < i
    → component ≡ get_or components i [] → b ≡ a ++ sizes_text (take i components) → c ≡ b ++ decimal (length component)
    → c ≡ a ++ sizes_text (take (i + 1) components)
first_size components i component a b c l none at before new =
    let so_far : List ℕ = sizes_text (take i components) in
    new ∙ ap (λ t. t ++ decimal (length component)) before ∙ append_assoc a so_far (decimal (length component))
    ∙ ap (λ t. a ++ t) (ap (λ (p : List ℕ). so_far ++ decimal (length p)) at ∙ sym (sizes_first components i l none))

pub next_size : (components : List (List ℕ)) (i : ℕ) (component a b mid c : List ℕ) → i < length components → 0 < i
    → component ≡ get_or components i [] → b ≡ a ++ sizes_text (take i components) → mid ≡ b ++ 44 ∷ []
    → c ≡ mid ++ decimal (length component) → c ≡ a ++ sizes_text (take (i + 1) components)
next_size components i component a b mid c l some at before comma new =
    let so_far : List ℕ = sizes_text (take i components) in
    let size : List ℕ = decimal (length component) in
    new ∙ ap (λ t. t ++ size) (comma ∙ ap (λ t. t ++ 44 ∷ []) before)
    ∙ append_assoc (a ++ so_far) (44 ∷ []) size
    ∙ append_assoc a so_far (44 ∷ size)
    ∙ ap (λ t. a ++ t)
    (ap (λ (p : List ℕ). so_far ++ 44 ∷ decimal (length p)) at ∙ sym (sizes_next components i l some))

-- ---- the lines of the members

-- what is written of one component
pub component_left_out : (names : NamesState) (left_out place : ℕ) (component t : List ℕ) → place ≡ left_out
    → Gains (AreMemberLines left_out names place component) t t
component_left_out names left_out place component t e = (
  [],
  where_true (eqb place left_out) ([] ≡ [])
      (AreNodeLines (codes "piece " ++ (decimal (place + 1) ++ codes " ")) names component [])
      (eq-eqb place left_out e) refl,
  sym (append-nil t),
)

pub component_told : (names : NamesState) (left_out place : ℕ) (component ids words a b : List ℕ) → place ≢ left_out
    → ids ≡ component → words ≡ codes "piece " ++ (decimal (place + 1) ++ codes " ")
    → Gains (AreNodeLines words names ids) a b → Gains (AreMemberLines left_out names place component) a b
component_told names left_out place component ids words a b ne same is g =
    let head : List ℕ = codes "piece " ++ (decimal (place + 1) ++ codes " ") in (
      g.0,
      where_false (eqb place left_out) (g.0 ≡ []) (AreNodeLines head names component g.0) (ne_eqb place left_out ne)
          (subst (λ (w : List ℕ). AreNodeLines w names component g.0) is
          (subst (λ (ns : List ℕ). AreNodeLines words names ns g.0) same g.1)),
      g.2,
    )

-- and of one component more
members_push : (names : NamesState) (left_out place : ℕ) (components : List (List ℕ)) (component text lines : List ℕ)
    → AreAllMemberLines left_out names place components text
    → AreMemberLines left_out names (place + length components) component lines
    → AreAllMemberLines left_out names place (components ++ component ∷ []) (text ++ lines)
members_push names left_out place [] component text lines is new =
    let e : place + 0 ≡ place = omega arith in (
      lines,
      [],
      subst (λ (p : ℕ). AreMemberLines left_out names p component lines) e new,
      refl,
      ap (λ t. t ++ lines) is ∙ sym (append-nil lines),
    )
members_push names left_out place (first ∷ components) component text lines is new =
    let e : place + suc (length components) ≡ place + 1 + length components = omega arith in (
      is.0,
      is.1 ++ lines,
      is.2,
      members_push names left_out (place + 1) components component is.1 lines is.3
          (subst (λ (p : ℕ). AreMemberLines left_out names p component lines) e new),
      ap (λ t. t ++ lines) is.4 ∙ append_assoc is.0 is.1 lines,
    )

pub members_more : (names : NamesState) (left_out i : ℕ) (components : List (List ℕ)) (a b c : List ℕ)
    → i < length components
    → Gains (AreAllMemberLines left_out names 0 (take i components)) a b
    → Gains (AreMemberLines left_out names i (get_or components i [])) b c
    → Gains (AreAllMemberLines left_out names 0 (take (i + 1) components)) a c
members_more names left_out i components a b c l g h =
    let component : List ℕ = get_or components i [] in
    let k = length-take-le i components (omega (arith, l)) in
    let place : i ≡ 0 + length (take i components) = omega (arith, k) in
    subst (λ (ps : List (List ℕ)). Gains (AreAllMemberLines left_out names 0 ps) a c)
    (sym (take_more components i [] l)) (
      g.0 ++ h.0,
      members_push names left_out 0 (take i components) component g.0 h.0 g.1
          (subst (λ (p : ℕ). AreMemberLines left_out names p component h.0) place h.1),
      h.2 ∙ ap (λ t. t ++ h.0) g.2 ∙ append_assoc a g.0 h.0,
    )
