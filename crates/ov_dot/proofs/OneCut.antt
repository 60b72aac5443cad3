-- A text is cut into parts in one way.
use Rattle.std.proofs.Common.{◌≡◌, ◌∙◌, ◌<◌, ◌≤◌, ℕ, zero, suc, true, false, List, [], ◌∷◌}
use Rattle.std.proofs.Common.{length, take, drop}
use Rattle.std.proofs.Common.{◌++◌, refl, sym, ap, subst, arith, append_assoc, length-append, ⊎_elim}
use Rattle.std.proofs.Math.Seq.{take-append_seam, drop-append_seam}
use Rattle.std.proofs.str.Laws.{order}
use Rattle.ov_dot.specs.Parts.{is_part, HasNoPrefix, IsFirstPart, IsCut}
use Rattle.ov_dot.specs.Tokens.{Lexeme, HasTokens, HasNoTokensFrom, HasTornName, tokens_from, behind_feed}

prefix : (p text b : List ℕ) → IsFirstPart p text b → take (length p) text ≡ p
prefix p text b it = ap (take (length p)) it.cut ∙ take-append_seam p b

back : (p text b : List ℕ) → IsFirstPart p text b → drop (length p) text ≡ b
back p text b it = ap (drop (length p)) it.cut ∙ drop-append_seam p b

fits : (p text b : List ℕ) → IsFirstPart p text b → length p ≤ length text
fits p text b it = omega (arith, ap length it.cut, length-append p b)

no_first : (q text b : List ℕ) → IsFirstPart q text b → HasNoPrefix is_part text → ⊥
no_first q text b it none =
    let both : true ≡ false = sym it.whole ∙ ap is_part (sym (prefix q text b it))
    ∙ none (length q) (fits q text b it) in
    cc

not_shorter : (p q text b d : List ℕ) → IsFirstPart p text b → IsFirstPart q text d → length p < length q → ⊥
not_shorter p q text b d first other less =
    let both : true ≡ false =
    sym other.whole ∙ ap is_part (sym (prefix q text d other))
    ∙ first.longest (length q) less (fits q text d other) in
    cc

same_length : (p q text b d : List ℕ) → IsFirstPart p text b → IsFirstPart q text d → length p ≡ length q
same_length p q text b d first other =
    ⊎_elim (λ less. absurd (not_shorter p q text b d first other less))
    (λ most. ⊎_elim (λ less. absurd (not_shorter q p text d b other first less)) (λ least. omega arith)
    (order (length q) (length p)))
    (order (length p) (length q))

same_part : (p q text b d : List ℕ) → IsFirstPart p text b → IsFirstPart q text d → p ≡ q
same_part p q text b d first other =
    sym (prefix p text b first) ∙ ap (λ n. take n text) (same_length p q text b d first other) ∙ prefix q text d other

same_rest : (p q text b d : List ℕ) → IsFirstPart p text b → IsFirstPart q text d → b ≡ d
same_rest p q text b d first other =
    sym (back p text b first) ∙ ap (λ n. drop n text) (same_length p q text b d first other) ∙ back q text d other

-- two ways to cut a text, each up to a rest that begins with no part
one_cut :
    (ps qs : List (List ℕ)) (text r s : List ℕ) → IsCut ps text r → IsCut qs text s → HasNoPrefix is_part r
    → HasNoPrefix is_part s
    → (ps ≡ qs) × (r ≡ s)
one_cut [] [] text r s cut other none nor = (refl, sym cut ∙ other)
one_cut [] (q ∷ qs) text r s cut other none nor =
    absurd (no_first q text other.0 other.1 (subst (HasNoPrefix is_part) (sym cut) none))
one_cut (p ∷ ps) [] text r s cut other none nor =
    absurd (no_first p text cut.0 cut.1 (subst (HasNoPrefix is_part) (sym other) nor))
one_cut (p ∷ ps) (q ∷ qs) text r s cut other none nor =
    let first = same_part p q text cut.0 other.0 cut.1 other.1 in
    let rest = same_rest p q text cut.0 other.0 cut.1 other.1 in
    let later = one_cut ps qs other.0 r s (subst (λ t. IsCut ps t r) rest cut.2) other.2 none nor in
    ((λ i. first i ∷ later.0 i), later.1)

none_left : HasNoPrefix is_part []
none_left zero within = refl
none_left (suc k) within = absurd (omega arith)

-- a text has one list of tokens
pub one_reading : (text : List ℕ) (ts us : List Lexeme) → HasTokens text ts → HasTokens text us → ts ≡ us
one_reading text ts us first other =
    let same = one_cut first.0 other.0 (behind_feed text) [] [] first.1 other.1 none_left none_left in
    first.3 ∙ ap (tokens_from 0) same.0 ∙ sym other.3

-- a text that has no tokens from a line on has none
pub no_reading : (text : List ℕ) (line : ℕ) (ts : List Lexeme) → HasNoTokensFrom text line → HasTokens text ts → ⊥
no_reading text line ts lacks has =
    let same = one_cut lacks.0 has.0 (behind_feed text) lacks.1 [] lacks.2 has.1 lacks.4 none_left in
    let some = lacks.3 in
    let empty = ap length same.1 in
    absurd (omega arith)

-- the first parts of a text are the first of all its parts
first_parts :
    (ps qs : List (List ℕ)) (text r : List ℕ) → IsCut ps text r → IsCut qs text []
    → (later : List (List ℕ)) × (qs ≡ ps ++ later)
first_parts [] qs text r cut whole = (qs, refl)
first_parts (p ∷ ps) [] text r cut whole =
    absurd (no_first p text cut.0 cut.1 (subst (HasNoPrefix is_part) (sym whole) none_left))
first_parts (p ∷ ps) (q ∷ qs) text r cut whole =
    let first = same_part p q text cut.0 whole.0 cut.1 whole.1 in
    let rest = same_rest p q text cut.0 whole.0 cut.1 whole.1 in
    let end = first_parts ps qs whole.0 r (subst (λ t. IsCut ps t r) rest cut.2) whole.2 in
    (end.0, λ i. sym first i ∷ end.1 i)

-- a text with a torn name has no tokens
pub no_torn_reading : (text : List ℕ) (line : ℕ) (ts : List Lexeme) → HasTornName text line → HasTokens text ts → ⊥
no_torn_reading text line ts torn has =
    let parts = torn.before ++ torn.first ∷ torn.second ∷ [] in
    let end = first_parts parts has.0 (behind_feed text) torn.rest torn.cut has.1 in
    has.2 torn.before torn.first torn.second end.0
    (end.1 ∙ append_assoc torn.before (torn.first ∷ torn.second ∷ []) end.0) torn.torn
