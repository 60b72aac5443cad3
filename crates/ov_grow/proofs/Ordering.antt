-- Random orders.
use Rattle.std.proofs.Common.{◌≡◌, ◌<◌, ℕ, List, [], ◌∷◌, ◌++◌, length, get_or, refl, sym, ap, subst, ◌∙◌}
use Rattle.std.proofs.Common.{append_assoc, append-nil}
use Rattle.std.specs.Prelude.{slice_get, remove, Some}
use Rattle.std.proofs.lemmas.Option.{slice_get_read}
use Rattle.rand_pcg.specs.Lcg.{Lcg}
use Rattle.ov_grow.specs.Choices.{IsRandomOrder, later, one_of}

-- whatever orders those that are left, ids have that order after those that were chosen
abbrev pub Continues : List ℕ → List ℕ → List ℕ → Lcg → Lcg → Type 0
Continues ids left ordered before now =
    (rest : List ℕ) (after : Lcg) → IsRandomOrder left rest now after → IsRandomOrder ids (ordered ++ rest) before after

-- one more was chosen
pub order_more : (ids left ordered fewer longer : List ℕ) (before now then : Lcg) (place x : ℕ)
    → Continues ids left ordered before now
    → place ≡ one_of (length left) now → place < length left → x ≡ get_or left place x
    → fewer ≡ remove left place → longer ≡ ordered ++ x ∷ [] → then ≡ later now
    → Continues ids fewer longer before then
order_more ids left ordered fewer longer before now then place x keeps at within is removed made drawn rest after more =
    let there : slice_get left (one_of (length left) now) ≡ Some x =
    subst (λ i. slice_get left i ≡ Some x) at (slice_get_read left (length left) place x refl within is) in
    let others : IsRandomOrder (remove left (one_of (length left) now)) rest (later now) after =
    subst (λ i. IsRandomOrder (remove left i) rest (later now) after) at
    (subst (λ xs. IsRandomOrder xs rest (later now) after) removed
    (subst (λ c. IsRandomOrder fewer rest c after) drawn more)) in
    subst (λ xs. IsRandomOrder ids xs before after)
    (sym (ap (λ o. o ++ rest) made ∙ append_assoc ordered (x ∷ []) rest)) (keeps (x ∷ rest) after (there, others))

-- all were chosen
pub order_all : (ids left ordered : List ℕ) (before now : Lcg) → Continues ids left ordered before now → left ≡ []
    → IsRandomOrder ids ordered before now
order_all ids left ordered before now keeps none =
    subst (λ xs. IsRandomOrder ids xs before now) (append-nil ordered) (keeps [] now (none, refl))
