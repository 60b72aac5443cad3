-- The items that are left after some were taken out, by their places in the whole list.
use Rattle.std.proofs.Common.{◌≡◌, ◌≤◌, ◌<◌, ◌+◌, ℕ, zero, suc, List, [], ◌∷◌, ◌++◌, length, refl, sym, ap, ◌∙◌, arith}
use Rattle.std.proofs.Common.{take}
use Rattle.std.specs.Prelude.{Option, Some, remove, slice_get, slice_set}
use Rattle.std.proofs.lemmas.List.{take_more_set}
use Rattle.ov_ids.specs.Sets.{IsSet, without}
use Rattle.ov_ids.proofs.Sets.{placed, without_present}
use Rattle.ov_views.specs.Code.LeftOf.{left_of}

-- one item more is taken out
pub left_more : (places : List ℕ) (items : List ℕ) (p : ℕ)
    → left_of items (places ++ p ∷ []) ≡ remove (left_of items places) p
left_more [] items p = refl
left_more (q ∷ places) items p = left_more places (remove items q) p

-- an item that stands behind the one that was taken out had the next place before, any other the same place
pub left_behind : (items : List ℕ) (p i : ℕ) → p ≤ i → slice_get (remove items p) i ≡ slice_get items (suc i)
left_behind [] zero i l = refl
left_behind [] (suc p) i l = refl
left_behind (y ∷ items) zero i l = refl
left_behind (y ∷ items) (suc p) zero l = absurd (omega (arith, l))
left_behind (y ∷ items) (suc p) (suc i) l = left_behind items p i (omega (arith, l))

pub left_ahead : (items : List ℕ) (p i : ℕ) → i < p → slice_get (remove items p) i ≡ slice_get items i
left_ahead [] zero i l = absurd (omega (arith, l))
left_ahead [] (suc p) i l = refl
left_ahead (y ∷ items) zero i l = absurd (omega (arith, l))
left_ahead (y ∷ items) (suc p) zero l = refl
left_ahead (y ∷ items) (suc p) (suc i) l = left_ahead items p i (omega (arith, l))

-- the set without its member at a place
pub left_without : (set : List ℕ) (p x : ℕ) → IsSet set → p < length set → slice_get set p ≡ Some x
    → without x set ≡ remove set p
left_without set p x s l e =
    let at = placed set p x s l e in without_present x set s at.0 ∙ ap (remove set) at.1

-- the same of the item that was taken out last
pub behind_last : (set others earlier : List ℕ) (last i : ℕ) (x : Option ℕ) → others ≡ earlier ++ last ∷ [] → last ≤ i
    → slice_get (left_of set others) i ≡ x → slice_get (left_of set earlier) (i + 1) ≡ x
behind_last set others earlier last i x parts l e =
    let next : i + 1 ≡ suc i = omega arith in
    ap (slice_get (left_of set earlier)) next ∙ sym (left_behind (left_of set earlier) last i l)
    ∙ ap (λ (t : List ℕ). slice_get t i) (sym (left_more earlier set last))
    ∙ ap (λ (places : List ℕ). slice_get (left_of set places) i) (sym parts) ∙ e

pub ahead_of_last : (set others earlier : List ℕ) (last i : ℕ) (x : Option ℕ) → others ≡ earlier ++ last ∷ []
    → i < last → slice_get (left_of set others) i ≡ x → slice_get (left_of set earlier) i ≡ x
ahead_of_last set others earlier last i x parts l e =
    sym (left_ahead (left_of set earlier) last i l)
    ∙ ap (λ (t : List ℕ). slice_get t i) (sym (left_more earlier set last))
    ∙ ap (λ (places : List ℕ). slice_get (left_of set places) i) (sym parts) ∙ e

-- the place of one more member is kept behind the places of the others
pub left_next : (set taken : List ℕ) (i p x : ℕ) → i < length taken → IsSet (left_of set (take i taken))
    → p < length (left_of set (take i taken)) → slice_get (left_of set (take i taken)) p ≡ Some x
    → without x (left_of set (take i taken)) ≡ left_of set (take (i + 1) (slice_set taken i p))
left_next set taken i p x room s within e =
    left_without (left_of set (take i taken)) p x s within e ∙ sym (left_more (take i taken) set p)
    ∙ ap (left_of set) (sym (take_more_set taken i p room))
