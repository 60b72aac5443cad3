-- Lists that are read and written item by item.
use Rattle.std.proofs.Common.{◌≡◌, ℕ, Bool, false, List, [], ◌∷◌, ◌++◌, ◌∙◌, map, codes, Option, Some, None, option_map}
use Rattle.std.proofs.Common.{ap, subst, append_assoc, refl, sym}
use Rattle.std.specs.List.{AllByRecursion}
use Rattle.serde_json.specs.Data.{Data}
use Rattle.serde_json.specs.View.{items_of}
use Rattle.serde_json.specs.Written.{compact_text, items_text}
use Rattle.ov_ids.specs.Options.{◌>>=◌}
use Rattle.ov_certfile.specs.Forms.{list_in}
use Rattle.ov_certfile.specs.DataOf.{list_data}

-- the rest of a list that was read, with the items read before
abbrev pub with_front : {X : Type 0} → List X → Option (List X) → Option (List X)
with_front front answer = answer >>= λ xs. Some (front ++ xs)

-- each item is read back from the value written for it
abbrev pub EachReadsBack : {X : Type 0} → (Data → Option X) → (X → Data) → List X → Type 0
EachReadsBack form as_data xs = AllByRecursion (λ x. form (as_data x) ≡ Some x) xs

pub list_back : {X : Type 0} (form : Data → Option X) (as_data : X → Data) (xs : List X)
    → EachReadsBack form as_data xs → list_in form (list_data as_data xs) ≡ Some xs
list_back form as_data [] h = refl
list_back form as_data (x ∷ xs) h = rw (h.0, list_back form as_data xs h.1) refl

-- where none is left, and all read back if those that are left do, the list reads back
pub all_back : {X : Type 0} (form : Data → Option X) (as_data : X → Data) (xs left : List X) → left ≡ []
    → (EachReadsBack form as_data left → EachReadsBack form as_data xs) → list_in form (list_data as_data xs) ≡ Some xs
all_back form as_data xs left none h =
    list_back form as_data xs (h (subst (EachReadsBack form as_data) (sym none) tt))

-- where none is left, what was written between the brackets is the text of the list
pub list_written : {X : Type 0} (as_data : X → Data) (xs left : List X) (later : Bool) (old opened begun new : List ℕ)
    → left ≡ [] → opened ≡ old ++ codes "["
    → begun ++ items_text later (items_of (map as_data left)) ≡ opened ++ items_text false (items_of (map as_data xs))
    → new ≡ begun ++ codes "]" → new ≡ old ++ compact_text (list_data as_data xs)
list_written as_data xs left later old opened begun new none o i n =
    n ∙ ap (λ ys. begun ++ items_text later (items_of (map as_data ys))) (sym none) ∙ i
    ∙ ap (λ s. s ++ items_text false (items_of (map as_data xs))) o ∙ append_assoc old (codes "[") _

-- one more item was read
pub item_read : {X : Type 0} (front more : List X) (item : Option X) (later : Option (List X))
    → option_map (λ x. front ++ x ∷ []) item ≡ Some more
    → with_front front (item >>= λ x. later >>= λ xs. Some (x ∷ xs)) ≡ with_front more later
item_read front more None later e = absurd (cc e)
item_read front more (Some x) None e = refl
item_read front more (Some x) (Some xs) e =
    ap Some (sym (append_assoc front (x ∷ []) xs)) ∙ ap (option_map (λ ys. ys ++ xs)) e
