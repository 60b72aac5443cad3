-- Entries that are cut into parts, and the room that a part needs.
use Rattle.std.proofs.Common.{◌≡◌, ◌∙◌, ℕ, zero, suc, ◌+◌, ◌-◌, ◌*◌, ◌<◌, ◌≤◌, Bool, true, ◌||◌, nat_lt, List}
use Rattle.std.proofs.Common.{[], ◌∷◌, ◌++◌, take, drop, length, refl, sym, ap, subst, arith, append_assoc, append-nil}
use Rattle.std.proofs.lemmas.List.{drop-drop, length-drop}
use Rattle.std.proofs.lemmas.Grind.{common_steps}
use Rattle.serde_json.specs.Data.{Data}
use Rattle.serde_json.specs.Written.{comma_if, compact_text}
use Rattle.ov_certwriter.specs.Code.Blocks.{items_after, entries_room, AreWithin}

-- the texts of the first items, and those of the others
items_cut : {X : Type 0} (as_data : X → Data) (later : Bool) (n : ℕ) (xs : List X)
    → items_after as_data later xs
    ≡ items_after as_data later (take (suc n) xs) ++ items_after as_data true (drop (suc n) xs)
items_cut as_data later n [] = refl
items_cut as_data later zero (x ∷ xs) =
    let text = compact_text (as_data x) in
    let more = items_after as_data true xs in
    sym (append_assoc (comma_if later) (text ++ []) more
    ∙ ap (λ l. comma_if later ++ l) (ap (λ l. l ++ more) (append-nil text)))
items_cut as_data later (suc n) (x ∷ xs) =
    let text = compact_text (as_data x) in
    let first = items_after as_data true (take (suc n) xs) in
    let more = items_after as_data true (drop (suc n) xs) in
    ap (λ l. comma_if later ++ (text ++ l)) (items_cut as_data true n xs)
    ∙ ap (λ l. comma_if later ++ l) (sym (append_assoc text first more))
    ∙ sym (append_assoc (comma_if later) (text ++ first) more)

-- the same of some items
pub items_parted : {X : Type 0} (as_data : X → Data) (later : Bool) (n : ℕ) (xs : List X) → 0 < n
    → items_after as_data later xs ≡ items_after as_data later (take n xs) ++ items_after as_data true (drop n xs)
items_parted as_data later zero xs some = absurd (omega (arith, some))
items_parted as_data later (suc n) xs some = items_cut as_data later n xs

later_part : (place : ℕ) (later : Bool) → (nat_lt 0 (place + 1) || later) ≡ true
later_part place later = let e : nat_lt 0 (place + 1) ≡ true = grind (arith, common_steps) in rw e refl

-- one more part was written
pub part_more : {X : Type 0} (as_data : X → Data) (later : Bool) (size place : ℕ) (xs : List X) (done part all : List ℕ)
    → 0 < size → part ≡ items_after as_data (nat_lt 0 place || later) (take size (drop (place * size) xs))
    → done ++ items_after as_data (nat_lt 0 place || later) (drop (place * size) xs) ≡ all
    → (done ++ part) ++ items_after as_data (nat_lt 0 (place + 1) || later) (drop ((place + 1) * size) xs) ≡ all
part_more as_data later size place xs done part all some is whole =
    let left = drop (place * size) xs in
    let flag = nat_lt 0 place || later in
    let after : drop ((place + 1) * size) xs ≡ drop size left =
    let e : (place + 1) * size ≡ place * size + size = omega arith in
    rw e (sym (drop-drop size (place * size) xs)) in
    let rest : items_after as_data (nat_lt 0 (place + 1) || later) (drop ((place + 1) * size) xs)
    ≡ items_after as_data true (drop size left) = rw (later_part place later, after) refl in
    ap (λ l. (done ++ part) ++ l) rest ∙ append_assoc done part (items_after as_data true (drop size left))
    ∙ ap (λ l. done ++ (l ++ items_after as_data true (drop size left))) is
    ∙ ap (λ l. done ++ l) (sym (items_parted as_data flag size left some)) ∙ whole

-- ---- rooms

pub product_up : (i n size : ℕ) → i ≤ n → i * size ≤ n * size
product_up i n size le =
    let d = n - i in
    let e : n ≡ i + d = omega (arith, le) in
    let f : (i + d) * size ≡ i * size + d * size = omega arith in
    omega (arith, f, ap (λ (m : ℕ). m * size) e)

-- a product that is not 0
pub some_right : (a b : ℕ) → 0 < a * b → 0 < b
some_right a zero h = absurd (omega (arith, h))
some_right a (suc b) h = omega arith

pub within_behind : {X : Type 0} (paths_of : X → List (List ℕ)) (room n : ℕ) (xs : List X)
    → AreWithin paths_of room xs → AreWithin paths_of room (drop n xs)
within_behind paths_of room zero xs h = h
within_behind paths_of room (suc n) [] h = h
within_behind paths_of room (suc n) (x ∷ xs) h = within_behind paths_of room n xs h.1

-- what is within a room is within a larger one
pub within_more : {X : Type 0} (paths_of : X → List (List ℕ)) (room more : ℕ) (xs : List X) → room ≤ more
    → AreWithin paths_of room xs → AreWithin paths_of more xs
within_more paths_of room more [] le h = tt
within_more paths_of room more (x ∷ xs) le h = (omega (arith, le, h.0), within_more paths_of room more xs le h.1)

-- the first entries need no more than so many rooms
pub part_fits : {X : Type 0} (paths_of : X → List (List ℕ)) (room size : ℕ) (xs : List X)
    → AreWithin paths_of room xs → entries_room paths_of (take size xs) ≤ size * room
part_fits paths_of room zero xs h = omega arith
part_fits paths_of room (suc size) [] h = omega arith
part_fits paths_of room (suc size) (x ∷ xs) h =
    let rest = part_fits paths_of room size xs h.1 in
    let e : suc size * room ≡ size * room + room = omega arith in
    omega (arith, rest, h.0, e)

within_joined : {X : Type 0} (paths_of : X → List (List ℕ)) (room n : ℕ) (xs : List X)
    → AreWithin paths_of room (take n xs) → AreWithin paths_of room (drop n xs) → AreWithin paths_of room xs
within_joined paths_of room zero xs first rest = rest
within_joined paths_of room (suc n) [] first rest = tt
within_joined paths_of room (suc n) (x ∷ xs) first rest =
    (first.0, within_joined paths_of room n xs first.1 rest)

-- what each part is within, all entries are within, if they are no more than the parts take
pub parts_within : {X : Type 0} (paths_of : X → List (List ℕ)) (room size count : ℕ) (xs : List X)
    → ((place : ℕ) → place < count → AreWithin paths_of room (take size (drop (place * size) xs)))
    → length xs ≤ count * size → AreWithin paths_of room xs
parts_within paths_of room size zero [] parts enough = tt
parts_within paths_of room size zero (x ∷ xs) parts enough = absurd (omega (arith, enough))
parts_within paths_of room size (suc count) xs parts enough =
    let none : 0 * size ≡ 0 = omega arith in
    let first = subst (λ (m : ℕ). AreWithin paths_of room (take size (drop m xs))) none (parts 0 (omega arith)) in
    let rest = parts_within paths_of room size count (drop size xs)
    (λ place low.
    let is : (place + 1) * size ≡ size + place * size = omega arith in
    subst (λ ys. AreWithin paths_of room (take size ys))
    (ap (λ (m : ℕ). drop m xs) is ∙ sym (drop-drop (place * size) size xs)) (parts (place + 1) (omega (arith, low))))
    (let all : suc count * size ≡ size + count * size = omega arith in
    omega (arith, enough, all, length-drop size xs)) in
    within_joined paths_of room size xs first rest
