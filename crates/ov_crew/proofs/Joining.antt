-- A list is cut into parts, and joined again.
use Rattle.std.proofs.Common.{◌≡◌, ℕ, zero, suc, ◌+◌, List, [], ◌∷◌, ◌++◌, length, slice_get, take, drop}
use Rattle.std.proofs.Common.{Some, map, refl, sym, ◌∙◌, ap, subst, inl, inr, arith}
use Rattle.std.proofs.lemmas.List.{take-map, drop-map}
use Rattle.ov_ids.specs.Members.{Has}

take_nil : {X : Type 0} (n : ℕ) → take {A = X} n [] ≡ []
take_nil zero = refl
take_nil (suc n) = refl

-- the first a items, and the next b
pub take_more : {X : Type 0} (a b : ℕ) (xs : List X) → take (a + b) xs ≡ take a xs ++ take b (drop a xs)
take_more zero b xs = let e : 0 + b ≡ b = omega arith in ap (λ (n : ℕ). take n xs) e
take_more (suc a) b [] = take_nil (suc a + b) ∙ sym (take_nil b)
take_more (suc a) b (x ∷ xs) =
    let e : suc a + b ≡ suc (a + b) = omega arith in
    rw e (ap (λ l. x ∷ l) (take_more a b xs))

has_taken : {X : Type 0} (n : ℕ) (xs : List X) (x : X) → Has (take n xs) x → Has xs x
has_taken zero xs x h = absurd h
has_taken (suc n) [] x h = absurd h
has_taken (suc n) (y ∷ xs) x h = elim h [ inl e ↦ inl e | inr k ↦ inr (has_taken n xs x k) ]

has_dropped : {X : Type 0} (n : ℕ) (xs : List X) (x : X) → Has (drop n xs) x → Has xs x
has_dropped zero xs x h = h
has_dropped (suc n) [] x h = absurd h
has_dropped (suc n) (y ∷ xs) x h = inr (has_dropped n xs x h)

-- who is in a part is in the list
pub has_part : {X : Type 0} (xs part : List X) (size start : ℕ) (x : X) → part ≡ take size (drop start xs) → Has part x
    → Has xs x
has_part xs part size start x e h =
    has_dropped start xs x (has_taken size (drop start xs) x (subst (λ l. Has l x) e h))

-- the part of a list of what the items are mapped to
pub map_part : {X Y : Type 0} (f : X → Y) (xs part : List X) (size start : ℕ) → part ≡ take size (drop start xs)
    → map f part ≡ take size (drop start (map f xs))
map_part f xs part size start e =
    ap (map f) e ∙ sym (take-map f size (drop start xs)) ∙ ap (take size) (sym (drop-map f start xs))

-- what stands behind the first items
pub at_next : {X : Type 0} (seen rest : List X) (x : X) → slice_get (seen ++ x ∷ rest) (length seen) ≡ Some x
at_next [] rest x = refl
at_next (y ∷ seen) rest x = at_next seen rest x
