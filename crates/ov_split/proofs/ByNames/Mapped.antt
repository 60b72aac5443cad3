-- Members, order and length of lists whose items are renamed.
use Rattle.std.proofs.Common.{◌≡◌, suc, inl, inr, List, [], ◌∷◌, map, length, refl, ap}
use Rattle.std.specs.List.{AllByRecursion}
use Rattle.ov_ids.specs.Members.{Has, Ordered}

pub has_map : {X Y : Type 0} (f : X → Y) (xs : List X) (x : X) → Has xs x → Has (map f xs) (f x)
has_map f [] x h = absurd h
has_map f (y ∷ ys) x h = elim h [ inl e ↦ inl (ap f e) | inr k ↦ inr (has_map f ys x k) ]

pub map_has : {X Y : Type 0} (f : X → Y) (xs : List X) (v : Y) → Has (map f xs) v → (x : X) × Has xs x × (f x ≡ v)
map_has f [] v h = absurd h
map_has f (y ∷ ys) v h =
    elim h [ inl e ↦ (y, inl refl, e) | inr k ↦ let q = map_has f ys v k in (q.0, inr q.1, q.2) ]

pub length_map : {X Y : Type 0} (f : X → Y) (xs : List X) → length (map f xs) ≡ length xs
length_map f [] = refl
length_map f (x ∷ xs) = ap suc (length_map f xs)

all_map : {X Y : Type 0} (P : X → Type 0) (Q : Y → Type 0) (f : X → Y) (xs : List X)
    → ((x : X) → Has xs x → P x → Q (f x)) → AllByRecursion P xs → AllByRecursion Q (map f xs)
all_map P Q f [] g a = tt
all_map P Q f (x ∷ xs) g a = (g x (inl refl) a.0, all_map P Q f xs (λ y h. g y (inr h)) a.1)

-- a map that keeps the order of the members keeps the order of the list
pub ordered_map : {X Y : Type 0} (R : X → X → Type 0) (S : Y → Y → Type 0) (f : X → Y) (xs : List X)
    → ((x y : X) → Has xs x → Has xs y → R x y → S (f x) (f y)) → Ordered R xs → Ordered S (map f xs)
ordered_map R S f [] g up = tt
ordered_map R S f (x ∷ xs) g up = (
  all_map (R x) (S (f x)) f xs (λ y h. g x y (inl refl) (inr h)) up.0,
  ordered_map R S f xs (λ y z h k. g y z (inr h) (inr k)) up.1,
)
