-- A list in a strict order, of which each member is in another list, is no longer than that one. So few links fit
-- between few nodes.
use Rattle.std.proofs.Common.{◌≡◌, ◌<◌, ◌≤◌, ◌*◌, ◌++◌, ℕ, suc, List, [], ◌∷◌, length, length-append, sym, ap, subst}
use Rattle.std.proofs.Common.{arith, ◌^◌, ◌∙◌, refl, inl, inr}
use Rattle.ov_ids.specs.Members.{Has, Ordered}
use Rattle.ov_ids.proofs.Members.{all_member, has_append_left, has_append_right}
use Rattle.ov_graph.specs.Links.{LinkGraph, IsGraph, IsWithinLimit, Precedes, most_of_any_graph}
use Rattle.std.proofs.lemmas.Nat.{mul-le}

-- the list without this member
abbrev without : {X : Type 0} (ys : List X) (x : X) → Has ys x → List X
without [] x h = elim h [ ]
without (y ∷ ys) x (inl e) = ys
without (y ∷ ys) x (inr h) = y ∷ without ys x h

length_without : {X : Type 0} (ys : List X) (x : X) (h : Has ys x) → suc (length (without ys x h)) ≡ length ys
length_without [] x h = elim h [ ]
length_without (y ∷ ys) x (inl e) = refl
length_without (y ∷ ys) x (inr h) = ap suc (length_without ys x h)

kept : {X : Type 0} (ys : List X) (x z : X) (h : Has ys x) → ¬ (x ≡ z) → Has ys z → Has (without ys x h) z
kept [] x z h other there = elim h [ ]
kept (y ∷ ys) x z (inl e) other (inl f) = absurd (other (sym e ∙ f))
kept (y ∷ ys) x z (inl e) other (inr k) = k
kept (y ∷ ys) x z (inr h) other (inl f) = inl f
kept (y ∷ ys) x z (inr h) other (inr k) = inr (kept ys x z h other k)

pub fits : {X : Type 0} (R : X → X → Type 0) → ((x : X) → ¬ R x x) → (xs ys : List X) → Ordered R xs
    → ((x : X) → Has xs x → Has ys x) → length xs ≤ length ys
fits R strict [] ys order inside = omega arith
fits R strict (x ∷ xs) ys order inside =
    let h = inside x (inl refl) in
    let fewer = fits R strict xs (without ys x h) order.1
    (λ z has. kept ys x z h (λ e. strict x (subst (R x) (sym e) (all_member (R x) xs z order.0 has)))
    (inside z (inr has))) in
    let l = length_without ys x h in
    omega (arith, fewer, l)

-- the pairs of an item with each of a list
abbrev pairs_with : ℕ → List ℕ → List (ℕ × ℕ)
pairs_with x [] = []
pairs_with x (y ∷ ys) = (x, y) ∷ pairs_with x ys

-- all pairs of items of two lists
abbrev all_pairs : List ℕ → List ℕ → List (ℕ × ℕ)
all_pairs [] ys = []
all_pairs (x ∷ xs) ys = pairs_with x ys ++ all_pairs xs ys

pairs_with_length : (x : ℕ) (ys : List ℕ) → length (pairs_with x ys) ≡ length ys
pairs_with_length x [] = refl
pairs_with_length x (y ∷ ys) = ap suc (pairs_with_length x ys)

all_pairs_length : (xs ys : List ℕ) → length (all_pairs xs ys) ≡ length xs * length ys
all_pairs_length [] ys = omega arith
all_pairs_length (x ∷ xs) ys =
    let one = pairs_with_length x ys in
    let more = all_pairs_length xs ys in
    let both = length-append (pairs_with x ys) (all_pairs xs ys) in
    omega (arith, one, more, both)

has_pair_with : (x y : ℕ) (ys : List ℕ) → Has ys y → Has (pairs_with x ys) (x, y)
has_pair_with x y [] h = elim h [ ]
has_pair_with x y (z ∷ ys) (inl e) = inl (ap (λ v. (x, v)) e)
has_pair_with x y (z ∷ ys) (inr h) = inr (has_pair_with x y ys h)

has_pair : (xs ys : List ℕ) (l : ℕ × ℕ) → Has xs l.0 → Has ys l.1 → Has (all_pairs xs ys) l
has_pair [] ys l h there = elim h [ ]
has_pair (x ∷ xs) ys l (inl e) there =
    has_append_left (pairs_with x ys) (all_pairs xs ys) l
    (subst (λ v. Has (pairs_with x ys) (v, l.1)) e (has_pair_with x l.1 ys there))
has_pair (x ∷ xs) ys l (inr h) there =
    has_append_right (pairs_with x ys) (all_pairs xs ys) l (has_pair xs ys l h there)

strict : (l : ℕ × ℕ) → ¬ Precedes l l
strict l (inl h) = absurd (omega (arith, h))
strict l (inr h) = absurd (let b = h.1 in omega (arith, b))

-- a graph has at most as many links as pairs of nodes
few_links : (g : LinkGraph) → IsGraph g → length g.links ≤ length g.nodes * length g.nodes
few_links g graph =
    let few = fits Precedes strict g.links (all_pairs g.nodes g.nodes) graph.links_ascend
    (λ l has. let ends = graph.joins l has in has_pair g.nodes g.nodes l ends.1 ends.2) in
    let all = all_pairs_length g.nodes g.nodes in
    omega (arith, few, all)

-- so they can be counted by 32 bits
pub links_counted : (g : LinkGraph) → IsGraph g → IsWithinLimit g → length g.links < 2 ^ 32
links_counted g graph within =
    let few = few_links g graph in
    let most = mul-le (length g.nodes) (length g.nodes) most_of_any_graph most_of_any_graph within within in
    omega (arith, few, most)
