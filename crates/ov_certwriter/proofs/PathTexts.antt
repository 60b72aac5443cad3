-- Paths by places, their ids, and how long the texts of these are.
use Rattle.std.proofs.Common.{◌≡◌, ◌∙◌, inl, inr, ℕ, ◌+◌, ◌-◌, ◌*◌, ◌≤◌, List, [], ◌∷◌, ◌++◌, map}
use Rattle.std.proofs.Common.{length, reverse, slice_index, Option, Some, None, refl, sym, ap, ap₂, subst, arith}
use Rattle.std.proofs.Common.{append-nil, length-append}
use Rattle.std.specs.Option.{MatchOption}
use Rattle.std.proofs.lemmas.List.{length-map, reverse-append, reverse-reverse}
use Rattle.std.proofs.lemmas.List.Sums.{sum_by-cons}
use Rattle.ov_ids.specs.Members.{Has}
use Rattle.ov_graph.specs.Links.{LinkGraph}
use Rattle.ov_graph.specs.Paths.{node_at}
use Rattle.ov_flow.specs.Flow.{ArePlaces, ended_by, places_on}
use Rattle.ov_flow.proofs.FlatPaths.{has_reversed}
use Rattle.ov_certwriter.specs.Length.{ids_on}
use Rattle.ov_certwriter.specs.Code.Blocks.{texts_room, entry_room}
use Rattle.ov_certwriter.specs.Code.Placed.{by_ids, ids_back}

-- ---- the last id of a path

-- the ids of a path, and then its last id
pub ended_append : (last : Option ℕ) (ids : List ℕ) → ids ++ ended_by last [] ≡ ended_by last ids
ended_append None ids = append-nil ids
ended_append (Some x) ids = refl

ended_long : (last : Option ℕ) (ids : List ℕ) → length (ended_by last ids) ≡ length ids + length (ended_by last [])
ended_long last ids = ap length (sym (ended_append last ids)) ∙ length-append ids (ended_by last [])

-- ---- how many ids paths have

-- each path has one id more than it has places, if a last one is given
pub ids_counted : (g : LinkGraph) (last : Option ℕ) (paths : List (List ℕ))
    → ids_on (by_ids g last paths) ≡ places_on paths + length paths * length (ended_by last [])
ids_counted g last [] = omega arith
ids_counted g last (path ∷ paths) =
    let own = length (ended_by last []) in
    let first = sum_by-cons length (ended_by last (map (node_at g) path)) (by_ids g last paths) in
    let long = ended_long last (map (node_at g) path) in
    let same = length-map path (node_at g) in
    let rest = ids_counted g last paths in
    let more : (length paths + 1) * own ≡ length paths * own + own = omega arith in
    omega (arith, first, long, same, rest, more)

-- ---- the room of an entry

-- the room that texts of paths need, by how many places and how many paths there are
texts_room_is : (g : LinkGraph) (last : Option ℕ) (paths : List (List ℕ)) → texts_room (by_ids g last paths)
    ≡ 11 * places_on paths + length paths * (3 + 11 * length (ended_by last []))
texts_room_is g last [] = omega arith
texts_room_is g last (path ∷ paths) =
    let own = 3 + 11 * length (ended_by last []) in
    let long = ended_long last (map (node_at g) path) in
    let same = length-map path (node_at g) in
    let rest = texts_room_is g last paths in
    let more : (length paths + 1) * own ≡ length paths * own + own = omega arith in
    omega (arith, long, same, rest, more)

product_right : (n a b : ℕ) → a ≤ b → n * a ≤ n * b
product_right n a b le =
    let d = b - a in
    let e : b ≡ a + d = omega (arith, le) in
    let f : n * (a + d) ≡ n * a + n * d = omega arith in
    omega (arith, f, ap (λ (m : ℕ). n * m) e)

-- it is within this number, if each path needs no more than `more` bytes more than for its places
pub room_within : (g : LinkGraph) (last : Option ℕ) (paths : List (List ℕ)) (more : ℕ)
    → 3 + 11 * length (ended_by last []) ≤ more
    → entry_room (by_ids g last paths) ≤ 43 + (11 * places_on paths + length paths * more)
room_within g last paths more enough =
    let is = texts_room_is g last paths in
    let le = product_right (length paths) (3 + 11 * length (ended_by last [])) more enough in
    omega (arith, is, le)

-- ---- a path that is read from its last place to its first

-- none is left
pub none_there : {T : Type 0} (r : Option T) (P : Type 0) (Q : T → Type 0) → MatchOption r P Q
    → ((x : T) → ¬ (r ≡ Some x)) → P
none_there None P Q h not = h
none_there (Some x) P Q h not = absurd (not x refl)

-- the next id
pub ids_front : (nodes before left : List ℕ) (x n : ℕ) → left ≡ before ++ x ∷ [] → n ≡ slice_index nodes x
    → ids_back nodes left ≡ n ∷ ids_back nodes before
ids_front nodes before left x n is e =
    ap (map (λ p. slice_index nodes p)) (ap reverse is ∙ reverse-append before (x ∷ []))
    ∙ ap (λ (m : ℕ). m ∷ ids_back nodes before) (sym e)

-- ---- the paths of an entry, each from its last place to its first

-- their ids
pub turned : (g : LinkGraph) (last : Option ℕ) (paths : List (List ℕ))
    → map (λ path. ended_by last (ids_back g.nodes path)) (map reverse paths) ≡ by_ids g last paths
turned g last [] = refl
turned g last (path ∷ paths) =
    ap₂ (λ (p : List ℕ) (ps : List (List ℕ)). ended_by last (map (node_at g) p) ∷ ps) (reverse-reverse path)
    (turned g last paths)

-- their places
pub places_turned : (g : LinkGraph) (paths : List (List ℕ)) → ArePlaces g paths → ArePlaces g (map reverse paths)
places_turned g [] are path h = absurd h
places_turned g (first ∷ paths) are path h = elim h [
  | inl e ↦ λ p at.
      let back = has_reversed path p at in
      let there = subst (λ (l : List ℕ). Has l p) (ap reverse (sym e) ∙ reverse-reverse first) back in
      are first (inl refl) p there
  | inr k ↦ places_turned g paths (λ r at. are r (inr at)) path k
]
