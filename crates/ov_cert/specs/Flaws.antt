-- What is wrong with an entry of a certificate that is not right, and with a path of it.
use Rattle.std.specs.Prelude.{◌≡◌, ◌≢◌, ◌⊎◌, ◌≤◌, ℕ, List, [], ◌∷◌, ◌++◌, length, take, slice_get, Option, Some, None}
use Rattle.std.specs.Prelude.{⊤}
use Rattle.ov_ids.specs.Members.{Has}
use Rattle.ov_graph.specs.Links.{LinkGraph, Linked}
use Rattle.ov_graph.specs.Paths.{ArePaths, IsFan}
use Rattle.ov_graph.specs.Even.{members_below}
use Rattle.ov_cert.specs.declared.cert.Split.{Split}
use Rattle.ov_cert.specs.declared.cert.PairPaths.{PairPaths}
use Rattle.ov_cert.specs.declared.cert.FanPaths.{FanPaths}
use Rattle.ov_cert.specs.declared.expected_entry_with_place_and_fault.Expected.{Expected}
use Rattle.ov_cert.specs.declared.expected_entry_with_place_and_fault.Expected.TheVariants.{Pair, Fan}
use Rattle.ov_cert.specs.declared.path_and_entry_flaws.PathFlaw.{PathFlaw}
use Rattle.ov_cert.specs.declared.path_and_entry_flaws.PathFlaw.TheVariants.{TooShort, BeginsAt, EndsAt, NoLink, Taken}
use Rattle.ov_cert.specs.declared.path_and_entry_flaws.EntryFlaw.{EntryFlaw}
use Rattle.ov_cert.specs.declared.path_and_entry_flaws.EntryFlaw.TheVariants.{Missing, NamesOthers, Number, Path}

-- x is in the list twice: once, and once more before that
abbrev pub OccursTwice : List ℕ → ℕ → Type 0
OccursTwice p x = (front : List ℕ) × (back : List ℕ) × (p ≡ front ++ x ∷ back) × Has front x

-- one of the lists has x
abbrev pub OneHas : List (List ℕ) → ℕ → Type 0
OneHas ps x = (r : List ℕ) × Has ps r × Has r x

-- The flaw is one that the path p has. The path should begin at `from` and end where `IsEnd` allows. With the earlier
-- paths it may share only the nodes of `shared`
abbrev pub HasPathFlaw : LinkGraph → ℕ → (ℕ → Type 0) → List ℕ → List (List ℕ) → List ℕ → PathFlaw → Type 0
HasPathFlaw g from IsEnd shared earlier p TooShort = length p ≤ 1
HasPathFlaw g from IsEnd shared earlier p (BeginsAt x) = (rest : List ℕ) × (p ≡ x ∷ rest) × (x ≢ from)
HasPathFlaw g from IsEnd shared earlier p (EndsAt x) = (front : List ℕ) × (p ≡ front ++ x ∷ []) × ¬ IsEnd x
HasPathFlaw g from IsEnd shared earlier p (NoLink x y) = (front : List ℕ) × (back : List ℕ)
    × (p ≡ front ++ x ∷ y ∷ back) × ¬ Linked g x y
HasPathFlaw g from IsEnd shared earlier p (Taken x) = Has p x
    × ((¬ Has g.nodes x) ⊎ (OccursTwice p x ⊎ ((¬ Has shared x) × OneHas earlier x)))

-- the flaw is one that the entry has, which should be the entry of the pair of i and j with k paths. A path is named
-- only if there are k paths and those before it are right
abbrev pub HasPairFlaw : LinkGraph → ℕ → ℕ → ℕ → Option PairPaths → EntryFlaw → Type 0
HasPairFlaw g k i j None Missing = ⊤
HasPairFlaw g k i j (Some e) NamesOthers = ¬ ((e.i ≡ i) × (e.j ≡ j))
HasPairFlaw g k i j (Some e) Number = (e.i ≡ i) × (e.j ≡ j) × (length e.paths ≢ k)
HasPairFlaw g k i j (Some e) (Path at flaw) = (e.i ≡ i) × (e.j ≡ j) × (length e.paths ≡ k)
    × ArePaths g i j at (take at e.paths) × ((p : List ℕ) × (slice_get e.paths at ≡ Some p)
    × HasPathFlaw g i (λ x. x ≡ j) (i ∷ j ∷ []) (take at e.paths) p flaw)
HasPairFlaw g k i j o other = ⊥

-- the flaw is one that the entry has, which should be a fan of j with k paths
abbrev pub HasFanFlaw : LinkGraph → List ℕ → ℕ → ℕ → Option FanPaths → EntryFlaw → Type 0
HasFanFlaw g q k j None Missing = ⊤
HasFanFlaw g q k j (Some e) NamesOthers = e.j ≢ j
HasFanFlaw g q k j (Some e) Number = (e.j ≡ j) × (length e.paths ≢ k)
HasFanFlaw g q k j (Some e) (Path at flaw) = (e.j ≡ j) × (length e.paths ≡ k)
    × IsFan g j (members_below q j) at (take at e.paths) × ((p : List ℕ) × (slice_get e.paths at ≡ Some p)
    × HasPathFlaw g j (Has (members_below q j)) (j ∷ []) (take at e.paths) p flaw)
HasFanFlaw g q k j o other = ⊥

-- the flaw is one that the certificate's entry at this place has
abbrev pub HasEntryFlaw : LinkGraph → List ℕ → Split → Expected → EntryFlaw → Type 0
HasEntryFlaw g q c (Pair at i j) flaw = HasPairFlaw g c.k i j (slice_get c.pairs at) flaw
HasEntryFlaw g q c (Fan at j) flaw = HasFanFlaw g q c.k j (slice_get c.fans at) flaw
