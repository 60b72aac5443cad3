-- What a dump says of the views of nodes, by the names of their hosts, and the graph that follows from it.
use Rattle.std.specs.Prelude.{◌≡◌, ◌≢◌, ◌↔◌, ◌⊎◌, ℕ, zero, suc, List, [], ◌∷◌, ◌++◌, map, length, slice_get}
use Rattle.std.specs.Prelude.{Some, MatchBool, ◌<◌, ◌*◌, ◌%◌, nat_le, if◌then◌else◌}
use Rattle.ov_ids.specs.Members.{Has, Ordered}
use Rattle.ov_graph.specs.Links.{LinkGraph, IsGraph, Linked, most_nodes}
use Rattle.ov_dump.specs.Names.{ComesBefore}
use Rattle.ov_dump.specs.declared.dump_and_graph_types.Choice.{Choice}
use Rattle.ov_dump.specs.declared.dump_and_graph_types.Dump.{Dump}
use Rattle.ov_dump.specs.declared.dump_and_graph_types.HostEntry.{HostEntry}
use Rattle.ov_dump.specs.declared.dump_and_graph_types.Listing.{Listing}

-- ---- what a dump says

-- the names of these entries, in order
abbrev pub names_of : List HostEntry → List (List ℕ)
names_of entries = map (λ e. e.name) entries

-- who lists whom, in order
abbrev pub ends_of : List Listing → List (List ℕ × List ℕ)
ends_of listings = map (λ l. (l.from, l.to)) listings

-- the name has an entry of its own
abbrev pub HasEntry : Dump → List ℕ → Type 0
HasEntry d n = Has (names_of d.entries) n

-- a lists b as its peer
abbrev pub Lists : Dump → List ℕ → List ℕ → Type 0
Lists d a b = Has (ends_of d.listings) (a, b)

-- some name lists b
abbrev pub IsListed : Dump → List ℕ → Type 0
IsListed d b = (a : List ℕ) × Lists d a b

-- the dump names n: n has an entry, lists a name, or is listed
abbrev pub IsNamed : Dump → List ℕ → Type 0
IsNamed d n = HasEntry d n ⊎ (((b : List ℕ) × Lists d n b) ⊎ IsListed d n)

-- ---- the graph that follows

-- n is a name of a node: one with an entry if only these are taken, and else any that the dump names
abbrev pub IsTaken : Choice → Dump → List ℕ → Type 0
IsTaken choice d n = MatchBool choice.entries_only (HasEntry d n) (IsNamed d n)

-- two names are linked: each lists the other; or, if that is enough, one lists the other
abbrev pub AreLinked : Choice → Dump → List ℕ → List ℕ → Type 0
AreLinked choice d a b = MatchBool choice.either (Lists d a b ⊎ Lists d b a) (Lists d a b × Lists d b a)

-- the numbers 1 to n, ascending
abbrev pub numbers : ℕ → List ℕ
numbers zero = []
numbers (suc n) = numbers n ++ suc n ∷ []

-- node i has the name a. The first name is that of node 1
abbrev pub IsNameOf : List (List ℕ) → ℕ → List ℕ → Type 0
IsNameOf names i a = (p : ℕ) × (i ≡ suc p) × (slice_get names p ≡ Some a)

-- the key of the place p of `count` names, where places count from 0. Up to `most_nodes` names it is the place. Of more
-- it goes on by 20,251 with each place, modulo 32,768, which is about 0.618 of the way round: names that follow each
-- other have keys far apart. The numbers are chosen here
abbrev pub key_of : ℕ → ℕ → ℕ
key_of count p = if nat_le count most_nodes then p else (p * 20251) % 32768

-- the place of the name a among `sorted` has a lower key than that of b
abbrev pub HasLowerKey : List (List ℕ) → List ℕ → List ℕ → Type 0
HasLowerKey sorted a b = (p q : ℕ) × (slice_get sorted p ≡ Some a) × (slice_get sorted q ≡ Some b)
    × (key_of (length sorted) p < key_of (length sorted) q)

-- nodes 1, 2 and so on have these names: those of `sorted`, in ascending order of the keys of their places
pub record AreNumbered (sorted names : List (List ℕ)) : Type 0 where
  pub each : (n : List ℕ) → Has names n ↔ Has sorted n
  pub ascend : Ordered (HasLowerKey sorted) names

-- g and the names of its nodes follow from the dump. All names that are taken, strictly ascending, are `sorted`, and
-- the nodes are numbered by them. The nodes are 1, 2 and so on, one for each name. Two nodes are linked exactly if they
-- have different names that are linked
pub record IsGraphOf (choice : Choice) (d : Dump) (g : LinkGraph) (names : List (List ℕ)) : Type 0 where
  pub sorted : List (List ℕ)
  pub ascend : Ordered ComesBefore sorted
  pub taken : (n : List ℕ) → Has sorted n ↔ IsTaken choice d n
  pub numbered : AreNumbered sorted names
  pub graph : IsGraph g
  pub nodes : g.nodes ≡ numbers (length names)
  pub links : (i j : ℕ) → Linked g i j
      ↔ ((a b : List ℕ) × IsNameOf names i a × IsNameOf names j b × (a ≢ b) × AreLinked choice d a b)
