-- What an operator should look at: names that are listed and have no entry, listings that are not answered, and names
-- that list themselves.
use Rattle.std.specs.Prelude.{◌≡◌, ◌↔◌, ℕ, List, take, slice_get, Some}
use Rattle.ov_ids.specs.Members.{Has, Ordered, Ascends}
use Rattle.ov_dump.specs.Names.{ComesBefore}
use Rattle.ov_dump.specs.Dumps.{ends_of, HasEntry, IsListed, Lists}
use Rattle.ov_dump.specs.declared.dump_and_graph_types.Dump.{Dump}
use Rattle.ov_dump.specs.declared.dump_and_graph_types.Listing.{Listing}

-- names are the names that are listed and have no entry, as those of nodes that crashed or were not asked. They
-- strictly ascend
pub record AreWithoutEntry (d : Dump) (names : List (List ℕ)) : Type 0 where
  pub ascend : Ordered ComesBefore names
  pub each : (n : List ℕ) → Has names n ↔ (IsListed d n × ¬ HasEntry d n)

-- of these listings, the one at place p, counted from 0, is not answered: the name that it lists does not list the
-- other. No listing before it has the same two names in this order
abbrev pub IsUnanswered : List Listing → ℕ → Type 0
IsUnanswered listings p = (l : Listing) × (slice_get listings p ≡ Some l)
    × (¬ Has (ends_of listings) (l.to, l.from)) × (¬ Has (ends_of (take p listings)) (l.from, l.to))

-- places are those of the listings that are not answered, ascending
pub record AreUnanswered (d : Dump) (places : List ℕ) : Type 0 where
  pub ascend : Ascends places
  pub each : (p : ℕ) → Has places p ↔ IsUnanswered d.listings p

-- names are those that list themselves. They strictly ascend
pub record ListThemselves (d : Dump) (names : List (List ℕ)) : Type 0 where
  pub ascend : Ordered ComesBefore names
  pub each : (n : List ℕ) → Has names n ↔ Lists d n n

-- names are those that one of these listings lists, but for those in `entries`
pub record Missing (listings : List Listing) (entries names : List (List ℕ)) : Type 0 where
  pub each : (n : List ℕ) → Has names n ↔ (((a : List ℕ) × Has (ends_of listings) (a, n)) × ¬ Has entries n)
