-- The search for the level of the deciding piece: how many levels it tries, and what it has after a level was tried.
use Rattle.std.specs.Prelude.{◌≡◌, ℕ, ◌+◌, ◌*◌, ◌^◌, ◌<◌, ◌≤◌, List}
use Rattle.ov_graph.specs.Links.{LinkGraph, IsGroup}
use Rattle.ov_graph.specs.Joined.{NoFewerSplit}
use Rattle.ov_even.specs.Hauls.{SufficeKeeping}
use Rattle.ov_even.specs.Levels.{SearchState, KeepingSearch}
use Rattle.ov_even.specs.declared.level_search.Searched.{Searched}
use Rattle.ov_even.specs.declared.level_search.Searched.TheVariants.{Enough, Again}

-- this number of tries is low for n nodes: at most 2 k + 1 if there are fewer than 2^k nodes, so at most 2 log2 n + 3
abbrev pub AreFewTries : ℕ → ℕ → Type 0
AreFewTries n tries = (k : ℕ) → n < 2 ^ k → tries ≤ 2 * k + 1

-- q is a group that `fewest` nodes split, and fewer do not
pub record HasNumber (g : LinkGraph) (q : List ℕ) (fewest : ℕ) : Type 0 where
  pub group : IsGroup g q
  pub holds : NoFewerSplit g q fewest
  pub splits : ¬ NoFewerSplit g q (fewest + 1)

-- the search that tries one level, the one above `fewest`
abbrev pub last_search : LinkGraph → List ℕ → ℕ → SearchState
last_search g q fewest = record { graph = g; members = q; level = fewest + 1; left = 1 }

-- the search goes on, for the same graph and group, with a smaller bound on how many levels are still tried
pub record SearchGoesOn (s next : SearchState) : Type 0 where
  pub graph : next.graph ≡ s.graph
  pub members : next.members ≡ s.members
  pub fewer : next.left < s.left

-- after a level was tried, the hauls suffice, or the search goes on
abbrev pub IsSearched : KeepingSearch → Searched → Type 0
IsSearched s (Enough hauls) = SufficeKeeping s.keeping s.search.graph s.search.members hauls.items
IsSearched s (Again next) = SearchGoesOn s.search next.search × (next.keeping ≡ s.keeping)
