-- What a search for the level of the deciding piece keeps: level `low` is good, and Even's test does not pass at level
-- `high`.
use Rattle.std.specs.Prelude.{◌≡◌, ◌≢◌, ◌⊎◌, ℕ, zero, suc, ◌+◌, ◌-◌, ◌*◌, ◌/◌, ◌<◌, ◌≤◌, Bool, IsTrue, List, length}
use Rattle.std.specs.Prelude.{if◌then◌else◌, nat_lt}
use Rattle.ov_ids.specs.Members.{Has}
use Rattle.ov_graph.specs.Links.{LinkGraph, Linked, IsGraph, IsWithinLimit, IsGroup, AreAllLinked}
use Rattle.ov_graph.specs.Joined.{SplitsGroup}
use Rattle.ov_graph.specs.Even.{PassesEven}
use Rattle.ov_fans.specs.Pieces.{level_of}
use Rattle.ov_fans.specs.Theorems.{IsNoCut}
use Rattle.ov_fans.specs.declared.piece_result.Found.{Found}
use Rattle.ov_fans.specs.declared.piece_result.Found.TheVariants.{Linked as linked_found, Paths, Cut}
use Rattle.ov_fans.specs.declared.piece_result.Settled.{Settled}
use Rattle.ov_even.specs.Hauls.{IsInHauls, AreRight}
use Rattle.ov_even.specs.Levels.{IsLevelGood, IsLevelDone, SearchState}
use Rattle.ov_even.specs.declared.worker_haul.Haul.{Haul}
use Rattle.ov_even.specs.declared.worker_haul.Keeping.{Keeping}

-- the graph and the group are such that there is a deciding piece
pub record HasDeciding (g : LinkGraph) (q : List ℕ) : Type 0 where
  pub graph : IsGraph g
  pub within : IsWithinLimit g
  pub group : IsGroup g q
  pub apart : ¬ AreAllLinked g q

-- the bounds: each piece of level `low` is good; `high` is above it and is a level of the graph, and Even's test does
-- not pass at it
pub record AreBounds (g : LinkGraph) (q : List ℕ) (low high : ℕ) : Type 0 where
  pub rises : low < high
  pub below : high < length g.nodes
  pub good : IsLevelGood g q low
  pub fails : ¬ PassesEven g q high

-- the bounds of a search, as contracts see them: the state of the search, and the good level `low`
pub record BoundsState : Type 0 where
  pub search : SearchState
  pub low : ℕ

-- the hauls that a search keeps are right, and the good level `low` is done with
pub record AreKept (keeping : Keeping) (bounds : BoundsState) (kept : List Haul) : Type 0 where
  pub right : AreRight bounds.search.graph bounds.search.members kept
  pub done : IsLevelDone keeping bounds.search.graph bounds.search.members kept bounds.low

-- the level to try next is `high` if that is just above `low`. Otherwise it lies between the two: if levels are
-- guessed, it is 2 * low + 1 or just below `high`; if not, it is in the middle
pub record IsNext (low high : ℕ) (guesses : Bool) (level : ℕ) : Type 0 where
  pub above : low < level
  pub most : level ≤ high
  pub less : low + 1 < high → level < high
  pub guessed : low + 1 < high → IsTrue guesses → (level ≡ 2 * low + 1) ⊎ (level + 1 ≡ high)
  pub middle : low + 1 < high → ¬ IsTrue guesses → level ≡ (low + high) / 2

-- how often `from` is doubled until it is above `to`, counted up to `most`
unfoldable pub doublings_within : ℕ → ℕ → ℕ → ℕ
doublings_within zero from to = 0
doublings_within (suc most) from to = if nat_lt to from then 0 else suc (doublings_within most (2 * from) to)

-- how often `from` is doubled until it is above `to`
abbrev pub doublings : ℕ → ℕ → ℕ
doublings from to = doublings_within to from to

-- a bound on how many levels are still tried, the next one among them: each try leaves at most half of the levels
-- between `low` and `high`; and if levels are guessed, low + 1 is doubled
abbrev pub tries_left : ℕ → ℕ → Bool → ℕ
tries_left low high guesses =
    doublings 1 (high - (low + 1)) + 1 + (if guesses then doublings (low + 1) high else 0)

-- one of the hauls has a cut, for a piece of the level or of a lower one
abbrev pub HasCutWithin : List Haul → ℕ → Type 0
HasCutWithin hauls level = (s : Settled) × IsInHauls hauls s × (¬ IsNoCut s.found) × (level_of s.piece ≤ level)

-- the result is a cut of this size
abbrev pub IsCutOf : Found → ℕ → Type 0
IsCutOf linked_found size = ⊥
IsCutOf (Paths paths) size = ⊥
IsCutOf (Cut parting) size = length parting.value.cut ≡ size

-- one of the hauls has a cut of this size, for a piece of the level or of a lower one
abbrev pub HasCutOf : List Haul → ℕ → ℕ → Type 0
HasCutOf hauls level size = (s : Settled) × IsInHauls hauls s × IsCutOf s.found size × (level_of s.piece ≤ level)

-- the member is not linked to some other member
abbrev pub HasUnlinked : LinkGraph → List ℕ → ℕ → Type 0
HasUnlinked g q a = (b : ℕ) × Has q b × (a ≢ b) × ¬ Linked g a b

-- a set of this size, below the level, splits the group
pub record SplitsWith (g : LinkGraph) (q : List ℕ) (level size : ℕ) : Type 0 where
  pub set : List ℕ
  pub split : SplitsGroup g q set
  pub count : length set ≡ size
  pub few : size < level
