-- The tree of a breadth-first search: the reached nodes in the order of finding, each with the place of its parent in
-- this order and the step from its parent.
use Rattle.std.specs.Prelude.{◌≡◌, ◌≢◌, ◌↔◌, ℕ, ◌-◌, ◌<◌, ◌≤◌, ◌⊎◌, List, length, get_or, slice_index, Option, Some}
use Rattle.std.specs.Prelude.{None}
use Rattle.std.specs.Option.{unwrap_or}
use Rattle.ov_ids.specs.Members.{Has, IsDistinct}
use Rattle.ov_graph.specs.Links.{Linked}
use Rattle.ov_graph.specs.Row.{HasBit}
use Rattle.ov_split.specs.SplitNetState.{SplitNetState}
use Rattle.ov_split.specs.Code.Residual.{Table, IsFree, IsStuck}
use Rattle.ov_flow.specs.declared.search_tree.Tree.{Tree}

-- the open end after a link to w is taken: the node before w on its path, or w if no path comes to it
abbrev pub tip_of : Table → ℕ → ℕ
tip_of from w = unwrap_or (from w) w

-- the link from x to w may be taken, and then the open end is y
abbrev pub IsWay : SplitNetState → Table → ℕ → ℕ → ℕ → Type 0
IsWay n from x y w = IsFree n x w × (w ≢ n.source) × (tip_of from w ≡ y)

-- a residual step from x to y: by a link to w, or back along a path
abbrev pub IsStepBy : SplitNetState → Table → ℕ → ℕ → Option ℕ → Type 0
IsStepBy n from x y (Some w) = IsWay n from x y w
IsStepBy n from x y None = from x ≡ Some y

-- a search tree. The first node is the source. A step leads to each later node from its parent, which comes before it
pub record IsTree (n : SplitNetState) (from : Table) (order parents : List ℕ) (ways : List (Option ℕ)) : Type 0 where
  pub some : 0 < length order
  pub count : length parents ≡ length order
  pub long : length ways ≡ length order
  pub root : slice_index order 0 ≡ n.source
  pub parent : (k : ℕ) → 0 < k → k < length order → slice_index parents k < k
  pub step : (k : ℕ) → 0 < k → k < length order
      → IsStepBy n from (slice_index order (slice_index parents k)) (slice_index order k) (get_or ways k None)
  pub distinct : IsDistinct order
  pub nodes : (x : ℕ) → Has order x → Has n.graph.nodes x

-- the tree has a parent and a step for each node. Each parent comes before its child
pub record IsShaped (order parents : List ℕ) (ways : List (Option ℕ)) : Type 0 where
  pub some : 0 < length order
  pub count : length parents ≡ length order
  pub long : length ways ≡ length order
  pub parent : (k : ℕ) → 0 < k → k < length order → slice_index parents k < k

-- a link to w was taken: a path may step to w from a reached node, and the open end is reached
pub record IsTaken (n : SplitNetState) (from : Table) (order : List ℕ) (w : ℕ) : Type 0 where
  pub x : ℕ
  pub behind : Has order x
  pub free : IsFree n x w
  pub tip : Has order (tip_of from w)

-- a search tree with two rows of bits. `reached` has its nodes. `seen` has the avoided nodes, the source, and nodes to
-- which links were taken
pub record IsGrownBy (n : SplitNetState) (from : Table) (order parents : List ℕ) (ways : List (Option ℕ))
    (reached seen : List ℕ) : Type 0 where
  pub is_tree : IsTree n from order parents ways
  pub marked : (p : ℕ) → HasBit reached p ↔ Has order p
  pub off : (w : ℕ) → Has n.avoided w → HasBit seen w
  pub source : HasBit seen n.source
  pub sees : (w : ℕ) → HasBit seen w → (Has n.avoided w ⊎ (w ≡ n.source)) ⊎ IsTaken n from order w

-- the same for a `Tree`
abbrev pub IsGrown : {W : ℕ} → SplitNetState → Table → Tree W → Type 0
IsGrown n from t = IsGrownBy n from t.order.items t.parents.items t.ways.items t.reached t.seen

-- the tree of a search, by some table
abbrev pub IsTreeOf : {W : ℕ} → SplitNetState → Tree W → Type 0
IsTreeOf n t = (from : Table) × IsGrown n from t

-- xs is a prefix of ys
abbrev pub Extends : List ℕ → List ℕ → Type 0
Extends xs ys = (length xs ≤ length ys) × ((k : ℕ) → k < length xs → slice_index ys k ≡ slice_index xs k)

-- each node that was reached or seen still is
pub record IsMore {W : ℕ} (old new : Tree W) : Type 0 where
  pub order : Extends old.order.items new.order.items
  pub seen : (w : ℕ) → HasBit old.seen w → HasBit new.seen w

-- no target is reached
abbrev pub IsClean : {W : ℕ} → SplitNetState → Tree W → Type 0
IsClean n t = (x : ℕ) → Has t.order.items x → ¬ Has n.targets x

-- the last node reached is a target
abbrev pub IsSearchEnded : {W : ℕ} → SplitNetState → Tree W → Type 0
IsSearchEnded n t = Has n.targets (get_or t.order.items (length t.order.items - 1) 0)

-- no target is reached, and each node that x is linked to is seen
pub record IsSweptAt {W : ℕ} (n : SplitNetState) (x : ℕ) (t : Tree W) : Type 0 where
  pub clean : IsClean n t
  pub links : (w : ℕ) → Linked n.graph x w → HasBit t.seen w

-- each step from x was taken, and no target is reached
pub record IsVisited {W : ℕ} (n : SplitNetState) (from : Table) (x : ℕ) (t : Tree W) : Type 0 where
  pub swept : IsSweptAt n x t
  pub back : (u : ℕ) → from x ≡ Some u → Has t.order.items u

-- a search found no target: it is stuck, and each node that a reached node is linked to is seen
pub record IsSwept {W : ℕ} (n : SplitNetState) (from : Table) (t : Tree W) : Type 0 where
  pub stuck : IsStuck n from t.order.items
  pub links : (x w : ℕ) → Has t.order.items x → Linked n.graph x w → HasBit t.seen w
