-- The paths that are held between two searches, and the buffers of a search.
use Rattle.std.specs.Prelude.{◌≡◌, ℕ, ◌+◌, ◌*◌, ◌<◌, ◌≤◌, [], length, vec_len, vec_capacity, Some, None}
use Rattle.ov_ids.specs.Members.{Has}
use Rattle.ov_graph.specs.Links.{Linked}
use Rattle.ov_graph.specs.Row.{word_bits}
use Rattle.ov_split.specs.SplitNetState.{SplitNetState}
use Rattle.ov_split.specs.Code.Residual.{Table, IsFree, AreHeld, IsFlow}
use Rattle.ov_split.specs.Places.{net_by_place}
use Rattle.ov_split.specs.Placed.{IsPlaced}
use Rattle.ov_flow.specs.Code.Reached.{IsGrown, IsSwept}
use Rattle.ov_flow.specs.Code.Walked.{table_of}
use Rattle.ov_flow.specs.declared.search_tree.Tree.{Tree}
use Rattle.ov_flow.specs.declared.search_tree.TreeRoom.{TreeRoom}
use Rattle.ov_flow.specs.declared.augmenting_paths.Work.{Work}
use Rattle.ov_flow.specs.declared.augmenting_paths.WorkRoom.{WorkRoom}

-- the net can be searched by place, and sets of W words have room for its places
pub record IsReady (W : ℕ) (n : SplitNetState) : Type 0 where
  pub placed : IsPlaced (net_by_place n) (length n.graph.nodes)
  pub room : length n.graph.nodes ≤ word_bits * W

-- the tree has room for this many nodes
abbrev pub HasTreeRoom : {W : ℕ} → ℕ → Tree W → Type 0
HasTreeRoom wide t = (wide ≤ vec_capacity t.order) × (wide ≤ vec_capacity t.parents) × (wide ≤ vec_capacity t.ways)

-- a tree in this room has room for this many nodes
abbrev pub IsRoomFor : ℕ → TreeRoom → Type 0
IsRoomFor wide t = (wide ≤ vec_capacity t.order) × (wide ≤ vec_capacity t.parents) × (wide ≤ vec_capacity t.ways)

-- the tree has room for one more node
abbrev pub HasNodeRoom : {W : ℕ} → Tree W → Type 0
HasNodeRoom t = (vec_len t.order < vec_capacity t.order) × (vec_len t.parents < vec_capacity t.parents)
    × (vec_len t.ways < vec_capacity t.ways)

-- each table has `wide` places, and each other buffer has room for as many items
pub record HasWorkRoom {W : ℕ} (wide : ℕ) (w : Work W) : Type 0 where
  pub from : length w.from ≡ wide
  pub next : length w.next ≡ wide
  pub tree : HasTreeRoom wide w.tree
  pub hops : wide ≤ vec_capacity w.hops
  pub ends : wide ≤ vec_capacity w.ends

-- the tables hold paths of the net
abbrev pub Holds : {W : ℕ} → SplitNetState → Work W → Type 0
Holds n w = IsFlow (net_by_place n) (table_of w.from) w.ends.items

-- each table has a place for each node of the net, and paths of the net are held
pub record IsWorkOf {W : ℕ} (n : SplitNetState) (w : Work W) : Type 0 where
  pub room : HasWorkRoom (length n.graph.nodes) w
  pub flow : Holds n w

-- each table has `wide` places, each other list has room for as many items, and no path is held
pub record IsFreshRoom {W : ℕ} (wide : ℕ) (r : WorkRoom W) : Type 0 where
  pub from : length r.from ≡ wide
  pub next : length r.next ≡ wide
  pub tree : IsRoomFor wide r.tree
  pub hops : wide ≤ vec_capacity r.hops
  pub ends : wide ≤ vec_capacity r.ends
  pub no_end : r.ends.items ≡ []
  pub no_place : (v : ℕ) → table_of r.from v ≡ None

-- the same, but the table may have cycles beside the paths
pub record IsOpenWorkOf {W : ℕ} (n : SplitNetState) (w : Work W) : Type 0 where
  pub room : HasWorkRoom (length n.graph.nodes) w
  pub held : AreHeld (net_by_place n) (table_of w.from) w.ends.items
  pub targets : (e : ℕ) → Has w.ends.items e → Has (net_by_place n).targets e

-- each path that is held has one link: a path comes only to targets that the source is linked to
abbrev pub IsOneLinkEach : {W : ℕ} → SplitNetState → Work W → Type 0
IsOneLinkEach n w = (v u : ℕ) → table_of w.from v ≡ Some u
    → Linked (net_by_place n).graph (net_by_place n).source v × Has (net_by_place n).targets v

-- a path may go from the source over u to the target t: u is no target, and no path comes to either
pub record MayGoOver (n : SplitNetState) (from : Table) (u t : ℕ) : Type 0 where
  pub first : IsFree n n.source u
  pub second : IsFree n u t
  pub inner : ¬ Has n.targets u
  pub target : Has n.targets t
  pub fresh : (a : ℕ) → from u ≡ Some a → ⊥
  pub unused : (a : ℕ) → from t ≡ Some a → ⊥

-- t is a target that is neither avoided nor linked to the source
pub record IsFarTarget (n : SplitNetState) (t : ℕ) : Type 0 where
  pub target : Has n.targets t
  pub off : ¬ Has n.avoided t
  pub far : ¬ Linked n.graph n.source t

-- t is a free target: it is a target, it is not avoided, and no path comes to it
pub record IsFreeTarget (n : SplitNetState) (from : Table) (t : ℕ) : Type 0 where
  pub target : Has n.targets t
  pub off : ¬ Has n.avoided t
  pub unused : (a : ℕ) → from t ≡ Some a → ⊥

-- the same paths are held
pub record IsSame {W : ℕ} (old new : Work W) : Type 0 where
  pub from : new.from ≡ old.from
  pub ends : new.ends.items ≡ old.ends.items

-- one more path is held
abbrev pub IsLonger : {W : ℕ} → Work W → Work W → Type 0
IsLonger old new = length new.ends.items ≡ length old.ends.items + 1

-- the last search found no path
pub record IsAtEnd {W : ℕ} (n : SplitNetState) (w : Work W) : Type 0 where
  pub grown : IsGrown (net_by_place n) (table_of w.from) w.tree
  pub swept : IsSwept (net_by_place n) (table_of w.from) w.tree
