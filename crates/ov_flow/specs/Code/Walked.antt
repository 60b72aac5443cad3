-- The walk that a search found, and the tables after it is taken.
use Rattle.std.specs.Prelude.{◌≡◌, ℕ, ◌<◌, List, [], ◌∷◌, ◌++◌, length, get_or, reverse, Option, Some, None}
use Rattle.ov_ids.specs.Members.{Has, IsDistinct}
use Rattle.ov_graph.specs.Joined.{Leads}
use Rattle.ov_graph.specs.Row.{HasBit}
use Rattle.ov_split.specs.SplitNetState.{SplitNetState}
use Rattle.ov_split.specs.Code.Residual.{Table, IsFlow}
use Rattle.ov_flow.specs.Code.Reached.{IsStepBy}
use Rattle.ov_flow.specs.declared.walk_augmentation.Hop.{Hop}

-- the table that a list represents: at each place the place before it on its path
abbrev pub table_of : List (Option ℕ) → Table
table_of from = λ v. get_or from v None

-- the list has `wide` places, and names only places below `wide`
pub record IsTable (wide : ℕ) (from : List (Option ℕ)) : Type 0 where
  pub long : length from ≡ wide
  pub told : (v u : ℕ) → table_of from v ≡ Some u → u < wide

-- the nodes of a walk after its first
abbrev pub nodes_of : List Hop → List ℕ
nodes_of [] = []
nodes_of (h ∷ hops) = h.node ∷ nodes_of hops

-- the steps lead from x to t
abbrev pub Goes : SplitNetState → Table → ℕ → List Hop → ℕ → Type 0
Goes n from x [] t = x ≡ t
Goes n from x (h ∷ hops) t = IsStepBy n from x h.node h.way × Goes n from h.node hops t

-- the steps lead from the source to t, and no node is met twice
pub record IsWalkBy (n : SplitNetState) (from : Table) (hops : List Hop) (t : ℕ) : Type 0 where
  pub goes : Goes n from n.source hops t
  pub distinct : IsDistinct (n.source ∷ nodes_of hops)

-- the node to which steps from x lead
abbrev pub end_of : ℕ → List Hop → ℕ
end_of x [] = x
end_of x (h ∷ hops) = end_of h.node hops

-- a step from x to a node that is not visited
pub record IsNextHop (n : SplitNetState) (from : Table) (x : ℕ) (visited : List ℕ) (hop : Hop) : Type 0 where
  pub step : IsStepBy n from x hop.node hop.way
  pub node : Has n.graph.nodes hop.node
  pub fresh : ¬ HasBit visited hop.node

-- `path` is the path from the source to e in the table, without the source
abbrev pub IsTraced : SplitNetState → Table → ℕ → List ℕ → Type 0
IsTraced n from e path = Leads (λ a b. from b ≡ Some a) n.source path e × IsDistinct (n.source ∷ path)

-- `next` agrees with `from` on the nodes of `done`, and with `old` elsewhere
pub record IsCopied (from old next : Table) (done : List ℕ) : Type 0 where
  pub on : (v : ℕ) → Has done v → next v ≡ from v
  pub off : (v : ℕ) → ¬ Has done v → next v ≡ old v

-- `next` is `old` with the path to e copied from `from`
pub record IsPathCopied (n : SplitNetState) (from old next : Table) (e : ℕ) : Type 0 where
  pub path : List ℕ
  pub traced : IsTraced n from e path
  pub copied : IsCopied from old next path

-- the last of the ends is the new target. The table holds paths to the other ends
pub record IsFlowBefore (n : SplitNetState) (from : Table) (ends : List ℕ) (target : ℕ) : Type 0 where
  pub before : List ℕ
  pub is : ends ≡ before ++ target ∷ []
  pub flow : IsFlow n from before

-- `new` is `old` and then the path to e, written backwards
pub record IsWritten (n : SplitNetState) (from : Table) (old new : List ℕ) (e : ℕ) : Type 0 where
  pub path : List ℕ
  pub traced : IsTraced n from e path
  pub items : new ≡ old ++ reverse (n.source ∷ path)
