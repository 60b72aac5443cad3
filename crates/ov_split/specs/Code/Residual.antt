-- Paths that are held while one more is sought (Even, SIAM J. Comput. 4, 1975): a table with the node before each node
-- on its path, and the residual steps that lead to one more path. A node here represents both of its copies in the
-- paper's network.
use Rattle.std.specs.Prelude.{◌≡◌, ◌≢◌, ℕ, ◌⊎◌, List, Option, Some, None}
use Rattle.std.specs.Option.{unwrap_or}
use Rattle.ov_ids.specs.Members.{Has, IsDistinct}
use Rattle.ov_graph.specs.Links.{Linked}
use Rattle.ov_graph.specs.Joined.{Leads}
use Rattle.ov_split.specs.SplitNetState.{SplitNetState}

-- a path may step from a to b: they are linked, and b is not avoided
abbrev pub IsFree : SplitNetState → ℕ → ℕ → Type 0
IsFree n a b = Linked n.graph a b × ¬ Has n.avoided b

-- the node before each node on its path, or None if no path comes to it
abbrev pub Table : Type 0
Table = ℕ → Option ℕ

-- v is used: a path comes to it
abbrev pub IsUsed : Table → ℕ → Type 0
IsUsed from v = (u : ℕ) × (from v ≡ Some u)

-- the table holds a path from the source to each of `ends`. No two paths meet after the source, and none continues
-- after its end
pub record AreHeld (n : SplitNetState) (from : Table) (ends : List ℕ) : Type 0 where
  pub root : from n.source ≡ None
  pub free : (v u : ℕ) → from v ≡ Some u → IsFree n u v
  pub comes : (v u : ℕ) → from v ≡ Some u → (u ≡ n.source) ⊎ IsUsed from u
  pub once : (v w u : ℕ) → from v ≡ Some u → from w ≡ Some u → u ≢ n.source → v ≡ w
  pub ends_used : (e : ℕ) → Has ends e → (e ≡ n.source) ⊎ IsUsed from e
  pub ends_last : (e v : ℕ) → Has ends e → e ≢ n.source → from v ≡ Some e → ⊥
  pub distinct : IsDistinct ends

-- each used node is on a path to one of the ends
abbrev pub IsTidy : Table → List ℕ → Type 0
IsTidy from ends = (v : ℕ) → IsUsed from v → (e : ℕ) × Has ends e
    × ((steps : List ℕ) × Leads (λ a b. from b ≡ Some a) v steps e)

-- what the table holds between two searches: paths to targets, and nothing else
pub record IsFlow (n : SplitNetState) (from : Table) (ends : List ℕ) : Type 0 where
  pub held : AreHeld n from ends
  pub tidy : IsTidy from ends
  pub targets : (e : ℕ) → Has ends e → Has n.targets e

-- a residual step moves the open end from x to y. The first kind takes a free link from x to some w other than the
-- source. If no path comes to w, the new open end is w. If a path comes to w, the open path continues along it from w
-- on, and the new open end is the node before w on that path. The second kind gives up the last step of the path to x,
-- which came from y
abbrev pub IsResidual : SplitNetState → Table → ℕ → ℕ → Type 0
IsResidual n from x y = ((w : ℕ) × IsFree n x w × (w ≢ n.source) × (unwrap_or (from w) w ≡ y)) ⊎ (from x ≡ Some y)

-- `reached` are the nodes to which residual steps lead from the source, and none of them is a target
pub record IsStuck (n : SplitNetState) (from : Table) (reached : List ℕ) : Type 0 where
  pub source : Has reached n.source
  pub closed : (x y : ℕ) → Has reached x → IsResidual n from x y → Has reached y
  pub led : (x : ℕ) → Has reached x → (walk : List ℕ) × Leads (IsResidual n from) n.source walk x
  pub no_target : (x : ℕ) → Has reached x → ¬ Has n.targets x

-- s is the boundary of `reached`: the nodes outside it to which a path may step from it
pub record IsBoundary (n : SplitNetState) (reached s : List ℕ) : Type 0 where
  pub distinct : IsDistinct s
  pub out : (w : ℕ) → Has s w → ¬ Has reached w
  pub behind : (w : ℕ) → Has s w → (x : ℕ) × Has reached x × IsFree n x w
  pub all : (x w : ℕ) → Has reached x → IsFree n x w → Has reached w ⊎ Has s w
