-- When a certificate is valid for a group of a graph. Its number is then the fewest node crashes that split the group,
-- by Even's test (Even, SIAM J. Comput. 4, 1975). `IsValid` is the case in which the group is all nodes.
use Rattle.std.specs.Prelude.{◌≡◌, ◌↔◌, ◌⊎◌, ℕ, ◌+◌, ◌<◌, List, length, map}
use Rattle.ov_ids.specs.Members.{Has, Ordered, Ascends}
use Rattle.ov_graph.specs.Links.{LinkGraph, Linked, AreAllLinked, IsGroup}
use Rattle.ov_graph.specs.Joined.{Survives, IsNodeSet}
use Rattle.ov_graph.specs.Paths.{ArePaths, IsFan}
use Rattle.ov_graph.specs.Even.{IsUnlinkedPair, later_members, members_below}
use Rattle.ov_cert.specs.declared.cert.Cert.{Cert}
use Rattle.ov_cert.specs.declared.cert.Cert.TheVariants as cert
use Rattle.ov_cert.specs.declared.cert.Split.{Split}
use Rattle.ov_cert.specs.declared.cert.PairPaths.{PairPaths}
use Rattle.ov_cert.specs.declared.cert.FanPaths.{FanPaths}

-- the number k that a certificate proves
abbrev pub k_of : Cert → ℕ
k_of (cert.Linked k) = k
k_of (cert.Split c) = c.k

-- the side is a set of surviving nodes that has near and not far. Near and far are surviving members. Every link of a
-- node of the side ends in the side or in the cut, so the cut separates near from far
pub record IsCutOff (g : LinkGraph) (q : List ℕ) (c : Split) : Type 0 where
  pub near_survives : Survives q c.cut c.near
  pub far_survives : Survives q c.cut c.far
  pub side_ascends : Ascends c.side
  pub side_survives : (a : ℕ) → Has c.side a → Survives g.nodes c.cut a
  pub near_inside : Has c.side c.near
  pub far_outside : ¬ Has c.side c.far
  pub closed : (a b : ℕ) → Has c.side a → Linked g a b → Has c.side b ⊎ Has c.cut b

-- the order of pairs: by the second node, then by the first
abbrev pub PairPrecedes : ℕ × ℕ → ℕ × ℕ → Type 0
PairPrecedes p r = (p.1 < r.1) ⊎ ((p.1 ≡ r.1) × (p.0 < r.0))

-- the expected pairs: the unlinked pairs among the first k members, each once, in order
pub record AreUnlinkedPairs (g : LinkGraph) (q : List ℕ) (k : ℕ) (pairs : List (ℕ × ℕ)) : Type 0 where
  pub order : Ordered PairPrecedes pairs
  pub each : (p : ℕ × ℕ) → Has pairs p ↔ IsUnlinkedPair g q k p

-- there is exactly one entry for each expected pair, in order, with k paths that share only their two ends
pub record HavePaths (g : LinkGraph) (q : List ℕ) (k : ℕ) (entries : List PairPaths) : Type 0 where
  pub names : AreUnlinkedPairs g q k (map (λ e. (e.i, e.j)) entries)
  pub paths : (e : PairPaths) → Has entries e → ArePaths g e.i e.j k e.paths

-- there is exactly one entry for each later member, in order, with a fan of k paths to members below it
pub record HaveFans (g : LinkGraph) (q : List ℕ) (k : ℕ) (entries : List FanPaths) : Type 0 where
  pub names : map (λ e. e.j) entries ≡ later_members q k
  pub fans : (e : FanPaths) → Has entries e → IsFan g e.j (members_below q e.j) k e.paths

-- the cut is a set of k nodes that cuts off the side, so k crashes can split the group. The pairs and fans pass Even's
-- test at k, so fewer crashes cannot
pub record IsValidSplit (g : LinkGraph) (q : List ℕ) (c : Split) : Type 0 where
  pub count : length c.cut ≡ c.k
  pub cut : IsNodeSet g c.cut
  pub side : IsCutOff g q c
  pub pairs : HavePaths g q c.k c.pairs
  pub fans : HaveFans g q c.k c.fans

-- the members are a group of the graph. If the certificate says linked, every two members are linked, and k is one less
-- than the number of members. If it says split, its parts are valid as in `IsValidSplit`
abbrev pub IsValidForGroup : LinkGraph → List ℕ → Cert → Type 0
IsValidForGroup g q (cert.Linked k) = IsGroup g q × (length q ≡ k + 1) × AreAllLinked g q
IsValidForGroup g q (cert.Split c) = IsGroup g q × IsValidSplit g q c

-- the certificate is valid for the group of all nodes
abbrev pub IsValid : LinkGraph → Cert → Type 0
IsValid g c = IsValidForGroup g g.nodes c
