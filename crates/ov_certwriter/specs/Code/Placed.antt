-- Entries whose paths are lists of places of nodes in the graph, and the entries by ids that they stand for.
use Rattle.std.specs.Prelude.{◌≡◌, ℕ, List, length, map, reverse, slice_index, Option, Some, None}
use Rattle.std.specs.List.{All}
use Rattle.ov_graph.specs.Links.{LinkGraph}
use Rattle.ov_graph.specs.Paths.{node_at}
use Rattle.ov_flow.specs.Flow.{ended_by}
use Rattle.ov_cert.specs.declared.cert.Cert.{Cert}
use Rattle.ov_cert.specs.declared.cert.Cert.TheVariants as cert
use Rattle.ov_cert.specs.declared.cert.Split.{Split}
use Rattle.ov_cert.specs.declared.cert.PairPaths.{PairPaths}
use Rattle.ov_cert.specs.declared.cert.FanPaths.{FanPaths}

-- the paths by ids, each with `last` at its end if one is given
abbrev pub by_ids : LinkGraph → Option ℕ → List (List ℕ) → List (List ℕ)
by_ids g last paths = map (λ path. ended_by last (map (node_at g) path)) paths

-- the ids of the nodes at these places, which are read from the last to the first
abbrev pub ids_back : List ℕ → List ℕ → List ℕ
ids_back nodes path = map (λ p. slice_index nodes p) (reverse path)

-- the entry of a pair. Its paths by places end before j
abbrev pub pair_of : LinkGraph → ℕ → ℕ → List (List ℕ) → PairPaths
pair_of g i j paths = record { i = i; j = j; paths = by_ids g (Some j) paths }

-- the entry of a fan
abbrev pub fan_of : LinkGraph → ℕ → List (List ℕ) → FanPaths
fan_of g j paths = record { j = j; paths = by_ids g None paths }

-- the same split, with these entries in place of its own
abbrev pub split_with : Split → List PairPaths → List FanPaths → Split
split_with c pairs fans = record c { pairs = pairs; fans = fans }

-- the same certificate, with these entries in place of its own. It has none if it says that all members are linked
abbrev pub cert_with : Cert → List PairPaths → List FanPaths → Cert
cert_with (cert.Linked k) pairs fans = cert.Linked k
cert_with (cert.Split c) pairs fans = cert.Split (split_with c pairs fans)

-- these are the entries of a certificate, if it is a split
abbrev pub HasEntries : Cert → List PairPaths → List FanPaths → Type 0
HasEntries (cert.Linked k) pairs fans = Unit {0}
HasEntries (cert.Split c) pairs fans = (c.pairs ≡ pairs) × (c.fans ≡ fans)

-- each entry has k paths
pub record HaveCount (k : ℕ) (ps : List PairPaths) (fs : List FanPaths) : Type 0 where
  pub pairs : All (λ e. length e.paths ≡ k) ps
  pub fans : All (λ e. length e.paths ≡ k) fs

-- each of these entries of a certificate has as many paths as it asks for, if it is a split
abbrev pub AreFull : Cert → List PairPaths → List FanPaths → Type 0
AreFull (cert.Linked k) pairs fans = Unit {0}
AreFull (cert.Split c) pairs fans = HaveCount c.k pairs fans
