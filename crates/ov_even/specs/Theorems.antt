-- Theorems about all graphs and groups.
use Rattle.std.specs.Prelude.{◌≡◌, ◌⊎◌, ℕ, ◌-◌, ◌<◌, List, length}
use Rattle.ov_graph.specs.Links.{LinkGraph, IsGraph, IsGroup, AreAllLinked}
use Rattle.ov_graph.specs.Joined.{FewestForGroup}
use Rattle.ov_cert.specs.declared.cert.Cert.{Cert}
use Rattle.ov_cert.specs.declared.cert.Cert.TheVariants as cert
use Rattle.ov_cert.specs.declared.cert.Split.{Split}
use Rattle.ov_fans.specs.Pieces.{IsPiece, IsGood, level_of}
use Rattle.ov_fans.specs.Cuts.{IsNearest}
use Rattle.ov_fans.specs.declared.piece.Piece.{Piece}
use Rattle.ov_even.specs.First.{IsFirst}
use Rattle.ov_even.specs.Answer.{IsAnswer}

-- each piece is good, or its nearest cut has fewer nodes than its level (Menger, Fund. Math. 10, 1927)
abbrev pub GoodOrCut : Type 0
GoodOrCut = (g : LinkGraph) (q : List ℕ) (p : Piece) → IsGraph g → IsGroup g q → IsPiece g q p
    → IsGood g q p ⊎ ((s : List ℕ) × IsNearest g q p s × (length s < level_of p))

-- the level of the first piece that is not good, less one, is the fewest node crashes that split the group (Even, SIAM
-- J. Comput. 4, 1975)
abbrev pub FirstGivesNumber : Type 0
FirstGivesNumber = (g : LinkGraph) (q : List ℕ) (p : Piece) → IsGraph g → IsGroup g q → IsFirst g q p
    → FewestForGroup g q (level_of p - 1)

-- a graph and a group have at most one first piece that is not good
abbrev pub OneFirst : Type 0
OneFirst = (g : LinkGraph) (q : List ℕ) (p r : Piece) → IsFirst g q p → IsFirst g q r → p ≡ r

-- if two members are not linked, there is a first piece that is not good
abbrev pub FirstExists : Type 0
FirstExists = (g : LinkGraph) (q : List ℕ) → IsGraph g → IsGroup g q → ¬ AreAllLinked g q → (p : Piece) × IsFirst g q p

-- two certificates of a split agree in everything but their paths: the number, the cut, near, far and the side
pub record SameSplit (c d : Split) : Type 0 where
  pub k : c.k ≡ d.k
  pub cut : c.cut ≡ d.cut
  pub near : c.near ≡ d.near
  pub far : c.far ≡ d.far
  pub side : c.side ≡ d.side

-- two certificates agree in everything but their paths
abbrev pub AreAlike : Cert → Cert → Type 0
AreAlike (cert.Linked k) (cert.Linked l) = k ≡ l
AreAlike (cert.Split c) (cert.Split d) = SameSplit c d
AreAlike (cert.Linked k) (cert.Split d) = ⊥
AreAlike (cert.Split c) (cert.Linked l) = ⊥

-- a graph and a group have one answer, apart from the paths, whatever computes it
abbrev pub OneAnswer : Type 0
OneAnswer = (g : LinkGraph) (q : List ℕ) (c d : Cert) → IsGraph g → IsAnswer g q c → IsAnswer g q d → AreAlike c d
