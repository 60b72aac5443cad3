-- A graph with a group and a valid certificate.
use Rattle.std.specs.Prelude.{ℕ, List}
use Rattle.ov_graph.specs.Links.{LinkGraph}
use Rattle.ov_cert.specs.declared.cert.Cert.{Cert}

-- the value of a `Checked` in contracts: the graph, the members of the group, and the certificate, which is valid for
-- them
pub record CheckedState : Type 0 where
  pub graph : LinkGraph
  pub members : List ℕ
  pub cert : Cert
