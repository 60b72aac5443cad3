-- Reports, and when what a report says is true (Menger, Fund. Math. 10, 1927; Even, SIAM J. Comput. 4, 1975).
use Rattle.std.specs.Prelude.{ℕ, List, None}
use Rattle.ov_graph.specs.Links.{LinkGraph}
use Rattle.ov_cert.specs.State.{CheckedState}
use Rattle.ov_cert.specs.Theorems.{IsTrueForGroup}
use Rattle.ov_cert.specs.Verdict.{JudgedForGroup}
use Rattle.ov_cert.specs.declared.cert.Cert.{Cert}
use Rattle.ov_net.specs.Journal.{AreLinks}
use Rattle.ov_net.specs.declared.journal_entry_and_changes.Entry.{Entry}
use Rattle.ov_snap.specs.Snapshots.{IsMoment}

-- a report: its moment, the graph of that moment, the members of a group of its nodes, and a certificate
pub record ReportState : Type 0 where
  pub moment : ℕ
  pub graph : LinkGraph
  pub members : List ℕ
  pub cert : Cert

-- the report of this moment with this graph, group and certificate
abbrev pub report_of : ℕ → CheckedState → ReportState
report_of moment checked = record {
  moment = moment;
  graph = checked.graph;
  members = checked.members;
  cert = checked.cert;
}

-- What the report says is true. A snapshot was taken at its moment. Its graph has exactly the links that both ends held
-- then. Its certificate is true of its group: crashing the k nodes of its cut leaves two surviving members that are not
-- joined, or every two members are linked and k is one less than their number; without any fewer nodes every two
-- surviving members are joined; so k is the fewest crashes that split the group. And the checker, given graph, group
-- and certificate alone, finds no fault.
pub record IsTrueReport (journal : List Entry) (r : ReportState) : Type 0 where
  pub moment : IsMoment journal r.moment
  pub links : AreLinks journal r.moment r.graph
  pub certificate : IsTrueForGroup r.graph r.members r.cert
  pub verdict : JudgedForGroup r.graph r.members r.cert None
