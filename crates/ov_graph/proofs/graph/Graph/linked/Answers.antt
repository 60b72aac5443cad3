-- An id that is no node has no links.
use Rattle.ov_graph.proofs.EvenTest.Filtered.{linked_node}
use Rattle.ov_graph.proofs.BitRows.Read.{stranger}
use Rattle.ov_graph.proofs.graph.Graph.linked.Goals as goal

pub returns-in_default-clause-linked : goal.returns-in_default-clause-linked
returns-in_default-clause-linked c = (
  (λ h. absurd (cc)),
  (λ l. absurd
      (c.in_default.ensures'.none (linked_node c.args.self.now c.args.a c.args.b c.in_default.ensures.graph l))),
)

pub returns-in_default-2-clause-linked : goal.returns-in_default-2-clause-linked
returns-in_default-2-clause-linked c =
    let none = rw c.in_default.is-0 at c.place.ensures.none in
    ((λ h. absurd (cc)), (λ l. absurd (stranger c.args.self.now c.args.a c.args.b c.place.ensures.graph none l)))
