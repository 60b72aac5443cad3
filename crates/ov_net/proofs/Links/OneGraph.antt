-- After the first m entries there is at most one graph.
use Rattle.std.proofs.Common.{◌≡◌, ℕ, List}
use Rattle.ov_graph.specs.Links.{LinkGraph}
use Rattle.ov_graph.proofs.GraphValues.OneGraph.{same_graphs}
use Rattle.ov_net.specs.Journal.{AreLinks}
use Rattle.ov_net.specs.declared.journal_entry_and_changes.Entry.{Entry}

pub links_one : (journal : List Entry) (m : ℕ) (g h : LinkGraph) → AreLinks journal m g → AreLinks journal m h → g ≡ h
links_one journal m g h first second =
    same_graphs g h first.graph second.graph
    (λ a. ((λ k. (second.nodes a).1 ((first.nodes a).0 k)), (λ k. (first.nodes a).1 ((second.nodes a).0 k))))
    (λ a b. ((λ k. (second.links a b).1 ((first.links a b).0 k)), (λ k. (first.links a b).1 ((second.links a b).0 k))))
