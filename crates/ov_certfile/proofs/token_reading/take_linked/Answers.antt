-- The members, one after another, are those of the file.
use Rattle.ov_certfile.proofs.Said.{linked_taken}
use Rattle.ov_certfile.proofs.token_reading.take_linked.Goals as goal

pub returns : goal.returns
returns c =
    let middle = c.in_ok-middle.middle in
    let told = c.in_ok-middle.ensures in
    record {
      members = linked_taken c.in_ok-version.version middle.group middle.k middle.moment middle.links
          c.in_ok-nodes.nodes _ _ _ _
          c.in_ok-version.ensures.suits.named told.members c.in_ok-nodes.ensures.taken c.in_ok-version.ensures.taken;
      cert = told.k;
      nodes = c.in_ok-nodes.ensures.reads_back;
      links = told.links;
      named = told.group;
      suits = c.in_ok-version.ensures.suits;
    }
