-- The members, one after another, are those of the file.
use Rattle.ov_certfile.proofs.Said.{split_taken}
use Rattle.ov_certfile.proofs.token_reading.take_split.Goals as goal

pub returns : goal.returns
returns c =
    let first = c.in_ok-first.first in
    let middle = c.in_ok-middle.middle in
    let told = c.in_ok-middle.ensures in
    record {
      members = split_taken c.in_ok-version.version middle.k first.cut first.fans first.far c.in_ok-near.near
          c.in_ok-pairs.pairs
          c.in_ok-side.side middle.group middle.moment middle.links c.in_ok-nodes.nodes _ _ _ _ _ _ _ _
          c.in_ok-version.ensures.suits.named c.in_ok-first.ensures.members told.members c.in_ok-near.ensures.taken
          c.in_ok-nodes.ensures.taken
          c.in_ok-pairs.ensures.taken c.in_ok-side.ensures.taken
          c.in_ok-version.ensures.taken;
      cert = (
        told.k,
        record {
          cut = c.in_ok-first.ensures.cut;
          near = c.in_ok-near.ensures.reads_back;
          far = c.in_ok-first.ensures.far;
          side = c.in_ok-side.ensures.reads_back;
        },
        record { pairs = c.in_ok-pairs.ensures.reads_back; fans = c.in_ok-first.ensures.fans },
      );
      nodes = c.in_ok-nodes.ensures.reads_back;
      links = told.links;
      named = told.group;
      suits = c.in_ok-version.ensures.suits;
    }
