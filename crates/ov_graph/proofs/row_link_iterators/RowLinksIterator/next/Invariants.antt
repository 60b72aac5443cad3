-- what is still to come
use Rattle.std.proofs.Common.{◌≡◌, ◌-◌, length}
use Rattle.ov_graph.specs.Row.{AreWordsFor}
use Rattle.ov_graph.specs.Code.Kept.{links_from, IsKept}
use Rattle.ov_graph.proofs.row_link_iterators.RowLinksIterator.next.Given as goal

abbrev pub invariant-loop-self : goal.invariant-loop-self
invariant-loop-self l = record {
  kept : IsKept l.self-inside.nodes.now l.self-inside.rows.now;
  words : AreWordsFor (length l.self-inside.nodes.now) l.self-inside.words;
  left : links_from l.self-inside.nodes.now l.self-inside.rows.now l.self-inside.lower l.self-inside.next ≡ l.fn.self;
}

abbrev pub decreases-loop-self : goal.decreases-loop-self
decreases-loop-self l = length l.self-inside.nodes.now - l.self-inside.lower
