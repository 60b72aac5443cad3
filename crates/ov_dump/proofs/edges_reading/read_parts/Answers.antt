-- One edge more, and all lines.
use Rattle.std.proofs.Common.{rules}
use Rattle.ov_dump.proofs.Edging.{added, all_read}
use Rattle.ov_dump.proofs.edges_reading.read_parts.Goals as goal

pub loop-line-preserved : goal.loop-line-preserved
loop-line-preserved c =
    let before = c.loop-line.parts in
    let after = c.add_edge.new.parts in
    let line = c.in-Some.line in
    let adds = c.in_ok-add_edge-in-Edge.ensures in
    added c.args.bytes.now before.names after.names before.entries.items after.entries.items before.listings.items
    after.listings.items c.loop-line.left c.next_line.new.self line.number line.text.now c.in-Edge.a.now c.in-Edge.b.now
    c.loop-line.invariant c.in-Some.ensures c.in-Edge.ensures adds.entries adds.listings

pub returns-clause-dump : goal.returns-clause-dump
returns-clause-dump = search (rules, all_read)
