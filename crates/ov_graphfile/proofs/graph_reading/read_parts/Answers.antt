-- How the reading begins, one line more, and how it ends.
use Rattle.std.proofs.Common.{rules, ◌≡◌, ◌+◌, ◌<◌, length, map, refl, arith}
use Rattle.std.specs.Option.{option_copied}
use Rattle.ov_lines.proofs.Lines.Kept.{none_left}
use Rattle.ov_graphfile.proofs.GraphFiles.Gathering.{all_links, all_nodes, begun, readable}
use Rattle.ov_graphfile.proofs.GraphFiles.LineByLine.{all_left, line_taken, line_told, line_unread, none_told}
use Rattle.ov_graphfile.proofs.graph_reading.read_parts.Goals as goal

pub loop-before-init : goal.loop-before-init
loop-before-init c = record {
  parts = begun c.args.bytes.now c.new-parts.result.nodes.items c.new-parts.result.links.items _
      c.new-parts.ensures.nodes c.new-parts.ensures.links (all_left c.args.bytes.now);
  told = none_told c.most-most.result c.args.bytes.now _ c.new-parts.ensures.told;
  most = c.most-most.ensures;
  room = search rules;
}

pub loop-before-preserved : goal.loop-before-preserved
loop-before-preserved c =
    let l = c.loop-before in
    let line = c.split_line.result.0.now in
    let later = c.split_line.result.1.now in
    let shorter = c.split_line.ensures.shorter in
    let some : 0 < length l.left.now = omega (arith, shorter) in
    record {
      parts = line_taken c.args.bytes.now l.parts.nodes.items l.parts.links.items l.left.now line later (l.count + 1) _
          c.take.new.self.nodes.items c.take.new.self.links.items l.invariant.parts some c.split_line.ensures.line refl
          c.in-Ok.ensures.nodes c.in-Ok.ensures.links c.in-Ok.ensures.readable;
      told = line_told c.most-most.result c.args.bytes.now (map (λ t. option_copied t) l.parts.told.items)
          (map (λ t. option_copied t) c.take.new.self.told.items) l.before.now l.left.now line later l.invariant.told
          some c.split_line.ensures.line c.in-Ok.ensures.told;
      most = c.most-most.ensures;
      room = let r = l.invariant.room in omega (arith, r, shorter);
    }

pub returns-in-Err-clause-fault : goal.returns-in-Err-clause-fault
returns-in-Err-clause-fault c =
    let l = c.loop-before in
    let shorter = c.split_line.ensures.shorter in
    let some : 0 < length l.left.now = omega (arith, shorter) in
    line_unread c.args.limit c.args.bytes.now l.parts.nodes.items l.parts.links.items l.left.now
    c.split_line.result.0.now c.split_line.result.1.now (l.count + 1) c.in-Err.fault l.invariant.parts some
    c.split_line.ensures.line
    c.in-Err.ensures.fault

pub returns-clause-readable : goal.returns-clause-readable
returns-clause-readable c =
    let none : length c.loop-before.left.now ≡ 0 = search rules in
    readable c.args.bytes.now _ _ _ c.loop-before.invariant.parts
    (none_left (c.loop-before.count + 1) c.loop-before.left.now none)

pub returns-clause-nodes : goal.returns-clause-nodes
returns-clause-nodes c =
    let none : length c.loop-before.left.now ≡ 0 = search rules in
    all_nodes c.args.bytes.now _ _ _ c.loop-before.invariant.parts
    (none_left (c.loop-before.count + 1) c.loop-before.left.now none)

pub returns-clause-links : goal.returns-clause-links
returns-clause-links c =
    let none : length c.loop-before.left.now ≡ 0 = search rules in
    all_links c.args.bytes.now _ _ _ c.loop-before.invariant.parts
    (none_left (c.loop-before.count + 1) c.loop-before.left.now none)
