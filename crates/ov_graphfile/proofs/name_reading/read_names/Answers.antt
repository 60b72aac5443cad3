-- One line more, and all lines.
use Rattle.std.proofs.Common.{rules, ◌≡◌, ◌∙◌, length, map, sym, subst}
use Rattle.std.specs.Option.{option_copied}
use Rattle.ov_graphfile.specs.NameLines.{AreNamesOf}
use Rattle.ov_graphfile.proofs.Readings.{line_taken, all_read}
use Rattle.ov_graphfile.proofs.name_reading.read_names.Goals as goal

pub loop-comment-preserved : goal.loop-comment-preserved
loop-comment-preserved c = record {
  size = c.take_line.ensures.size ∙ c.loop-comment.invariant.size;
  reading = line_taken c.args.bytes.now c.args.graph.now c.loop-comment.comment.now c.loop-comment.left.now
      c.split_line.result.0.now c.split_line.result.1.now (map (λ t. option_copied t) c.loop-comment.told.items)
      (map (λ t. option_copied t) c.take_line.new.told.items) c.loop-comment.invariant.reading
      c.split_line.ensures.shorter c.split_line.ensures.line c.take_line.ensures.taken;
}

pub returns : goal.returns
returns c =
    let none : length c.loop-comment.left.now ≡ 0 = search rules in
    subst (AreNamesOf c.args.bytes.now c.args.graph.now) (sym c.new.ensures)
    (all_read c.args.bytes.now c.args.graph.now c.loop-comment.comment.now c.loop-comment.left.now
    (map (λ t. option_copied t) c.loop-comment.told.items) c.loop-comment.invariant.reading none)
