-- How the search begins, one line more, and how it ends.
use Rattle.std.proofs.Common.{◌≡◌, ◌∙◌, None, Some, ap, sym}
use Rattle.std.specs.Result.{result_ok}
use Rattle.ov_graphfile.specs.GraphFiles.{graph_line}
use Rattle.ov_graphfile.proofs.GraphFiles.Unread.{begun, counted, passed, all_unread}
use Rattle.ov_graphfile.proofs.unread_lines_with_count.unread_lines.Goals as goal

pub loop-line-init : goal.loop-line-init
loop-line-init c =
    begun c.args.bytes.now c.args.most c.none-unread.result c.new-left.result c.none-unread.ensures.first
    c.none-unread.ensures.count c.new-left.ensures

pub loop-line-preserved-in-Continue-1 : goal.loop-line-preserved-in-Continue-1
loop-line-preserved-in-Continue-1 c =
    let before = c.loop-line.invariant in
    let line = c.in-Some.line in
    let reads : graph_line line.text.now ≡ None = sym c.read_graph_line.ensures ∙ ap result_ok c.in-Err.is in
    counted c.args.bytes.now c.args.most c.loop-line.unread c.add.new.self c.loop-line.left c.next_line.new.self
    line.number line.text.now before c.in-Some.ensures reads (c.in_ok-add.ensures before.so_far before.first)

pub loop-line-preserved : goal.loop-line-preserved
loop-line-preserved c =
    let line = c.in-Some.line in
    let says = c.in_default-read_graph_line.field-0 in
    let reads : graph_line line.text.now ≡ Some says =
    sym c.read_graph_line.ensures ∙ ap result_ok c.in_default-read_graph_line.is in
    passed c.args.bytes.now c.args.most c.loop-line.unread c.loop-line.left c.next_line.new.self line.number
    line.text.now says c.loop-line.invariant c.in-Some.ensures reads

pub returns : goal.returns
returns c =
    all_unread c.args.bytes.now c.args.most c.loop-line.unread c.loop-line.left c.loop-line.invariant
    c.in_default.ensures
