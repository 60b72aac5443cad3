-- How the search begins, one line more, and how it ends.
use Rattle.std.proofs.Common.{rules}
use Rattle.ov_graphfile.proofs.GraphFiles.Finding.{begun, counted, found, not_found, passed}
use Rattle.ov_graphfile.proofs.line_finding.nth_line.Goals as goal

pub loop-line-init : goal.loop-line-init
loop-line-init c = begun c.args.bytes.now c.args.kind c.args.at c.new-lines.result c.new-lines.ensures

pub loop-line-preserved-then-is_of_kind : goal.loop-line-preserved-then-is_of_kind
loop-line-preserved-then-is_of_kind = search (rules, counted)

pub loop-line-preserved : goal.loop-line-preserved
loop-line-preserved = search (rules, passed)

pub returns-then-before-eq0 : goal.returns-then-before-eq0
returns-then-before-eq0 = search (rules, found)

pub returns : goal.returns
returns = search (rules, not_found)
