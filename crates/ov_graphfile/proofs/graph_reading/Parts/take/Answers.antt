-- A line that is skipped says nothing.
use Rattle.std.proofs.Common.{rules, ◌≡◌, ◌∙◌, ◌++◌, true, Option, None, map, take, ap, sym, append-nil}
use Rattle.ov_lines.specs.Lines.{is_skipped, words_of}
use Rattle.ov_graphfile.specs.GraphFiles.{graph_line, node_said}
use Rattle.ov_graphfile.specs.Code.Told.{name_by}
use Rattle.ov_graphfile.specs.declared.graph_line.GraphLine.{GraphLine}
use Rattle.ov_graphfile.proofs.Sole.{skipped_none}
use Rattle.ov_graphfile.proofs.graph_reading.Parts.take.Goals as goal

pub returns-then-is_skipped-clause-told : goal.returns-then-is_skipped-clause-told
returns-then-is_skipped-clause-told c names are =
    let is : is_skipped c.args.line.now ≡ true = search rules in
    let none : graph_line c.args.line.now ≡ None = skipped_none (words_of c.args.line.now) is in
    are
    ∙ ap (λ ns. take c.args.most ns) (sym (append-nil names))
    ∙ ap (λ (o : Option GraphLine). take c.args.most (names ++ map (name_by c.args.before.now) (node_said o)))
    (sym none)
