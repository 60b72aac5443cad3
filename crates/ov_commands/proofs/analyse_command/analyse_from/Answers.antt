-- The status is that of what was answered of the bytes that were read.
use Rattle.std.proofs.Common.{◌≡◌, Some, ap, inr, option_map, subst}
use Rattle.ov_answers.specs.Analysing.{IsAnalysisOf}
use Rattle.ov_commands.specs.Naming.{WasAnalysed, asked_of}
use Rattle.ov_commands.proofs.Alarms.{status_of_reader}
use Rattle.ov_commands.proofs.analyse_command.analyse_from.Goals as goal

pub returns-clause-answer : goal.returns-clause-answer
returns-clause-answer g c =
    let asked = asked_of c.args.analysis.now c.args.lists.now in
    let none = c.is_empty.ensures c.if-not-is_empty.false in
    let bytes = c.in_ok-bytes.bytes.items in
    let value = c.deref-2.ensures.value in
    let same : c.deref-2.result.now ≡ bytes = cc in
    let old = c.args.sink.now in
    let new = c.analyse_told-answer.new.sink in
    let analysis = subst (λ b. IsAnalysisOf asked.limit (Some b) g.W.Write.contents old asked.ids asked.certificate new
    c.analyse_told-answer.result) same c.analyse_told-answer.ensures.analysis in
    let was : WasAnalysed bytes asked g.W.Write.contents old new c.status_of_analysis.result = inr (
      ap (option_map (λ text. text.items)) none.0,
      ap (option_map (λ text. text.items)) none.1,
      c.if-analysis.false,
      (c.analyse_told-answer.result, analysis, c.status_of_analysis.ensures.returned),
    ) in
    status_of_reader bytes asked g.W.Write.contents old new (g.R.Read.remaining c.args.reader)
    c.status_of_analysis.result c.in_ok-bytes.ensures.bytes was
