-- The line of the report was written, or a prefix of it.
use Rattle.std.proofs.Common.{◌≡◌, ◌∙◌}
use Rattle.ov_run_meaning.specs.Accepting.{FilesReport, RefusesAnalysis}
use Rattle.ov_run_meaning.proofs.Writing.Outcomes.{begun, done}
use Rattle.ov_run.proofs.line_running.run_analysis.Goals as goal

pub returns-in-Ok-clause-outcome : goal.returns-in-Ok-clause-outcome
returns-in-Ok-clause-outcome g c =
    let made = c.in-Ok.ensures.analysed in
    done (FilesReport c.args.hall.now c.args.subject.now c.file_analysis.new.hall)
    (λ refusal. RefusesAnalysis c.args.hall.now c.args.subject.now refusal
    × (c.file_analysis.new.hall ≡ c.args.hall.now)) _ _ c.as_bytes.result.now c.write_done.result
    (made.0, made.1, c.as_bytes.ensures.value ∙ made.2) c.write_done.ensures.outcome c.write_done.ensures.bytes

pub returns-in-Ok-clause-begun : goal.returns-in-Ok-clause-begun
returns-in-Ok-clause-begun g c =
    let made = c.in-Ok.ensures.analysed in
    begun (FilesReport c.args.hall.now c.args.subject.now c.file_analysis.new.hall) _ _ c.as_bytes.result.now
    c.write_done.result (made.0, made.1, c.as_bytes.ensures.value ∙ made.2) c.write_done.ensures.prefix
