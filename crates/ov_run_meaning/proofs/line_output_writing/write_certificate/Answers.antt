-- The file of the report was written, or a prefix of it.
use Rattle.std.proofs.Common.{◌∙◌}
use Rattle.ov_run_meaning.specs.Accepting.{HidesCertificate, ShowsCertificate}
use Rattle.ov_run_meaning.proofs.Writing.Outcomes.{begun, done}
use Rattle.ov_run_meaning.proofs.line_output_writing.write_certificate.Goals as goal

pub returns-in-Ok-clause-outcome : goal.returns-in-Ok-clause-outcome
returns-in-Ok-clause-outcome g c =
    done (ShowsCertificate c.args.core.now c.args.subject.now) (HidesCertificate c.args.core.now c.args.subject.now) _ _
    c.as_bytes.result.now c.write_done.result
    (c.in-Some.report.now, c.in-Some.ensures.some, c.as_bytes.ensures.value ∙ c.in-Ok.ensures)
    c.write_done.ensures.outcome c.write_done.ensures.bytes

pub returns-in-Ok-clause-begun : goal.returns-in-Ok-clause-begun
returns-in-Ok-clause-begun g c =
    begun (ShowsCertificate c.args.core.now c.args.subject.now) _ _ c.as_bytes.result.now c.write_done.result
    (c.in-Some.report.now, c.in-Some.ensures.some, c.as_bytes.ensures.value ∙ c.in-Ok.ensures)
    c.write_done.ensures.prefix
