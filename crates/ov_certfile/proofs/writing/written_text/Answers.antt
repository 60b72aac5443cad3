-- The text is that of the object, which has the meaning that was written, and so has its text.
use Rattle.std.proofs.Common.{◌∙◌, ap, subst, sym, arith}
use Rattle.serde_json.specs.Written.{compact_text}
use Rattle.ov_certfile.specs.ReadsBack.{TextReadsBack}
use Rattle.ov_certfile.proofs.Rewritten.{reads_back}
use Rattle.ov_certfile.proofs.ReadAsWritten.{in_version_for, text_reads_back}
use Rattle.ov_certfile.proofs.writing.written_text.Goals as goal

pub returns-clause-text : goal.returns-clause-text
returns-clause-text c =
    let a = c.args in
    let version = c.version_for-version in
    c.in_ok-text.ensures.text
    ∙ ap compact_text (in_version_for version.result a.cert.now a.graph.now a.group.now a.moment version.ensures)

pub returns-clause-object_back : goal.returns-clause-object_back
returns-clause-object_back c =
    let a = c.args in
    let version = c.version_for-version in
    let fits = c.ranges.moment in
    λ newest said. reads_back newest version.result a.cert.now a.graph.now a.group.now a.moment version.ensures
    c.in_ok-text.ensures.reads_back (omega (arith, fits)) said

pub returns-clause-reads_back : goal.returns-clause-reads_back
returns-clause-reads_back c =
    let a = c.args in
    let version = c.version_for-version in
    let fits = c.ranges.moment in
    λ newest said. subst (TextReadsBack newest a.cert.now a.graph.now a.group.now a.moment)
    (sym (returns-clause-text c))
    (text_reads_back newest version.result a.cert.now a.graph.now a.group.now a.moment version.ensures
    c.in_ok-text.ensures.reads_back (omega (arith, fits)) (returns-clause-object_back c newest said))
