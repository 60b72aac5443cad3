-- Version 2 can say a graph within its limits.
use Rattle.ov_certfile.specs.declared.version.Version.TheVariants.{Two}
use Rattle.ov_certfile.proofs.Rewritten.{said_by_two}
use Rattle.ov_certfile.proofs.writing.to_text_group.Goals as goal

pub returns-clause-object_back : goal.returns-clause-object_back
returns-clause-object_back c =
    let a = c.args in
    λ small. c.written_text.ensures.object_back Two
    (said_by_two a.graph.now a.group.now a.moment small c.requires)

pub returns-clause-reads_back : goal.returns-clause-reads_back
returns-clause-reads_back c =
    let a = c.args in
    λ small. c.written_text.ensures.reads_back Two (said_by_two a.graph.now a.group.now a.moment small c.requires)
