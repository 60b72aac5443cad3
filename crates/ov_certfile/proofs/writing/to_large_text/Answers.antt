-- Version 3 can say each graph and each moment.
use Rattle.std.proofs.Common.{arith}
use Rattle.ov_certfile.specs.declared.version.Version.TheVariants.{Three}
use Rattle.ov_certfile.proofs.Rewritten.{said_by_three}
use Rattle.ov_certfile.proofs.writing.to_large_text.Goals as goal

pub returns-clause-object_back : goal.returns-clause-object_back
returns-clause-object_back c =
    let a = c.args in
    let fits = c.ranges.moment in
    c.written_text.ensures.object_back Three
    (said_by_three a.graph.now a.group.now a.moment c.nodes.ensures.within (omega (arith, fits)))

pub returns-clause-reads_back : goal.returns-clause-reads_back
returns-clause-reads_back c =
    let a = c.args in
    let fits = c.ranges.moment in
    c.written_text.ensures.reads_back Three
    (said_by_three a.graph.now a.group.now a.moment c.nodes.ensures.within (omega (arith, fits)))
