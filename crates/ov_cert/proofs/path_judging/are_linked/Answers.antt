-- The graph's own test equals this test.
use Rattle.std.proofs.Common.{refl}
use Rattle.ov_graph.specs.Code.Tests.{are_joined}
use Rattle.ov_graph.proofs.EvenTest.Tested.{joined_tested}
use Rattle.ov_cert.proofs.PathRules.Ends.{same_test}
use Rattle.ov_cert.proofs.path_judging.are_linked.Goals as goal

pub returns : goal.returns
returns c =
    let g = c.args.graph.now in
    same_test c.linked.result (are_joined g.links c.args.a c.args.b) c.linked.ensures.linked
    (joined_tested g c.args.a c.args.b (are_joined g.links c.args.a c.args.b) refl)
