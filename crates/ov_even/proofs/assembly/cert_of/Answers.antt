-- The first piece with a cut is the deciding piece.
use Rattle.std.proofs.Common.{subst}
use Rattle.std.specs.Option.{option_copied}
use Rattle.ov_graph.specs.Links.{AreAllLinked}
use Rattle.ov_even.specs.Code.Cuts.{IsFirstCut, all_settled}
use Rattle.ov_even.specs.declared.worker_haul.Keeping.TheVariants.{EachPiece}
use Rattle.ov_even.proofs.AnalysisSteps.Assembling.{deciding_first, none_given, some_first}
use Rattle.ov_even.proofs.assembly.cert_of.Goals as goal

pub split_cert-requires-clause-apart : goal.split_cert-requires-clause-apart
split_cert-requires-clause-apart c = none_given c.linked_cert.result
    (¬ AreAllLinked c.args.graph.now c.args.group.now) c.linked_cert.ensures.none c.in_default.not-Some

pub split_cert-requires-clause-first : goal.split_cert-requires-clause-first
split_cert-requires-clause-first c =
    deciding_first c.args.graph.now c.args.group.now c.args.hauls.now c.in-Some-first_cut.first.now c.linked_cert.result
    c.nodes.ensures.graph c.requires.group (EachPiece, c.requires.suffice) c.linked_cert.ensures.none
    c.in_default.not-Some
    (subst (λ o. IsFirstCut (all_settled c.args.hauls.now) (option_copied o)) c.in-Some-first_cut.is
    c.first_cut.ensures)

pub unreachable-requires : goal.unreachable-requires
unreachable-requires c =
    some_first c.args.graph.now c.args.group.now c.args.hauls.now c.linked_cert.result
    (EachPiece, c.requires.suffice) c.linked_cert.ensures.none c.in_default.not-Some
    (subst (λ o. IsFirstCut (all_settled c.args.hauls.now) (option_copied o)) c.in-None.is c.first_cut.ensures)
