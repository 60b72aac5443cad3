use Rattle.std.proofs.Common.{ap, ◌∙◌}
use Rattle.std.proofs.lemmas.Option.{none-some, same_Some}
use Rattle.std.specs.FinMap as map
use Rattle.ov_net.specs.declared.member.Member.TheVariants.{Live}
use Rattle.ov_net.proofs.Steps.Members.{lent, missed}
use Rattle.ov_net.proofs.Steps.NodeChanges.{followed, on_err, on_ok, stayed}
use Rattle.ov_net.proofs.nodes.Nodes.follow.Goals as goal

pub follow-requires : goal.follow-requires
follow-requires c =
    let is = c.in-Some.ensures in
    let pair = c.pair_mut-member.ensures in
    let told = lent c.self.inside.members _ c.self.view_is _ c.args.id _ _ pair.unique is.key is.value pair.value in
    (c.requires.0, same_Some _ _ (told.0 ∙ c.requires.1), c.requires.2)

pub unreachable-requires : goal.unreachable-requires
unreachable-requires c =
    none-some (Live c.requires.0) (missed _ c.args.id c.in-None.ensures.found
    ∙ ap (λ m. map.get m c.args.id) c.self.view_is ∙ c.requires.1)

pub returns-clause-ok : goal.returns-clause-ok
returns-clause-ok c =
    let is = c.in-Some.ensures in
    let pair = c.pair_mut-member.ensures in
    let told = lent c.self.inside.members _ c.self.view_is _ c.args.id _ _ pair.unique is.key is.value pair.value in
    on_ok c.follow.result (followed _ _ c.args.id c.args.plan _ _ told.0 (told.1 c.follow.new.self)) c.follow.ensures.ok

pub returns-clause-err : goal.returns-clause-err
returns-clause-err c =
    let is = c.in-Some.ensures in
    let pair = c.pair_mut-member.ensures in
    let told = lent c.self.inside.members _ c.self.view_is _ c.args.id _ _ pair.unique is.key is.value pair.value in
    on_err c.follow.result (stayed _ _ c.args.id _ _ told.0 (told.1 c.follow.new.self)) c.follow.ensures.err
