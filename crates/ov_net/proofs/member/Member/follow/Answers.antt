use Rattle.std.proofs.Common.{refl}
use Rattle.ov_net.proofs.Steps.NodeChanges.{on_ok}
use Rattle.ov_net.proofs.member.Member.follow.Goals as goal

pub returns-clause-ok : goal.returns-clause-ok
returns-clause-ok c =
    on_ok c.follow.result (λ f. (c.in-Live.peer, c.follow.new.self, c.in-Live.is, f, refl)) c.follow.ensures.ok
