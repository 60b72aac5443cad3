-- The piece is good where its result is not a cut.
use Rattle.ov_fans.proofs.PieceCuts.Decided.{found_decides}
use Rattle.ov_fans.proofs.settler_of_width.WideSettler.settle.Goals as goal

pub returns-clause-good : goal.returns-clause-good
returns-clause-good g c =
    let m = c.args.self.now in
    found_decides m.graph m.members c.args.piece c.in_ok-found.found c.in_ok-found.ensures.graph
    c.in_ok-found.ensures.found
