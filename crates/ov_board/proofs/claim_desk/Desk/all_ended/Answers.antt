use Rattle.ov_board.proofs.Ending.{ended_tested, done_tested}
use Rattle.ov_board.proofs.claim_desk.Desk.all_ended.Goals as goal

pub returns-clause-ended : goal.returns-clause-ended
returns-clause-ended c =
    ended_tested _ _ _ c.have_ended.result c.self.view_is c.deref.ensures.value c.have_ended.ensures

pub returns-clause-done : goal.returns-clause-done
returns-clause-done c =
    let h = c.self.invariant in
    done_tested _ _ _ c.have_ended.result c.self.view_is h c.deref.ensures.value c.have_ended.ensures
