use Rattle.ov_board.proofs.Turns.{claim_made, claim_held}
use Rattle.ov_board.proofs.claim_desk.Desk.claim.Goals as goal

pub invariant_of-self-2 : goal.invariant_of-self-2
invariant_of-self-2 c = claim_held _ _ c.args.worker c.index_mut-own.result.now c.claim.new.self record {
  seen = c.self.view_is;
  held = c.self.invariant;
  read = c.index_mut-own.ensures.value;
} c.requires.goes_on c.in_ok-claim.ensures.ok

pub returns-clause-claims : goal.returns-clause-claims
returns-clause-claims c = claim_made _ _ c.args.worker c.index_mut-own.result.now c.claim.new.self record {
  seen = c.self.view_is;
  held = c.self.invariant;
  read = c.index_mut-own.ensures.value;
} c.requires.goes_on c.in_ok-claim.ensures.ok
