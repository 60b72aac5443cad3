use Rattle.ov_board.proofs.Turns.{look_made, look_held}
use Rattle.ov_board.proofs.claim_desk.Desk.look.Goals as goal

pub invariant_of-self : goal.invariant_of-self
invariant_of-self c = look_held _ _ c.args.worker c.index_mut-own.result.now c.look.new.self record {
  seen = c.self.view_is;
  held = c.self.invariant;
  read = c.index_mut-own.ensures.value;
} c.requires.goes_on c.look.ensures

pub returns-clause-looks : goal.returns-clause-looks
returns-clause-looks c = look_made _ _ c.args.worker c.index_mut-own.result.now c.look.new.self record {
  seen = c.self.view_is;
  held = c.self.invariant;
  read = c.index_mut-own.ensures.value;
} c.requires.goes_on c.look.ensures
