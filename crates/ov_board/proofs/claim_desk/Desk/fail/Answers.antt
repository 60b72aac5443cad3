use Rattle.ov_board.proofs.Turns.{fail_asks, fail_made, fail_held}
use Rattle.ov_board.proofs.claim_desk.Desk.fail.Goals as goal

pub fail-requires-clause-last : goal.fail-requires-clause-last
fail-requires-clause-last c = fail_asks _ _ c.args.worker c.in-Some.number c.index_mut-own.result.now record {
  seen = c.self.view_is;
  held = c.self.invariant;
  read = c.index_mut-own.ensures.value;
} c.requires.claimed c.in-Some.ensures.some

pub invariant_of-self-2 : goal.invariant_of-self-2
invariant_of-self-2 c =
    let own = c.index_mut-own.result.now in
    fail_held _ _ c.args.worker c.in-Some.number _ own c.fail.new.self record {
      seen = c.self.view_is;
      held = c.self.invariant;
      read = c.index_mut-own.ensures.value;
    } record {
      last = c.in-Some.ensures.some;
      became = c.in_ok-fail.ensures.ok;
      lowest = c.min-self-inside.ensures;
    } c.requires.claimed

pub returns-clause-fails : goal.returns-clause-fails
returns-clause-fails c =
    let own = c.index_mut-own.result.now in
    fail_made _ _ c.args.worker c.in-Some.number _ own c.fail.new.self record {
      seen = c.self.view_is;
      held = c.self.invariant;
      read = c.index_mut-own.ensures.value;
    } record {
      last = c.in-Some.ensures.some;
      became = c.in_ok-fail.ensures.ok;
      lowest = c.min-self-inside.ensures;
    }
