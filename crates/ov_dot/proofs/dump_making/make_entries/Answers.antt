-- one name more, and none
use Rattle.std.proofs.lemmas.Result.{err_from_is_err_and}
use Rattle.std.proofs.Common.{arith}
use Rattle.ov_dot.proofs.Entries.{entry_step, entries_end}
use Rattle.ov_dot.proofs.Refusing.{bad_at}
use Rattle.ov_dot.proofs.dump_making.make_entries.Goals as goal

pub returns-in_err-name-clause-fault : goal.returns-in_err-name-clause-fault
returns-in_err-name-clause-fault c =
    let p = err_from_is_err_and c.from_residual.result c.from_residual.ensures.1 in
    rw (p.1, p.2) (bad_at c.args.names.now c.loop-token.token-index _ _ (omega arith) c.in_err-name.ensures.fault)

pub loop-token-preserved : goal.loop-token-preserved
loop-token-preserved c = record {
  left =
      entry_step c.args.names.now c.loop-token.token-index _ c.loop-token.entries.items c.add_entry.new.entries.items
      _ _ (omega arith) c.loop-token.invariant.left c.in_ok-name.ensures.name c.in_ok-add_entry.ensures.entries;
  seen = λ q. c.in_ok-add_entry.ensures.seen q;
}

pub returns-clause-entries : goal.returns-clause-entries
returns-clause-entries c =
    entries_end c.args.names.now c.loop-token.token-index c.loop-token.entries.items
    (omega arith) c.loop-token.invariant.left
