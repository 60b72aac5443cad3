-- a name of a listing that can't be read
use Rattle.std.proofs.lemmas.Result.{err_from_is_err_and}
use Rattle.std.proofs.Common.{arith}
use Rattle.ov_dot.proofs.Refusing.{bad_from, bad_to}
use Rattle.ov_dot.proofs.dump_making.make_listings.Goals as goal

pub returns-in_err-from-clause-fault : goal.returns-in_err-from-clause-fault
returns-in_err-from-clause-fault c =
    let p = err_from_is_err_and c.from_residual.result c.from_residual.ensures.1 in
    rw (p.1, p.2) (bad_from c.args.links.now c.loop-link.link-index _ _ (omega arith) c.in_err-from.ensures.fault)

pub returns-in_err-to-clause-fault : goal.returns-in_err-to-clause-fault
returns-in_err-to-clause-fault c =
    let p = err_from_is_err_and c.from_residual-in_err-to.result c.from_residual-in_err-to.ensures.1 in
    rw (p.1, p.2) (bad_to c.args.links.now c.loop-link.link-index _ _ (omega arith) c.in_err-to.ensures.fault)
