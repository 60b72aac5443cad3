use Rattle.std.proofs.Common.{length, sym, ◌∙◌, ap, subst, arith}
use Rattle.ov_ids.specs.Sets.{IsSet}
use Rattle.ov_ids.proofs.Sets.{count_below-le-length, IsSet-adding, adding_absent}
use Rattle.ov_ids.proofs.id_set.IdSet.insert_at.Goals as goal

pub insert_at-requires-clause-within : goal.insert_at-requires-clause-within
insert_at-requires-clause-within c =
    let within = count_below-le-length c.args.id c.args.self.now in
    omega (arith, within, c.requires.gap.1, ap length c.self.view_is)

pub returns : goal.returns
returns c =
    c.insert_at.ensures ∙ rw (c.requires.gap.1, c.self.view_is)
    (sym (adding_absent c.args.id c.args.self.now c.requires.gap.0))

pub invariant_of-self : goal.invariant_of-self
invariant_of-self c =
    let sorted = subst IsSet c.self.view_is c.self.invariant in
    subst IsSet (sym (returns c)) (IsSet-adding _ _ sorted)
