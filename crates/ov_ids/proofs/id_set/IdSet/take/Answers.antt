use Rattle.std.proofs.Common.{◌<◌, length, sym, ◌∙◌, subst, rules}
use Rattle.ov_ids.specs.Sets.{IsSet}
use Rattle.ov_ids.proofs.Sets.{count_below-lt-length, IsSet-without, without_present, without_absent, members_without}
use Rattle.ov_ids.proofs.id_set.IdSet.take.Goals as goal

pub remove_at-requires : goal.remove_at-requires
remove_at-requires c =
    let within : c.in-Ok.i < length c.self.inside.ids.items =
    rw (c.in-Ok.ensures.place, c.self.view_is)
    (count_below-lt-length c.args.id c.args.self.now (sym c.in-Ok.ensures.value))
    in search rules

pub returns-in-Ok-clause-value : goal.returns-in-Ok-clause-value
returns-in-Ok-clause-value c =
    c.remove_at.ensures ∙ rw (c.in-Ok.ensures.place, c.self.view_is)
    (sym (without_present c.args.id c.args.self.now c.place_of.ensures.set (sym c.in-Ok.ensures.value)))

pub returns-in-Ok-clause-members : goal.returns-in-Ok-clause-members
returns-in-Ok-clause-members c = members_without _ _ _ (returns-in-Ok-clause-value c)

pub invariant_of-self : goal.invariant_of-self
invariant_of-self c = subst IsSet (sym (returns-in-Ok-clause-value c)) (IsSet-without _ _ c.place_of.ensures.set)

pub returns-in-Err-clause-value : goal.returns-in-Err-clause-value
returns-in-Err-clause-value c = sym (without_absent _ _ (sym c.in-Err.ensures.value))

pub returns-in-Err-clause-members : goal.returns-in-Err-clause-members
returns-in-Err-clause-members c = members_without _ _ _ (returns-in-Err-clause-value c)
