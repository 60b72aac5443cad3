use Rattle.std.proofs.Common.{◌≡◌, ◌≤◌, length, sym, ◌∙◌, ap, subst, rules}
use Rattle.ov_ids.specs.Sets.{IsSet, count_below}
use Rattle.ov_ids.proofs.Sets.{count_below-le-length, IsSet-adding, adding_present, adding_absent, members_adding}
use Rattle.ov_ids.proofs.id_set.IdSet.insert.Goals as goal

pub insert_at-requires-clause-within : goal.insert_at-requires-clause-within
insert_at-requires-clause-within c =
    let within : count_below c.args.id c.self.inside.ids.items ≤ length c.self.inside.ids.items =
    count_below-le-length c.args.id c.self.inside.ids.items in
    let at : c.in-Err.i ≡ count_below c.args.id c.self.inside.ids.items =
    c.in-Err.ensures.place ∙ ap (count_below c.args.id) (sym c.self.view_is) in
    search rules

pub returns-in-Err-clause-value : goal.returns-in-Err-clause-value
returns-in-Err-clause-value c =
    c.insert_at.ensures ∙ rw (c.in-Err.ensures.place, c.self.view_is)
    (sym (adding_absent c.args.id c.args.self.now (sym c.in-Err.ensures.value)))

pub returns-in-Err-clause-members : goal.returns-in-Err-clause-members
returns-in-Err-clause-members c = members_adding _ _ _ (returns-in-Err-clause-value c)

pub invariant_of-self : goal.invariant_of-self
invariant_of-self c = subst IsSet (sym (returns-in-Err-clause-value c)) (IsSet-adding _ _ c.place_of.ensures.set)

pub returns-in-Ok-clause-value : goal.returns-in-Ok-clause-value
returns-in-Ok-clause-value c = sym (adding_present _ _ c.place_of.ensures.set (sym c.in-Ok.ensures.value))

pub returns-in-Ok-clause-members : goal.returns-in-Ok-clause-members
returns-in-Ok-clause-members c = members_adding _ _ _ (returns-in-Ok-clause-value c)
