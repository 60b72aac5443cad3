use Rattle.std.proofs.Common.{◌<◌, ◌≤◌, get_or, length, sym, ◌∙◌, ap, subst, arith}
use Rattle.std.proofs.lemmas.Option.{slice_get-get_or}
use Rattle.ov_ids.specs.Sets.{IsSet, count_below}
use Rattle.ov_ids.proofs.Sets.{count_below-le-length, replaced_less, replaced_more, IsSet-replacing, placed}
use Rattle.ov_ids.proofs.id_set.IdSet.replace_at.Goals as goal

pub move_down-requires-clause-within : goal.move_down-requires-clause-within
move_down-requires-clause-within c =
    let within = count_below-le-length c.args.id c.args.self.now in
    omega (arith, within, c.requires.gap.1, c.if-place-gap.true, ap length c.self.view_is)

pub returns-then-place-gap : goal.returns-then-place-gap
returns-then-place-gap c out at =
    let sorted = subst IsSet c.self.view_is c.self.invariant in
    let member = placed c.args.self.now c.args.place out sorted c.requires.member at in
    let less : count_below out c.args.self.now < count_below c.args.id c.args.self.now =
    omega (arith, member.1, c.requires.gap.1, c.if-place-gap.true) in
    c.move_down.ensures ∙ rw (sym member.1, c.requires.gap.1, c.self.view_is)
    (sym (replaced_less c.args.id out c.args.self.now sorted c.requires.gap.0 member.0 less))

pub invariant_of-self : goal.invariant_of-self
invariant_of-self c =
    let sorted = subst IsSet c.self.view_is c.self.invariant in
    let out = get_or c.args.self.now c.args.place 0 in
    let at = slice_get-get_or c.args.self.now c.args.place 0 c.requires.member in
    subst IsSet (sym (returns-then-place-gap c out at)) (IsSet-replacing c.args.id out c.args.self.now sorted)

pub returns-else-place-gap : goal.returns-else-place-gap
returns-else-place-gap c out at =
    let sorted = subst IsSet c.self.view_is c.self.invariant in
    let member = placed c.args.self.now c.args.place out sorted c.requires.member at in
    let more : count_below c.args.id c.args.self.now ≤ count_below out c.args.self.now =
    omega (arith, member.1, c.requires.gap.1, c.if-place-gap.false) in
    c.move_up.ensures ∙ rw (sym member.1, c.requires.gap.1, c.self.view_is)
    (sym (replaced_more c.args.id out c.args.self.now sorted c.requires.gap.0 member.0 more))

pub invariant_of-self-else-place-gap : goal.invariant_of-self-else-place-gap
invariant_of-self-else-place-gap c =
    let sorted = subst IsSet c.self.view_is c.self.invariant in
    let out = get_or c.args.self.now c.args.place 0 in
    let at = slice_get-get_or c.args.self.now c.args.place 0 c.requires.member in
    subst IsSet (sym (returns-else-place-gap c out at)) (IsSet-replacing c.args.id out c.args.self.now sorted)
