-- A member is a node.
use Rattle.std.proofs.Common.{ℕ, sym, subst}
use Rattle.ov_ids.specs.Members.{Has}
use Rattle.ov_ids.proofs.Members.{has_place}
use Rattle.ov_crew.proofs.group_number_by_copy.unparted_members.Goals as goal

pub has_few_links-requires : goal.has_few_links-requires
has_few_links-requires c =
    let x = c.index-group-place.result in
    c.requires.nodes x (subst (λ (y : ℕ). Has c.args.group.now y) (sym c.index-group-place.is)
    (has_place c.args.group.now c.loop-place.place x c.loop-place-test.true))
