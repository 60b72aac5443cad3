-- The pairs of one list, and then those of the other.
use Rattle.std.proofs.Common.{◌≡◌, ◌++◌, inl, inr, rules, subst, sym}
use Rattle.ov_ids.specs.Members.{Has}
use Rattle.ov_ids.proofs.Members.{has_append_cases, has_append_left, has_append_right}
use Rattle.ov_dump.proofs.links_of_pairs.links_of.Goals as goal

pub returns-then-either-clause-either : goal.returns-then-either-clause-either
returns-then-either-clause-either c = λ e l.
    let up = c.args.pairs.up.items in
    let down = c.args.pairs.down.items in
    let both : c.extend_from_slice.new.self.items ≡ up ++ down = search rules in
    let each = c.ascending.ensures.each l in (
      (λ h. has_append_cases up down l (subst (λ ls. Has ls l) both (each.0 h))),
      (λ h. each.1 (subst (λ ls. Has ls l) (sym both)
          (elim h [ inl m ↦ has_append_left up down l m | inr m ↦ has_append_right up down l m ]))),
    )
