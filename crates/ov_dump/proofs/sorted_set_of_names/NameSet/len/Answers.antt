use Rattle.std.proofs.Common.{◌∙◌, ap, length, subst, sym}
use Rattle.ov_ids.specs.Members.{Ordered}
use Rattle.ov_dump.specs.Names.{ComesBefore}
use Rattle.ov_dump.proofs.NameSets.{order_len, order_up}
use Rattle.ov_dump.proofs.sorted_set_of_names.NameSet.len.Goals as goal

pub returns-clause-value : goal.returns-clause-value
returns-clause-value c =
    c.len.ensures.len ∙ sym (order_len c.self.inside.names.keys c.len.ensures.unique) ∙ ap length c.self.view_is

pub returns-clause-ordered : goal.returns-clause-ordered
returns-clause-ordered c = subst (Ordered ComesBefore) c.self.view_is (order_up c.self.inside.names.keys)
