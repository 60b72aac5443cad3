use Rattle.std.proofs.Common.{◌↔◌, IsTrue, subst}
use Rattle.ov_ids.specs.Members.{Has}
use Rattle.ov_dump.proofs.NameSets.{found_key}
use Rattle.ov_dump.proofs.sorted_set_of_names.NameSet.contains.Goals as goal

pub returns : goal.returns
returns c =
    subst (λ ns. IsTrue c.contains.result ↔ Has ns c.args.name.now) c.self.view_is
    (found_key c.self.inside.names.keys c.args.name.now c.contains.result c.contains.ensures)
