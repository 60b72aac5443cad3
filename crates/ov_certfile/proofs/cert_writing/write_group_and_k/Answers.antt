-- The group comes before k.
use Rattle.std.proofs.Common.{◌≡◌, true, arith}
use Rattle.std.proofs.lemmas.Grind.{common_steps}
use Rattle.ov_certfile.specs.Kinds.{names_group}
use Rattle.ov_certfile.proofs.Members.{then_written}
use Rattle.ov_certfile.proofs.cert_writing.write_group_and_k.Goals as goal

pub returns-clause-members : goal.returns-clause-members
returns-clause-members c =
    let named : names_group c.args.version ≡ true = grind (arith, common_steps) in
    rw named (then_written _ _ _ _ _ _ c.in_ok-write_ids.ensures.members c.in_ok-write_count-2.ensures.members)
