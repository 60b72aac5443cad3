use Rattle.std.proofs.Common.{◌≡◌, ◌∙◌, arith}
use Rattle.std.proofs.lemmas.Grind.{common_steps}
use Rattle.ov_ids.proofs.Sets.{all_below, all_below_first}
use Rattle.ov_ids.proofs.id_set.members_below.Goals as goal

pub returns : goal.returns
returns c =
    let all : c.loop-member.below ≡ all_below c.args.id c.args.ids.now = grind (arith, common_steps) in
    all ∙ all_below_first c.args.id c.args.ids.now c.requires.set
