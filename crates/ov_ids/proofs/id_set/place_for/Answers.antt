use Rattle.std.proofs.Common.{◌≡◌, arith}
use Rattle.std.proofs.lemmas.Grind.{common_steps}
use Rattle.ov_ids.specs.Sets.{count_below}
use Rattle.ov_ids.proofs.Sets.{place_found}
use Rattle.ov_ids.proofs.id_set.place_for.Goals as goal

pub returns-else-lt-clause-place : goal.returns-else-lt-clause-place
returns-else-lt-clause-place c =
    let value : c.loop-i.i ≡ count_below c.args.id c.args.ids.now = grind (arith, common_steps) in
    place_found c.args.ids.now c.args.id c.loop-i.i value

pub returns-after-loop-i-clause-place : goal.returns-after-loop-i-clause-place
returns-after-loop-i-clause-place c =
    let value : c.loop-i.i ≡ count_below c.args.id c.args.ids.now = grind (arith, common_steps) in
    place_found c.args.ids.now c.args.id c.loop-i.i value
