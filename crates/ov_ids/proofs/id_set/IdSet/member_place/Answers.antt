use Rattle.std.proofs.Common.{sym, ◌∙◌, ap}
use Rattle.std.specs.Prelude.{slice_get}
use Rattle.ov_ids.proofs.Sets.{member_at}
use Rattle.ov_ids.proofs.id_set.IdSet.member_place.Goals as goal

pub returns-in-Ok-clause-some : goal.returns-in-Ok-clause-some
returns-in-Ok-clause-some c =
    ap (slice_get c.args.self.now) c.in-Ok.ensures.place
    ∙ member_at c.args.id c.args.self.now c.place_of.ensures.set (sym c.in-Ok.ensures.value)
