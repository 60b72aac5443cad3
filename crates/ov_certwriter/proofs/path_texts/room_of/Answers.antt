-- The room is within the sum.
use Rattle.std.proofs.Common.{◌*◌, ℕ, ap, arith}
use Rattle.ov_certwriter.proofs.PathTexts.{room_within}
use Rattle.ov_certwriter.proofs.path_texts.room_of.Goals as goal

pub returns : goal.returns
returns c g last enough small =
    let within = room_within g last c.args.paths.now c.args.more enough in
    let rest = ap (λ (n : ℕ). n * c.args.more) c.count.ensures in
    omega (
      arith,
      within,
      small,
      rest,
      c.places.ensures,
      c.saturating_mul-ids.ensures,
      c.saturating_mul-rest.ensures,
      c.saturating_add.ensures,
      c.saturating_add-2.ensures,
    )
