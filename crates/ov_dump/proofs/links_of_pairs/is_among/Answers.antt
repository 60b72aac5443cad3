-- The pair that a search found, or that there is none.
use Rattle.std.proofs.Common.{refl}
use Rattle.ov_dump.proofs.Paired.{pair_at, pair_not_there}
use Rattle.ov_dump.proofs.links_of_pairs.is_among.Goals as goal

pub returns-in-Ok : goal.returns-in-Ok
returns-in-Ok c = (
  (λ t. pair_at c.args.pairs.now c.in-Ok.field-0 c.args.pair c.in-Ok.ensures.bound c.in-Ok.ensures.ok),
  (λ h. refl),
)

pub returns-in-Err : goal.returns-in-Err
returns-in-Err c = (
  (λ t. absurd (cc)),
  (λ h. absurd (pair_not_there c.args.pairs.now c.in-Err.field-0 c.args.pair c.requires c.in-Err.ensures.position h)),
)
