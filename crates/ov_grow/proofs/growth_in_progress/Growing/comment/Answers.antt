use Rattle.std.proofs.Common.{◌≡◌, refl}
use Rattle.ov_grow.specs.declared.fault.GrowFault.TheVariants.{OutOfMemory}
use Rattle.ov_grow.proofs.Acting.{comment_goes}
use Rattle.ov_grow.proofs.Going.{passes_on}
use Rattle.ov_grow.proofs.growth_in_progress.Growing.comment.Goals as goal

pub returns-in_err-comment-clause-refused : goal.returns-in_err-comment-clause-refused
returns-in_err-comment-clause-refused c =
    passes_on (λ fault. fault ≡ OutOfMemory) c.from_residual.result OutOfMemory c.from_residual.ensures.1 refl

pub returns-clause-goes : goal.returns-clause-goes
returns-clause-goes c = comment_goes _ _ _ refl refl c.in_ok-comment.ensures.said
