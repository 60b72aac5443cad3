use Rattle.std.proofs.lemmas.Result.{IfErr-weaker}
use Rattle.ov_grow.proofs.NoPhase.{no_way_told}
use Rattle.ov_grow.proofs.growth_in_progress.Growing.tell_crashes.Goals as goal

pub returns-clause-refused : goal.returns-clause-refused
returns-clause-refused c = IfErr-weaker _ _ _ (λ fault none.
    no_way_told c.args.detect c.args.rules.now c.args.self.now fault c.if-detect.false none)
    c.report_crashes.ensures.refused
