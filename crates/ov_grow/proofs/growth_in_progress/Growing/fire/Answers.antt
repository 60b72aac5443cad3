use Rattle.std.proofs.lemmas.Result.{IfErr-weaker}
use Rattle.ov_grow.proofs.NoBroadcast.{no_way_fire}
use Rattle.ov_grow.proofs.growth_in_progress.Growing.fire.Goals as goal

pub returns-clause-refused : goal.returns-clause-refused
returns-clause-refused c = IfErr-weaker _ _ _ (λ fault none. no_way_fire c.args.messages.now c.in_ok-live.live.items
    c.deref.result.now c.args.self.now fault c.in_ok-live.ensures c.deref.ensures.value none)
    c.fire_at_each.ensures.refused
