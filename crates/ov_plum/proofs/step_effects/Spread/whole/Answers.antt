use Rattle.std.proofs.Common.{}
use Rattle.std.specs.Prelude.{map}
use Rattle.ov_wire.specs.Messages.{say}
use Rattle.ov_wire.specs.declared.message.Body.TheVariants.{IHave}
use Rattle.ov_wire.proofs.Ranges.{Ranged-append, Ranged-each}
use Rattle.ov_plum.specs.PlumRows.{gossip}
use Rattle.ov_plum.proofs.step_effects.Spread.whole.Goals as goal

pub returns-clause-ranges : goal.returns-clause-ranges
returns-clause-ranges c =
    let me = c.args.me in
    let whole = say me (gossip c.args.id.now c.args.held.now) in
    let announced = say me (IHave c.args.id.now) in
    rw (c.in_ok-announce.ensures.sends, c.in_ok-send_whole.ensures.sends, c.in_ok-sends.ensures.items)
    (Ranged-append (map (λ x. (x, whole)) c.eager-2.result.now) _
    (Ranged-each whole c.copy_payload.ensures.short c.eager-2.result.now)
    (Ranged-each announced tt c.lazy-2.result.now))
