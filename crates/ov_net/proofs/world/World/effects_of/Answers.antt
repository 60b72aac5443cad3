use Rattle.std.proofs.Common.{◌≤◌, length, subst, ap, ◌∙◌}
use Rattle.std.proofs.lemmas.Result.{IfOk-weaker}
use Rattle.ov_net.specs.Limits.{most_packets}
use Rattle.ov_net.specs.World.{WorldState}
use Rattle.ov_net.specs.declared.planned_effects.Effects.{Effects}
use Rattle.ov_net.proofs.Steps.EventEffects.{at_event, at_any, few_sent, none_sent, may_boot, may_deliver, may_lose}
use Rattle.ov_net.proofs.Steps.EventEffects.{may_repeat, may_crash, may_report, may_shuffle, may_broadcast, may_fire}
use Rattle.ov_net.proofs.world.World.effects_of.Goals as goal

pub returns-in-Boot-clause-effects : goal.returns-in-Boot-clause-effects
returns-in-Boot-clause-effects c =
    at_event c.args.self.now.net c.args.event.now _ c.args.words.now c.effects_of_boot.result c.in-Boot.is
    c.effects_of_boot.ensures.effects

pub returns-in-Deliver-clause-effects : goal.returns-in-Deliver-clause-effects
returns-in-Deliver-clause-effects c =
    at_event c.args.self.now.net c.args.event.now _ c.args.words.now c.effects_of_deliver.result c.in-Deliver.is
    c.effects_of_deliver.ensures.effects

pub returns-in-Lose-clause-effects : goal.returns-in-Lose-clause-effects
returns-in-Lose-clause-effects c =
    at_any c.args.self.now.net c.args.event.now _ c.args.words.now c.effects_of_lose.result c.in-Lose.is
    c.effects_of_lose.ensures.effects

pub returns-in-Repeat-clause-effects : goal.returns-in-Repeat-clause-effects
returns-in-Repeat-clause-effects c =
    at_any c.args.self.now.net c.args.event.now _ c.args.words.now c.effects_of_repeat.result c.in-Repeat.is
    c.effects_of_repeat.ensures.effects

pub returns-in-Crash-clause-effects : goal.returns-in-Crash-clause-effects
returns-in-Crash-clause-effects c =
    at_any c.args.self.now.net c.args.event.now _ c.args.words.now c.effects_of_crash.result c.in-Crash.is
    c.effects_of_crash.ensures.effects

pub returns-in-CrashReport-clause-effects : goal.returns-in-CrashReport-clause-effects
returns-in-CrashReport-clause-effects c =
    at_event c.args.self.now.net c.args.event.now _ c.args.words.now c.effects_of_crash_report.result
    c.in-CrashReport.is c.effects_of_crash_report.ensures.effects

pub returns-in-Shuffle-clause-effects : goal.returns-in-Shuffle-clause-effects
returns-in-Shuffle-clause-effects c =
    at_event c.args.self.now.net c.args.event.now _ c.args.words.now c.effects_of_shuffle.result c.in-Shuffle.is
    c.effects_of_shuffle.ensures.effects

pub returns-in-Broadcast-clause-effects : goal.returns-in-Broadcast-clause-effects
returns-in-Broadcast-clause-effects c =
    at_event c.args.self.now.net c.args.event.now _ c.args.words.now c.effects_of_broadcast.result c.in-Broadcast.is
    c.effects_of_broadcast.ensures.effects

pub returns-in-Timer-clause-effects : goal.returns-in-Timer-clause-effects
returns-in-Timer-clause-effects c =
    at_event c.args.self.now.net c.args.event.now _ c.args.words.now c.effects_of_timer.result c.in-Timer.is
    c.effects_of_timer.ensures.effects

pub effects_of_boot-requires : goal.effects_of_boot-requires
effects_of_boot-requires c = may_boot c.args.self.now.net _ c.args.event.now _ _ c.in-Boot.is c.requires

pub effects_of_deliver-requires : goal.effects_of_deliver-requires
effects_of_deliver-requires c = may_deliver c.args.self.now.net _ c.args.event.now _ c.in-Deliver.is c.requires

pub effects_of_lose-requires : goal.effects_of_lose-requires
effects_of_lose-requires c = may_lose c.args.self.now.net _ c.args.event.now _ c.in-Lose.is c.requires

pub effects_of_repeat-requires : goal.effects_of_repeat-requires
effects_of_repeat-requires c = may_repeat c.args.self.now.net _ c.args.event.now _ c.in-Repeat.is c.requires

pub effects_of_crash-requires-clause-born : goal.effects_of_crash-requires-clause-born
effects_of_crash-requires-clause-born c =
    (may_crash c.args.self.now.net _ c.args.event.now _ c.in-Crash.is c.requires).0

pub effects_of_crash-requires-clause-live : goal.effects_of_crash-requires-clause-live
effects_of_crash-requires-clause-live c =
    (may_crash c.args.self.now.net _ c.args.event.now _ c.in-Crash.is c.requires).1

pub effects_of_crash_report-requires-clause-born : goal.effects_of_crash_report-requires-clause-born
effects_of_crash_report-requires-clause-born c =
    (may_report c.args.self.now.net _ c.args.event.now _ _ c.in-CrashReport.is c.requires).0

pub effects_of_crash_report-requires-clause-live : goal.effects_of_crash_report-requires-clause-live
effects_of_crash_report-requires-clause-live c =
    (may_report c.args.self.now.net _ c.args.event.now _ _ c.in-CrashReport.is c.requires).1

pub effects_of_crash_report-requires-clause-gone : goal.effects_of_crash_report-requires-clause-gone
effects_of_crash_report-requires-clause-gone c =
    (may_report c.args.self.now.net _ c.args.event.now _ _ c.in-CrashReport.is c.requires).2

pub effects_of_shuffle-requires-clause-born : goal.effects_of_shuffle-requires-clause-born
effects_of_shuffle-requires-clause-born c =
    (may_shuffle c.args.self.now.net _ c.args.event.now _ c.in-Shuffle.is c.requires).0

pub effects_of_shuffle-requires-clause-live : goal.effects_of_shuffle-requires-clause-live
effects_of_shuffle-requires-clause-live c =
    (may_shuffle c.args.self.now.net _ c.args.event.now _ c.in-Shuffle.is c.requires).1

pub effects_of_broadcast-requires-clause-born : goal.effects_of_broadcast-requires-clause-born
effects_of_broadcast-requires-clause-born c =
    (may_broadcast c.args.self.now.net _ c.args.event.now _ _ c.in-Broadcast.is c.requires).0

pub effects_of_broadcast-requires-clause-live : goal.effects_of_broadcast-requires-clause-live
effects_of_broadcast-requires-clause-live c =
    (may_broadcast c.args.self.now.net _ c.args.event.now _ _ c.in-Broadcast.is c.requires).1

pub effects_of_broadcast-requires-clause-payload : goal.effects_of_broadcast-requires-clause-payload
effects_of_broadcast-requires-clause-payload c =
    (may_broadcast c.args.self.now.net _ c.args.event.now _ _ c.in-Broadcast.is c.requires).2

pub effects_of_broadcast-requires-clause-made : goal.effects_of_broadcast-requires-clause-made
effects_of_broadcast-requires-clause-made c =
    (may_broadcast c.args.self.now.net _ c.args.event.now _ _ c.in-Broadcast.is c.requires).3

pub effects_of_timer-requires-clause-born : goal.effects_of_timer-requires-clause-born
effects_of_timer-requires-clause-born c =
    (may_fire c.args.self.now.net _ c.args.event.now _ _ c.in-Timer.is c.requires).0

pub effects_of_timer-requires-clause-live : goal.effects_of_timer-requires-clause-live
effects_of_timer-requires-clause-live c =
    (may_fire c.args.self.now.net _ c.args.event.now _ _ c.in-Timer.is c.requires).1

pub effects_of_timer-requires-clause-timer : goal.effects_of_timer-requires-clause-timer
effects_of_timer-requires-clause-timer c =
    (may_fire c.args.self.now.net _ c.args.event.now _ _ c.in-Timer.is c.requires).2

pub returns-in-Boot-clause-few : goal.returns-in-Boot-clause-few
returns-in-Boot-clause-few c =
    IfOk-weaker c.effects_of_boot.result _ _
    (λ b h. few_sent c.args.self.now.net _ c.args.event.now _ b c.in-Boot.is tt c.requires h)
    c.effects_of_boot.ensures.few

pub returns-in-Deliver-clause-few : goal.returns-in-Deliver-clause-few
returns-in-Deliver-clause-few c =
    IfOk-weaker c.effects_of_deliver.result _ _
    (λ b h. few_sent c.args.self.now.net _ c.args.event.now _ b c.in-Deliver.is tt c.requires h)
    c.effects_of_deliver.ensures.few

pub returns-in-Repeat-clause-few : goal.returns-in-Repeat-clause-few
returns-in-Repeat-clause-few c =
    IfOk-weaker c.effects_of_repeat.result _ _
    (λ b h. few_sent c.args.self.now.net _ c.args.event.now _ b c.in-Repeat.is tt c.requires h)
    c.effects_of_repeat.ensures.few

pub returns-in-CrashReport-clause-few : goal.returns-in-CrashReport-clause-few
returns-in-CrashReport-clause-few c =
    IfOk-weaker c.effects_of_crash_report.result _ _
    (λ b h. few_sent c.args.self.now.net _ c.args.event.now _ b c.in-CrashReport.is tt c.requires h)
    c.effects_of_crash_report.ensures.few

pub returns-in-Shuffle-clause-few : goal.returns-in-Shuffle-clause-few
returns-in-Shuffle-clause-few c =
    IfOk-weaker c.effects_of_shuffle.result _ _
    (λ b h. few_sent c.args.self.now.net _ c.args.event.now _ b c.in-Shuffle.is tt c.requires h)
    c.effects_of_shuffle.ensures.few

pub returns-in-Broadcast-clause-few : goal.returns-in-Broadcast-clause-few
returns-in-Broadcast-clause-few c =
    IfOk-weaker c.effects_of_broadcast.result _ _
    (λ b h. few_sent c.args.self.now.net _ c.args.event.now _ b c.in-Broadcast.is tt c.requires h)
    c.effects_of_broadcast.ensures.few

pub returns-in-Timer-clause-few : goal.returns-in-Timer-clause-few
returns-in-Timer-clause-few c =
    IfOk-weaker c.effects_of_timer.result _ _
    (λ b h. few_sent c.args.self.now.net _ c.args.event.now _ b c.in-Timer.is tt c.requires h)
    c.effects_of_timer.ensures.few

pub returns-in-Lose-clause-few : goal.returns-in-Lose-clause-few
returns-in-Lose-clause-few c =
    IfOk-weaker c.effects_of_lose.result _ _
    (λ b h. none_sent c.args.self.now.net b h
    (subst (λ (w : WorldState). length w.net.packets ≤ most_packets w.net.params) c.self.view_is
    c.self.invariant.0.packets))
    c.effects_of_lose.ensures.none

pub returns-in-Crash-clause-few : goal.returns-in-Crash-clause-few
returns-in-Crash-clause-few c =
    IfOk-weaker c.effects_of_crash.result _ _
    (λ b h. none_sent c.args.self.now.net b h
    (subst (λ (w : WorldState). length w.net.packets ≤ most_packets w.net.params) c.self.view_is
    c.self.invariant.0.packets))
    c.effects_of_crash.ensures.none

pub returns-in-Snapshot-clause-few : goal.returns-in-Snapshot-clause-few
returns-in-Snapshot-clause-few c =
    none_sent c.args.self.now.net c.packet_effects.result
    (ap (λ (b : Effects). b.packets.items) c.packet_effects.ensures ∙ c.new.ensures.items)
    (subst (λ (w : WorldState). length w.net.packets ≤ most_packets w.net.params) c.self.view_is
    c.self.invariant.0.packets)
