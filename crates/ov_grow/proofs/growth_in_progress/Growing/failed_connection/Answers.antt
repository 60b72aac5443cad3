use Rattle.std.proofs.Common.{ap, subst, ◌∙◌}
use Rattle.ov_net.specs.Net.{IsGone}
use Rattle.ov_grow.specs.Growth.{IsLive}
use Rattle.ov_grow.specs.Code.Standing.{growth_of}
use Rattle.ov_grow.proofs.Living.{not_live}
use Rattle.ov_grow.proofs.Telling.{packet_at}
use Rattle.ov_grow.proofs.growth_in_progress.Growing.failed_connection.Goals as goal

pub returns-then-not-is_live : goal.returns-then-not-is_live
returns-then-not-is_live c = λ within. (
  c.in-Some.packet.now,
  packet_at _ _ _ _ (c.packets.ensures.value ∙ ap (λ w. w.net.packets) c.world.ensures) within c.in-Some.ensures.value,
  λ failed. not_live (growth_of c.args.self.now) c.in_ok-sender.sender c.in-Some.packet.now.1.from
      c.is_live.result c.if-not-is_live.true c.is_live.ensures c.in_ok-sender.ensures failed.1,
)

pub returns : goal.returns
returns c = λ within. (
  c.in-Some.packet.now,
  packet_at _ _ _ _ (c.packets.ensures.value ∙ ap (λ w. w.net.packets) c.world.ensures) within c.in-Some.ensures.value,
  (
    subst (λ a. IsGone c.args.self.now.recording.core.world.net a) c.to-receiver.ensures
        (c.has_crashed.ensures.0 c.if-not-has_crashed.false),
    subst (λ a. IsLive (growth_of c.args.self.now) a) c.in_ok-sender.ensures (c.is_live.ensures.0
        c.if-not-is_live.false),
  ),
  c.in_ok-sender.ensures,
  c.to-receiver.ensures,
)
