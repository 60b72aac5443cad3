use Rattle.ov_net.proofs.Steps.Packets.{packed}
use Rattle.ov_net.proofs.packet.Packet.new.Goals as goal

-- src/packet.rt
pub returns : goal.returns
returns c = packed c.args.to c.args.message.now _ c.in_ok-encode.ensures
