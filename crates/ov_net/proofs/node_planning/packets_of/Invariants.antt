use Rattle.std.proofs.Common.{◌≡◌, take}
use Rattle.ov_net.proofs.node_planning.packets_of.Given as goal

abbrev pub invariant-loop-send : goal.invariant-loop-send
invariant-loop-send l = l.packets.items ≡ take l.send-index l.sends
