-- what was printed so far, of the packets before this place
use Rattle.std.proofs.Common.{◌≡◌, ◌++◌, ℕ, List, length, map}
use Rattle.std.specs.Io.KnownBytes.{Appends}
use Rattle.ov_run_meaning.specs.Running.{PrintsPackets}
use Rattle.ov_run_meaning.proofs.line_output_writing.write_packets.Given as goal

abbrev pub invariant-loop-packet : goal.invariant-loop-packet
invariant-loop-packet g l = record {
  all : map (λ packet. packet.now) l.yielded ++ l.packet-iterator ≡ l.packets.items;
  place : l.place ≡ length (map (λ packet. packet.now) l.yielded);
  printed : (text : List ℕ) × PrintsPackets 0 (map (λ packet. packet.now) l.yielded) text
      × Appends (g.W.Write.contents l.fn.sink.writer) (g.W.Write.contents l.sink.writer) text;
  faults : l.sink.faults ≡ l.fn.sink.faults;
}
