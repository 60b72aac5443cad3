-- One packet more, and all of them; and if the writer failed, the packets before it and a prefix of its line.
use Rattle.std.proofs.Common.{◌≡◌, ◌+◌, ◌++◌, ◌∷◌, [], ◌∙◌, string_bytes, append_assoc, ap, map, sym, subst, length}
use Rattle.std.proofs.Common.{arith}
use Rattle.std.proofs.KnownBytes.{Appends-trans}
use Rattle.std.proofs.lemmas.List.{length-append, map-append}
use Rattle.ov_run_meaning.specs.Printed.{packet_line}
use Rattle.ov_run_meaning.specs.Running.{PrintsPackets}
use Rattle.ov_run_meaning.proofs.Writing.Prefixes.{all_went, prefix_went}
use Rattle.ov_run_meaning.proofs.Writing.Packets.{packets_begun, packets_ended, packets_next}
use Rattle.ov_run_meaning.proofs.line_output_writing.write_packets.Goals as goal

pub loop-packet-preserved : goal.loop-packet-preserved
loop-packet-preserved g c =
    let before = c.loop-packet.invariant in
    let packet = c.in-Some.packet.now in
    let rest = c.next.new.self in
    let seen = map (λ p. p.now) c.loop-packet.yielded in
    let more : map (λ p. p.now) (c.loop-packet.yielded ++ c.in-Some.packet ∷ []) ≡ seen ++ packet ∷ [] =
    map-append _ c.loop-packet.yielded (c.in-Some.packet ∷ []) in
    let step : c.loop-packet.packet-iterator ≡ packet ∷ rest = c.in-Some.ensures.steps in
    let said = before.printed in
    let line = c.as_bytes.result.now in
    let line_is = ◌∙◌ {b = string_bytes c.in_ok-line.line}
    {c = packet_line c.loop-packet.place c.to.result c.bytes.result.now} c.as_bytes.ensures.value
    c.in_ok-line.ensures in
    let long : length (seen ++ packet ∷ []) ≡ length seen + 1 = length-append seen (packet ∷ []) in
    let at = before.place in
    let failed = c.in_ok-write_all.ensures.faults in
    let none = before.faults in
    let next = packets_next seen c.loop-packet.place c.to.result packet said.0 c.bytes.result.now line at c.to.ensures
    c.bytes.ensures line_is said.1 in
    record {
      all = ap (λ s. s ++ rest) more ∙ append_assoc seen (packet ∷ []) rest ∙ ap (λ i. seen ++ i) (sym step)
          ∙ before.all;
      place = let count : c.loop-packet.place + 1 ≡ length (seen ++ packet ∷ []) = omega (arith, long, at) in
          count ∙ ap length (sym more);
      printed = (
        said.0 ++ line,
        subst (λ ps. PrintsPackets 0 ps (said.0 ++ line)) (sym more) next,
        Appends-trans _ _ _ _ _ said.2 c.in_ok-write_all.ensures.bytes,
      );
      faults = omega (arith, failed, none);
    }

pub returns-in_err-line-clause-begun : goal.returns-in_err-line-clause-begun
returns-in_err-line-clause-begun g c =
    let before = c.loop-packet.invariant in
    let said = before.printed in (
      said.0,
      packets_begun c.args.packets.now.items (map (λ p. p.now) c.loop-packet.yielded) c.loop-packet.packet-iterator
          said.0 before.all said.1,
      all_went _ _ said.0 said.2,
    )

pub returns-in_err-line-clause-memory : goal.returns-in_err-line-clause-memory
returns-in_err-line-clause-memory g c memory =
    let before = c.loop-packet.invariant in
    let said = before.printed in
    let seen = map (λ p. p.now) c.loop-packet.yielded in
    let step : c.loop-packet.packet-iterator ≡ c.in-Some.packet.now ∷ c.next.new.self = c.in-Some.ensures.steps in (
      said.0,
      packets_ended c.args.packets.now.items seen c.next.new.self c.in-Some.packet.now said.0
          (ap (λ i. seen ++ i) (sym step) ∙ before.all) said.1,
      said.2,
    )

pub returns-in_err-write_all-clause-begun : goal.returns-in_err-write_all-clause-begun
returns-in_err-write_all-clause-begun g c =
    let before = c.loop-packet.invariant in
    let packet = c.in-Some.packet.now in
    let rest = c.next.new.self in
    let seen = map (λ p. p.now) c.loop-packet.yielded in
    let step : c.loop-packet.packet-iterator ≡ packet ∷ rest = c.in-Some.ensures.steps in
    let said = before.printed in
    let line = c.as_bytes.result.now in
    let line_is = ◌∙◌ {b = string_bytes c.in_ok-line.line}
    {c = packet_line c.loop-packet.place c.to.result c.bytes.result.now} c.as_bytes.ensures.value
    c.in_ok-line.ensures in
    let next = packets_next seen c.loop-packet.place c.to.result packet said.0 c.bytes.result.now line before.place
    c.to.ensures c.bytes.ensures line_is said.1 in
    let all = append_assoc seen (packet ∷ []) rest ∙ ap (λ i. seen ++ i) (sym step) ∙ before.all in (
      said.0 ++ line,
      packets_begun c.args.packets.now.items (seen ++ packet ∷ []) rest (said.0 ++ line) all next,
      prefix_went _ _ _ said.0 line said.2 c.in_err-write_all.ensures.prefix,
    )
