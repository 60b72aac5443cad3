-- Packets that are printed one after another: those so far, and those that are still to come.
use Rattle.std.proofs.Common.{arith, take, ◌≡◌, ◌∙◌, ℕ, suc}
use Rattle.std.proofs.Common.{◌+◌, List, [], ◌∷◌, ◌++◌, append_assoc, length, ap, sym, subst, refl}
use Rattle.std.proofs.lemmas.List.{append-nil, length-append}
use Rattle.std.proofs.Math.Seq.{take-append_seam}
use Rattle.ov_wire.specs.Messages.{Spelling}
use Rattle.ov_wire.specs.declared.message.Message.{Message}
use Rattle.ov_run_meaning.specs.Ending.{BeginsPackets, EndsPackets}
use Rattle.ov_run_meaning.specs.Printed.{packet_line}
use Rattle.ov_run_meaning.specs.Running.{PrintsPackets}

-- one packet more is printed, at the place behind these
pub packets_more :
    (place : ℕ) (packets : List (ℕ × Message)) (packet : ℕ × Message) (text bytes : List ℕ)
    → PrintsPackets place packets text → Spelling packet.1 bytes
    → PrintsPackets place (packets ++ packet ∷ []) (text ++ packet_line (place + length packets) packet.0 bytes)
packets_more place [] packet text bytes prints spelling =
    let at : place + 0 ≡ place = omega arith in
    let line : text ++ packet_line (place + 0) packet.0 bytes ≡ packet_line place packet.0 bytes =
    ap (λ t. t ++ packet_line (place + 0) packet.0 bytes) prints ∙ ap (λ n. packet_line n packet.0 bytes) at in
    (bytes, [], spelling, refl, line ∙ sym (append-nil (packet_line place packet.0 bytes)))
packets_more place (first ∷ packets) packet text bytes (own, others, spelled, prints, is) spelling =
    let at : place + 1 + length packets ≡ place + suc (length packets) = omega arith in
    let last = packet_line (place + suc (length packets)) packet.0 bytes in
    let behind = subst (λ n. PrintsPackets (place + 1) (packets ++ packet ∷ [])
    (others ++ packet_line n packet.0 bytes)) at
    (packets_more (place + 1) packets packet others bytes prints spelling) in (
      own,
      others ++ last,
      spelled,
      behind,
      ap (λ t. t ++ last) is
          ∙ append_assoc (packet_line place first.0 own) others last,
    )

-- the packet at the next place is printed, and this is its line
pub packets_next :
    (packets : List (ℕ × Message)) (place to : ℕ) (packet : ℕ × Message) (text bytes line : List ℕ)
    → place ≡ length packets → to ≡ packet.0 → Spelling packet.1 bytes → line ≡ packet_line place to bytes
    → PrintsPackets 0 packets text
    → PrintsPackets 0 (packets ++ packet ∷ []) (text ++ line)
packets_next packets place to packet text bytes line at its spelling line_is prints =
    let count : 0 + length packets ≡ place = omega (arith, at) in
    let own : packet_line (0 + length packets) packet.0 bytes ≡ line =
    ap (λ n. packet_line n packet.0 bytes) count ∙ ap (λ a. packet_line place a bytes) (sym its) ∙ sym line_is in
    subst (λ t. PrintsPackets 0 (packets ++ packet ∷ []) (text ++ t)) own
    (packets_more 0 packets packet text bytes prints spelling)

-- the first packets are printed, and others are still to come
pub packets_begun :
    (all printed coming : List (ℕ × Message)) (text : List ℕ) → printed ++ coming ≡ all
    → PrintsPackets 0 printed text → BeginsPackets all text
packets_begun all printed coming text is prints =
    let first : take (length printed) all ≡ printed =
    ap (take (length printed)) (sym is) ∙ take-append_seam printed coming in
    (length printed, subst (λ ps. PrintsPackets 0 ps text) (sym first) prints)

-- and one more was to come
pub packets_ended :
    (all printed coming : List (ℕ × Message)) (packet : ℕ × Message) (text : List ℕ)
    → printed ++ packet ∷ coming ≡ all → PrintsPackets 0 printed text → EndsPackets all text
packets_ended all printed coming packet text is prints =
    let first : take (length printed) all ≡ printed =
    ap (take (length printed)) (sym is) ∙ take-append_seam printed (packet ∷ coming) in
    let count : length (printed ++ packet ∷ coming) ≡ length printed + suc (length coming) =
    length-append printed (packet ∷ coming) in
    let same : length all ≡ length (printed ++ packet ∷ coming) = ap length (sym is) in
    (length printed, omega (arith, count, same), subst (λ ps. PrintsPackets 0 ps text) (sym first) prints)
