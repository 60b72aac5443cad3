use Rattle.std.proofs.Common.{append_assoc}
use Rattle.std.proofs.lemmas.List.{append-nil}
use Rattle.ov_wire.proofs.writing.put_body.Goals as goal

pub returns-in_ok-put_payload-in-Gossip-clause-ok : goal.returns-in_ok-put_payload-in-Gossip-clause-ok
returns-in_ok-put_payload-in-Gossip-clause-ok c =
    let id = c.in_ok-put_id-in-Gossip.ensures.ok in
    let round = c.in_ok-extend_from_slice-in-Gossip.ensures.items in
    let payload = c.in_ok-put_payload-in-Gossip.ensures.ok in
    rw (c.in-Gossip.is, payload, round, id, c.to_be_bytes-in-Gossip.ensures, c.as_slice-in-Gossip.ensures)
    (simp (append_assoc, append-nil))
