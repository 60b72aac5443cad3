use Rattle.std.proofs.Common.{ap, arith, length}
use Rattle.std.specs.Int.{w32, to_be_bytes}
use Rattle.std.specs.List.{flat_map}
use Rattle.std.proofs.lemmas.List.{append-nil}
use Rattle.ov_wire.proofs.Fields.{ids_bytes}
use Rattle.ov_wire.proofs.writing.len_of.Goals as goal

pub returns-in-Shuffle : goal.returns-in-Shuffle
returns-in-Shuffle c =
    let ids = c.in-Shuffle.ids in
    rw (c.in-Shuffle.is, c.as_slice.ensures)
    (omega (arith, ap length (append-nil (flat_map (to_be_bytes w32) ids)), ids_bytes ids))

pub returns-in-ShuffleReply : goal.returns-in-ShuffleReply
returns-in-ShuffleReply c =
    let ids = c.in-ShuffleReply.ids in
    rw (c.in-ShuffleReply.is, c.as_slice-in-ShuffleReply.ensures)
    (omega (arith, ap length (append-nil (flat_map (to_be_bytes w32) ids)), ids_bytes ids))
