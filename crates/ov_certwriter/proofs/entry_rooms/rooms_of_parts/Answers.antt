-- Each thread looks at the entries of its part.
use Rattle.std.proofs.Common.{slice_index_or, subst}
use Rattle.ov_certwriter.specs.Code.Blocks.{AreWithin}
use Rattle.ov_certwriter.proofs.entry_rooms.rooms_of_parts.Goals as goal

pub returns-clause-parts : goal.returns-clause-parts
returns-clause-parts g c place d low small =
    let rooms = c.in_ok-map_chunks.field-0.items in
    let gives = (c.in_ok-map_chunks.ensures.each place d low).1 in
    subst (AreWithin g.T.Entry.paths_of (slice_index_or rooms place d)) gives.argument_is.value (gives.call small)
