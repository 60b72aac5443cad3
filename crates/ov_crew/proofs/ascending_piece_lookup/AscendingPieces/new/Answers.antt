use Rattle.ov_crew.proofs.ascending_piece_lookup.AscendingPieces.new.Goals as goal

pub invariant_of-result : goal.invariant_of-result
invariant_of-result c = (c.requires.nodes, c.requires.members, c.first_column.ensures.column c.args.members)
