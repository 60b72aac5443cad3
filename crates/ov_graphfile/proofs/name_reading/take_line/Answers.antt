-- The comment names a node, or none.
use Rattle.std.proofs.Common.{inl, inr, refl}
use Rattle.ov_graphfile.proofs.name_reading.take_line.Goals as goal

pub returns-in-Some-clause-taken : goal.returns-in-Some-clause-taken
returns-in-Some-clause-taken c =
    inl (c.in-Some.said.0, c.in-Some.said.1.now, c.in-Some.ensures.some, c.keep.ensures.keeps)

pub returns-in_default-clause-taken : goal.returns-in_default-clause-taken
returns-in_default-clause-taken c = inr (c.in_default.ensures.none, refl)
