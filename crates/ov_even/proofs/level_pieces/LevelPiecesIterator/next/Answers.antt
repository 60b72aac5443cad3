-- The pieces still to come, step by step.
use Rattle.std.proofs.Common.{◌∙◌, sym, add-one, arith, rules}
use Rattle.ov_even.proofs.PieceNumbers.LevelSteps.{no_more, next_fan, next_pair, last_pair}
use Rattle.ov_even.proofs.level_pieces.LevelPiecesIterator.next.Goals as goal

pub returns-then-j-self-clause-steps : goal.returns-then-j-self-clause-steps
returns-then-j-self-clause-steps c =
    let s = c.self.inside in
    let e = sym c.self.view_is ∙ no_more s.members s.level s.j s.i c.if-j-self.true in
    (e, e)

pub returns-then-j-level-clause-steps : goal.returns-then-j-level-clause-steps
returns-then-j-level-clause-steps c =
    let s = c.self.inside in
    rw add-one (sym c.self.view_is ∙ next_fan s.members s.level s.j s.i c.if-j-self.false c.if-j-level.true)

pub returns-then-j-level-clause-goes : goal.returns-then-j-level-clause-goes
returns-then-j-level-clause-goes c = rw (returns-then-j-level-clause-steps c) (search rules)

pub returns-then-i-j-clause-steps : goal.returns-then-i-j-clause-steps
returns-then-i-j-clause-steps c =
    let s = c.self.inside in
    rw add-one (sym c.self.view_is
    ∙ next_pair s.members s.level s.j s.i c.if-j-self.false c.if-j-level.false (omega arith))

pub returns-then-i-j-clause-goes : goal.returns-then-i-j-clause-goes
returns-then-i-j-clause-goes c = rw (returns-then-i-j-clause-steps c) (search rules)

pub returns-else-i-j-clause-steps : goal.returns-else-i-j-clause-steps
returns-else-i-j-clause-steps c =
    let s = c.self.inside in
    rw add-one (sym c.self.view_is
    ∙ last_pair s.members s.level s.j s.i c.if-j-self.false c.if-j-level.false (omega arith))

pub returns-else-i-j-clause-goes : goal.returns-else-i-j-clause-goes
returns-else-i-j-clause-goes c = rw (returns-else-i-j-clause-steps c) (search rules)
