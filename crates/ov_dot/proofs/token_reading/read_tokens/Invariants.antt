-- the parts so far, their tokens, what is left, and whether it stands behind a word
use Rattle.std.proofs.Common.{length}
use Rattle.ov_dot.specs.Tokens.{lexemes}
use Rattle.ov_dot.proofs.Cutting.{SoFar}
use Rattle.ov_dot.proofs.token_reading.read_tokens.Given as goal

abbrev pub invariant-loop-rest : goal.invariant-loop-rest
invariant-loop-rest l = SoFar l.text (lexemes l.tokens.items) l.feeds l.rest l.behind_word

abbrev pub decreases-loop-rest : goal.decreases-loop-rest
decreases-loop-rest l = length l.rest
