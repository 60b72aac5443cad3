-- the result for the path is the result for the nodes still left
use Rattle.std.proofs.Common.{◌≡◌, ◌∷◌, length}
use Rattle.ov_cert.specs.Code.Flaws.{chain_flaw}
use Rattle.ov_cert.proofs.path_judging.unlinked_step.Given as goal

abbrev pub invariant-loop-next : goal.invariant-loop-next
invariant-loop-next l = chain_flaw l.graph (l.at ∷ l.rest) ≡ chain_flaw l.graph l.path

abbrev pub decreases-loop-next : goal.decreases-loop-next
decreases-loop-next l = length l.rest
