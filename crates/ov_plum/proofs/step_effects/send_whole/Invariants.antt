use Rattle.std.proofs.Common.{◌≡◌, ◌+◌, ◌++◌, take, vec_len}
use Rattle.std.specs.Prelude.{map}
use Rattle.ov_wire.specs.Messages.{say}
use Rattle.ov_plum.specs.PlumRows.{gossip}
use Rattle.ov_plum.proofs.step_effects.send_whole.Given as goal

abbrev pub invariant-loop-neighbour : goal.invariant-loop-neighbour
invariant-loop-neighbour l =
    (l.sends.items ≡ l.fn.sends.items ++ map (λ x. (x, say l.me (gossip l.id l.held))) (take l.neighbour-index l.to))
    × (vec_len l.sends ≡ vec_len l.fn.sends + l.neighbour-index)
