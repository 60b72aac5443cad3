-- the number is that of the entries so far
use Rattle.std.proofs.Common.{◌≡◌, ◌-◌, ◌^◌, min, take}
use Rattle.std.specs.List.{sum_by}
use Rattle.ov_certwriter.specs.Length.{ids_on}
use Rattle.ov_certwriter.proofs.entry_lengths.ids_of.Given as goal

abbrev pub invariant-loop-entry : goal.invariant-loop-entry
invariant-loop-entry g l =
    l.ids ≡ min (sum_by (λ e. ids_on (g.T.Entry.paths_of e)) (take l.entry-index l.entries)) (2 ^ 64 - 1)
