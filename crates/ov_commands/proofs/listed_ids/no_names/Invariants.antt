-- No names of the nodes so far.
use Rattle.std.proofs.Common.{◌≡◌, length, map, replicate, None}
use Rattle.std.specs.Option.{option_copied}
use Rattle.ov_commands.proofs.listed_ids.no_names.Given as goal

abbrev pub invariant-loop-place : goal.invariant-loop-place
invariant-loop-place l =
    (map (λ t. option_copied t) l.none.items ≡ replicate l._place None) × (length l.none.items ≡ l._place)
