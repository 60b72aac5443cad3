-- No place so far has a name.
use Rattle.std.proofs.Common.{◌≡◌, ℕ, length, map, get_or, None}
use Rattle.std.specs.Option.{option_copied}
use Rattle.ov_graphfile.proofs.name_reading.no_names.Given as goal

abbrev pub invariant-loop-place : goal.invariant-loop-place
invariant-loop-place l = record {
  size : length l.told.items ≡ l.place;
  none : (p : ℕ) → get_or (map (λ t. option_copied t) l.told.items) p None ≡ None;
}
