-- No name so far is a numeral.
use Rattle.std.proofs.Common.{ℕ, ◌<◌}
use Rattle.ov_graphfile.specs.Code.Owners.{IsNumeralAt}
use Rattle.ov_graphfile.proofs.group_from_names_or_ids.has_numeral_name.Given as goal

abbrev pub invariant-loop-place : goal.invariant-loop-place
invariant-loop-place l = (q : ℕ) → q < l.place → ¬ IsNumeralAt l.names q
