-- The last place of the list is the source.
use Rattle.std.proofs.Common.{ℕ, List, ap, map, reverse}
use Rattle.ov_flow.proofs.FlatPaths.{in_flat}
use Rattle.ov_flow.proofs.backward_paths.PathsBackwards.new.Goals as goal

pub returns : goal.returns
returns c = ap (λ (ps : List (List ℕ)). map reverse ps)
    (in_flat c.args.flat.now c.source_in.result c.source_in.ensures)
