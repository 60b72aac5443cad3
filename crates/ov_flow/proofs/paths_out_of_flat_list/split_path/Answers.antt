-- The source ends the first path.
use Rattle.std.proofs.Common.{◌∙◌, sym}
use Rattle.ov_flow.proofs.FlatPaths.{path_split, no_path}
use Rattle.ov_flow.proofs.paths_out_of_flat_list.split_path.Goals as goal

pub returns-in-Some-clause-paths : goal.returns-in-Some-clause-paths
returns-in-Some-clause-paths c =
    rw (c.split_at.ensures.front, c.split_at.ensures.back)
    (path_split c.args.source c.args.flat.now c.in-Some.end (sym c.place_of.ensures.place ∙ c.in-Some.is))

pub returns-in-None-clause-paths : goal.returns-in-None-clause-paths
returns-in-None-clause-paths c =
    no_path c.args.source c.args.flat.now (sym c.place_of.ensures.place ∙ c.in-None.is)
