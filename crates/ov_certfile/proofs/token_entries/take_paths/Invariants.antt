-- the paths so far were taken
use Rattle.std.proofs.Common.{◌≡◌, [], length}
use Rattle.ov_certfile.specs.Forms.{ids_in}
use Rattle.ov_certfile.specs.DataOf.{ids_data}
use Rattle.ov_certfile.proofs.Taking.{Taking}
use Rattle.ov_certfile.proofs.token_entries.take_paths.Given as goal

abbrev pub invariant-paths : goal.invariant-paths
invariant-paths l = record {
  begun : l.paths.begun ≡ [];
  taken : Taking ids_in ids_data l.fn.cursor l.paths.paths l.cursor;
}

abbrev pub decreases-paths : goal.decreases-paths
decreases-paths l = length l.cursor
