-- the ids so far were taken
use Rattle.std.proofs.Common.{◌≡◌, length}
use Rattle.ov_certfile.specs.Forms.{id_in}
use Rattle.ov_certfile.specs.DataOf.{whole_data}
use Rattle.ov_certfile.proofs.Taking.{Taking}
use Rattle.ov_certfile.proofs.token_entries.take_ids.Given as goal

abbrev pub invariant-ids : goal.invariant-ids
invariant-ids l = record {
  paths : l.paths.paths ≡ l.fn.paths.paths;
  taken : Taking id_in whole_data l.fn.cursor l.paths.begun l.cursor;
}

abbrev pub decreases-ids : goal.decreases-ids
decreases-ids l = length l.cursor
