-- the ids read so far, and those still to read
use Rattle.std.proofs.Common.{◌≡◌, drop}
use Rattle.serde_json.specs.View.{items_view}
use Rattle.ov_certfile.specs.Forms.{id_in, each_in}
use Rattle.ov_certfile.proofs.Listed.{with_front}
use Rattle.ov_certfile.proofs.paths_field.push_ids.Given as goal

abbrev pub invariant-loop-at : goal.invariant-loop-at
invariant-loop-at l = record {
  paths : l.paths.paths ≡ l.fn.paths.paths;
  left : with_front l.paths.begun (each_in id_in (items_view (drop l.at l.values)))
      ≡ each_in id_in (items_view l.values);
}
