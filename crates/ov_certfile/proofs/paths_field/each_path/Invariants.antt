-- the paths read so far, and those still to read
use Rattle.std.proofs.Common.{◌≡◌, [], drop}
use Rattle.serde_json.specs.View.{items_view}
use Rattle.ov_certfile.specs.Forms.{ids_in, each_in}
use Rattle.ov_certfile.proofs.Listed.{with_front}
use Rattle.ov_certfile.proofs.paths_field.each_path.Given as goal

abbrev pub invariant-loop-at : goal.invariant-loop-at
invariant-loop-at l = record {
  begun : l.paths.begun ≡ [];
  left : with_front l.paths.paths (each_in ids_in (items_view (drop l.at l.values)))
      ≡ each_in ids_in (items_view l.values);
}
