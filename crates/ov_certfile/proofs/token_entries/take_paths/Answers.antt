-- The paths were taken one after another.
use Rattle.std.proofs.Common.{◌≡◌, ◌∷◌, arith}
use Rattle.json.specs.Token.{end_array}
use Rattle.ov_certfile.specs.Forms.{ids_in}
use Rattle.ov_certfile.specs.DataOf.{ids_data}
use Rattle.ov_certfile.proofs.Taking.{taking_more, taking_all, taking_back}
use Rattle.ov_certfile.proofs.token_entries.take_paths.Goals as goal

pub paths-preserved : goal.paths-preserved
paths-preserved c =
    let p = c.in_ok-take_path.ensures.path in
    let stays : c.end_array.new.self ≡ c.paths.cursor = grind arith in
    record {
      begun = c.in_ok-take_path.ensures.ended;
      taken = rw p.pushed (taking_more ids_in ids_data c.args.cursor.now c.paths.paths.paths p.ids c.paths.cursor
          c.take_path.new.cursor c.paths.invariant.taken (rw (← stays) p.taken) p.back);
    }

pub returns-clause-taken : goal.returns-clause-taken
returns-clause-taken c =
    let ended : c.paths.cursor ≡ end_array ∷ c.end_array.new.self = grind arith in
    rw c.finish.ensures (taking_all ids_in ids_data c.args.cursor.now c.paths.paths.paths c.paths.cursor
    c.end_array.new.self c.paths.invariant.taken ended)

pub returns-clause-reads_back : goal.returns-clause-reads_back
returns-clause-reads_back c =
    rw c.finish.ensures (taking_back ids_in ids_data c.args.cursor.now c.paths.paths.paths c.paths.cursor
    c.paths.invariant.taken)
