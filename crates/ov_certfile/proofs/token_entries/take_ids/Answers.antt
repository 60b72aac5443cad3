-- The ids were taken one after another.
use Rattle.std.proofs.Common.{◌≡◌, ◌∷◌, arith}
use Rattle.json.specs.Token.{end_array}
use Rattle.ov_certfile.specs.Forms.{id_in}
use Rattle.ov_certfile.specs.DataOf.{whole_data}
use Rattle.ov_certfile.proofs.Taking.{taking_all, taking_back}
use Rattle.ov_certfile.proofs.token_entries.take_ids.Goals as goal

pub returns-clause-taken : goal.returns-clause-taken
returns-clause-taken c =
    let ended : c.ids.cursor ≡ end_array ∷ c.end_array.new.self = grind arith in
    taking_all id_in whole_data c.args.cursor.now c.ids.paths.begun c.ids.cursor c.end_array.new.self
    c.ids.invariant.taken ended

pub returns-clause-reads_back : goal.returns-clause-reads_back
returns-clause-reads_back c =
    taking_back id_in whole_data c.args.cursor.now c.ids.paths.begun c.ids.cursor c.ids.invariant.taken
