-- The items were taken one after another.
use Rattle.std.proofs.Common.{◌≡◌, ◌∷◌, ap, arith}
use Rattle.std.proofs.Common.{length}
use Rattle.json.specs.Token.{end_array}
use Rattle.ov_certfile.proofs.Taking.{fewer_left, taking_begun, taking_all, taking_back}
use Rattle.ov_certfile.proofs.token_fields.take_list.Goals as goal

pub items-init : goal.items-init
items-init g c =
    rw c.new-items.ensures.items (taking_begun g.T.Field.form g.T.Field.as_data _ _ c.in_ok-begin_array.ensures)

pub items-smaller : goal.items-smaller
items-smaller g c =
    let going : c.end_array.new.self ≡ c.items.cursor = grind arith in
    let less = fewer_left (g.T.Field.as_data c.in_ok-item.item) c.end_array.new.self c.take.new.cursor
    c.in_ok-item.ensures.taken in
    omega (arith, less, ap length going)

pub returns-clause-taken : goal.returns-clause-taken
returns-clause-taken g c =
    let ended : c.items.cursor ≡ end_array ∷ c.end_array.new.self = grind arith in
    taking_all g.T.Field.form g.T.Field.as_data c.args.cursor.now c.items.items.items c.items.cursor
    c.end_array.new.self c.items.invariant ended

pub returns-clause-reads_back : goal.returns-clause-reads_back
returns-clause-reads_back g c =
    taking_back g.T.Field.form g.T.Field.as_data c.args.cursor.now c.items.items.items c.items.cursor c.items.invariant
