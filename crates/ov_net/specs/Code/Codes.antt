-- A world by its parts, and how it is encoded, so that it can be the value that contracts see.
use Rattle.std.specs.Prelude.{ℕ, List, refl}
use Rattle.std.specs.Coded.{Coded, code_by, coded×, coded_ℕ, coded_list}
use Rattle.std.specs.Ordering.{nat_cmp}
use Rattle.std.specs.FinMap as map
use Rattle.ov_ids.specs.ParamsState.{ParamsState}
use Rattle.ov_ids.specs.contracts.params.Params as params
use Rattle.ov_wire.specs.declared.message.Message.{Message}
use Rattle.ov_wire.specs.contracts.message.Message as message
use Rattle.ov_net.specs.World.{WorldState}
use Rattle.ov_net.specs.contracts.journal_entry_and_changes.Entry as entry
use Rattle.ov_net.specs.contracts.member.Member as member
use Rattle.ov_net.specs.declared.journal_entry_and_changes.Entry.{Entry}
use Rattle.ov_net.specs.declared.member.Member.{Member}

-- the encoding of a world
abbrev pub world_code : Coded WorldState
world_code =
    code_by (ParamsState × (map.FinMap nat_cmp Member × (List (ℕ × Message) × List Entry)))
    (coded× params.the_row.coded
    (coded× (map.code coded_ℕ member.the_row.coded)
    (coded× (coded_list (coded× coded_ℕ message.the_row.coded)) (coded_list entry.the_row.coded))))
    (λ c. (c.net.params, (c.net.nodes, (c.net.packets, c.journal))))
    (λ p. record { net = record { params = p.0; nodes = p.1.0; packets = p.1.1.0 }; journal = p.1.1.1 })
    (λ _. refl)

-- the world with these parts
abbrev pub world_of : ParamsState → map.FinMap nat_cmp Member → List (ℕ × Message) → List Entry → WorldState
world_of params nodes packets journal =
    record { net = record { params = params; nodes = nodes; packets = packets }; journal = journal }
