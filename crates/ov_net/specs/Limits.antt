-- The limits of a world, by the parameters of its nodes, whose scale says how large it may grow. They are chosen here.
use Rattle.std.specs.Prelude.{ℕ}
use Rattle.ov_ids.specs.ParamsState.{ParamsState}
use Rattle.ov_ids.specs.Scales.{most_born_at, most_entries_at, most_packets_at}
use Rattle.ov_peer.specs.Limits.{most_sends}

-- the most nodes that may ever be born in a world
abbrev pub most_world_nodes : ParamsState → ℕ
most_world_nodes params = most_born_at params.scale

-- the most packets that may be on their way
abbrev pub most_packets : ParamsState → ℕ
most_packets params = most_packets_at params.scale

-- the most packets that one step may send: what one step of a node sends at most
abbrev pub step_packets : ℕ
step_packets = most_sends

-- the most entries that a journal may have
abbrev pub most_entries : ParamsState → ℕ
most_entries params = most_entries_at params.scale

-- the most entries that any journal may have: that of a large world
abbrev pub longest_of_any : ℕ
longest_of_any = 16777216
