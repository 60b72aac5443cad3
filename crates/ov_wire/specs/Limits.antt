-- The limits of messages, all chosen here.
use Rattle.std.specs.Prelude.{ℕ}

-- the greatest time to live of a random walk
abbrev pub most_ttl : ℕ
most_ttl = 15

-- the most ids in a list of a message
abbrev pub most_ids : ℕ
most_ids = 17

-- the most bytes in a payload
abbrev pub most_payload : ℕ
most_payload = 1024
