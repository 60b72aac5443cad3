-- The random words that a line of a scenario gives to an event. The form of the line is chosen here.
use Rattle.std.specs.Prelude.{ℕ, ◌-◌, nat_lt, nat_le, ◌&&◌, List, ◌++◌, length, replicate, Option, Some, None}
use Rattle.std.specs.Prelude.{if◌then◌else◌}
use Rattle.ov_ids.specs.Options.{◌>>=◌}
use Rattle.ov_lines.specs.Lines.{each_number, long_bits}
use Rattle.ov_words.specs.Stream.{words_per_event}

-- the random words of an event: those that are given, from one on, and zeros after them
abbrev pub with_zeros : List ℕ → Option (List ℕ)
with_zeros ns =
    if nat_lt 0 (length ns) && nat_le (length ns) words_per_event
    then Some (ns ++ replicate (words_per_event - length ns) 0)
    else None

-- the random words of an event, which all words spell
abbrev pub event_words : List (List ℕ) → Option (List ℕ)
event_words words = each_number long_bits words >>= with_zeros
