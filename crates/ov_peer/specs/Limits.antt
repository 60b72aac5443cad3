-- What one step of a node uses at most. Both numbers are chosen here.
use Rattle.std.specs.Prelude.{ℕ, ◌-◌, ◌≤◌, List, length}
use Rattle.ov_words.specs.Pick.{Choice, Drawn}
use Rattle.ov_words.specs.Stream.{words_per_event}
use Rattle.ov_views.specs.Handling.{step_words}

-- how many of the 64 random words of an event a step leaves at least: all but the 40 of one handler
abbrev pub least_left : ℕ
least_left = words_per_event - step_words

-- how many messages a step sends at most
abbrev pub most_sends : ℕ
most_sends = 64

-- Some choices with P are drawn from the random words of an event, one word for each choice, in order. At least 24
-- words are left.
abbrev pub DrawnFrom : List ℕ → (List Choice → Type 0) → Type 0
DrawnFrom words P = (left : List ℕ) × (least_left ≤ length left) × Drawn words left P
