-- How the first word is split off a line.
use Rattle.std.specs.Prelude.{ℕ, ◌==◌, List, [], ◌∷◌, length, take, drop, Option, Some, None, if◌then◌else◌}
use Rattle.ov_lines.specs.Lines.{is_space, place_or_end, without_spaces, number_within, ids_of}

-- the bytes up to the first space, and those from there on
abbrev pub up_to_space : List ℕ → List ℕ × List ℕ
up_to_space text = (take (place_or_end is_space text) text, drop (place_or_end is_space text) text)

-- the first word, and what is left after it; None if there are only spaces
unfoldable pub first_word : List ℕ → Option (List ℕ × List ℕ)
first_word text = if length (without_spaces text) == 0 then None else Some (up_to_space (without_spaces text))

-- the ids that the first word spells, if there is one
abbrev pub first_list : List (List ℕ) → Option (List ℕ)
first_list [] = None
first_list (word ∷ more) = ids_of word

-- the number that the first word spells, if there is one and it fits this many bits
abbrev pub first_number : ℕ → List (List ℕ) → Option ℕ
first_number bits [] = None
first_number bits (word ∷ more) = number_within bits word
