-- Words that are neighbours among parts, from the first part on.
use Rattle.std.specs.Prelude.{ℕ, Bool, true, not, ◌&&◌, List, [], ◌∷◌}
use Rattle.ov_dot.specs.Tokens.{is_word, kind_of, sticks}

-- the last of these parts is a word; without one this
abbrev pub ends_in_word : Bool → List (List ℕ) → Bool
ends_in_word behind [] = behind
ends_in_word behind (part ∷ parts) = ends_in_word (is_word (kind_of part)) parts

-- no word and no colon among these parts stands right behind a word. The flag says whether the parts stand behind one
abbrev pub are_apart : Bool → List (List ℕ) → Bool
are_apart behind [] = true
are_apart behind (part ∷ parts) =
    not (behind && sticks (kind_of part)) && are_apart (is_word (kind_of part)) parts
