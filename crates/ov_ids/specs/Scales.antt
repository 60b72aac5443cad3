-- How large a world may grow, by its scale, and the words for scales in scenario files: chosen here.
use Rattle.std.specs.Prelude.{ℕ, List, [], ◌∷◌, codes, nat_eq, Option}
use Rattle.std.specs.List.{find}
use Rattle.std.specs.Cmp.Lexicographic.{pointwise}
use Rattle.ov_ids.specs.Limits.{longest_journal}
use Rattle.ov_ids.specs.declared.world_scale.Scale.{Scale}
use Rattle.ov_ids.specs.declared.world_scale.Scale.TheVariants.{Profile, Large}

-- the most nodes that may ever be born in a world
abbrev pub most_born_at : Scale → ℕ
most_born_at Profile = 256
most_born_at Large = 32768

-- the most entries that its journal may have
abbrev pub most_entries_at : Scale → ℕ
most_entries_at Profile = longest_journal
most_entries_at Large = 16777216

-- the most packets that may be on their way in it
abbrev pub most_packets_at : Scale → ℕ
most_packets_at Profile = 65536
most_packets_at Large = 1048576

-- the word for a scale
abbrev pub scale_name : Scale → List ℕ
scale_name Profile = codes "profile"
scale_name Large = codes "large"

-- the scale with this word, or None if it is the word for none
abbrev pub scale_named : List ℕ → Option Scale
scale_named name = find (λ scale. pointwise nat_eq name (scale_name scale)) (Profile ∷ Large ∷ [])
