-- An entry of a certificate that is chosen for a picture, and its paths.
use Rattle.std.specs.Prelude.{ℕ, ◌==◌, ◌&&◌, if◌then◌else◌, List, [], ◌∷◌, Option, Some, None}
use Rattle.ov_cert.specs.declared.cert.Cert.{Cert}
use Rattle.ov_cert.specs.declared.cert.Cert.TheVariants as cert
use Rattle.ov_cert.specs.declared.cert.PairPaths.{PairPaths}
use Rattle.ov_cert.specs.declared.cert.FanPaths.{FanPaths}
use Rattle.ov_drawing.specs.declared.chosen_entry.ChosenEntry.{ChosenEntry}
use Rattle.ov_drawing.specs.declared.chosen_entry.ChosenEntry.TheVariants.{Pair, Fan}

-- the paths of the first entry of the pair of i and j
abbrev pub pair_paths : ℕ → ℕ → List PairPaths → Option (List (List ℕ))
pair_paths i j [] = None
pair_paths i j (e ∷ es) = if (e.i == i) && (e.j == j) then Some e.paths else pair_paths i j es

-- the paths of the first entry of the fan of j
abbrev pub fan_paths : ℕ → List FanPaths → Option (List (List ℕ))
fan_paths j [] = None
fan_paths j (e ∷ es) = if e.j == j then Some e.paths else fan_paths j es

-- the paths of an entry of a certificate, and None if the certificate has no such entry
abbrev pub entry_paths : Cert → ChosenEntry → Option (List (List ℕ))
entry_paths (cert.Linked k) entry = None
entry_paths (cert.Split c) (Pair i j) = pair_paths i j c.pairs
entry_paths (cert.Split c) (Fan j) = fan_paths j c.fans

-- the paths that a picture shows: those of the entry that is chosen, or none if no entry is chosen
abbrev pub shown_paths : Cert → Option ChosenEntry → Option (List (List ℕ))
shown_paths c None = Some []
shown_paths c (Some entry) = entry_paths c entry
