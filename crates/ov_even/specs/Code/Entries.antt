-- The entries that a certificate has for pieces whose paths are named by ids.
use Rattle.std.specs.Prelude.{ℕ, List, [], ◌∷◌, ◌++◌}
use Rattle.ov_ids.specs.Members.{Has}
use Rattle.ov_cert.specs.declared.cert.PairPaths.{PairPaths}
use Rattle.ov_cert.specs.declared.cert.FanPaths.{FanPaths}
use Rattle.ov_cert.specs.declared.cert.Split.{Split}
use Rattle.ov_fans.specs.Pieces.{IsPieceOf, member_at}
use Rattle.ov_fans.specs.declared.piece.Piece.{Piece}
use Rattle.ov_fans.specs.declared.piece.Piece.TheVariants.{Pair, Fan}
use Rattle.ov_even.specs.declared.paths_by_ids.NamedPaths.{NamedPaths}

-- each of these is a piece for groups of m members
abbrev pub AreNamedPieces : ℕ → List NamedPaths → Type 0
AreNamedPieces m named = (n : NamedPaths) → Has named n → (nodes : ℕ) × IsPieceOf nodes m n.piece

-- the entry of a pair, and none of a fan
abbrev pub entry_of_pair : List ℕ → Piece → List (List ℕ) → List PairPaths
entry_of_pair q (Pair level i j) paths = record { i = member_at q i; j = member_at q j; paths = paths } ∷ []
entry_of_pair q (Fan level j) paths = []

-- the entry of a fan, and none of a pair
abbrev pub entry_of_fan : List ℕ → Piece → List (List ℕ) → List FanPaths
entry_of_fan q (Pair level i j) paths = []
entry_of_fan q (Fan level j) paths = record { j = member_at q j; paths = paths } ∷ []

-- the entries of all pairs among these
abbrev pub pair_entries : List ℕ → List NamedPaths → List PairPaths
pair_entries q [] = []
pair_entries q (n ∷ named) = entry_of_pair q n.piece n.paths ++ pair_entries q named

-- the entries of all fans among these
abbrev pub fan_entries : List ℕ → List NamedPaths → List FanPaths
fan_entries q [] = []
fan_entries q (n ∷ named) = entry_of_fan q n.piece n.paths ++ fan_entries q named

-- the split with the entries of these pieces
abbrev pub with_entries : List ℕ → List NamedPaths → Split → Split
with_entries q named c = record c { pairs = pair_entries q named; fans = fan_entries q named }
