-- What is wrong with an entry, as functions that compute. The code is proved against these.
use Rattle.std.specs.Prelude.{ℕ, suc, ◌&&◌, ◌==◌, not, Bool, List, [], ◌∷◌, length, if◌then◌else◌, Option, Some, None}
use Rattle.ov_ids.specs.Sets.{has, adding}
use Rattle.ov_graph.specs.Links.{LinkGraph}
use Rattle.ov_graph.specs.Code.Tests.{are_joined}
use Rattle.ov_cert.specs.declared.cert.PairPaths.{PairPaths}
use Rattle.ov_cert.specs.declared.cert.FanPaths.{FanPaths}
use Rattle.ov_cert.specs.declared.path_and_entry_flaws.PathFlaw.{PathFlaw}
use Rattle.ov_cert.specs.declared.path_and_entry_flaws.PathFlaw.TheVariants.{TooShort, BeginsAt, EndsAt, NoLink, Taken}
use Rattle.ov_cert.specs.declared.path_and_entry_flaws.EntryFlaw.{EntryFlaw}
use Rattle.ov_cert.specs.declared.path_and_entry_flaws.EntryFlaw.TheVariants.{Missing, NamesOthers, Number, Path}
use Rattle.ov_cert.specs.Code.Tests.{entered, without_last, last_of, inner, steps, is_earlier}

-- the first step of the list between two nodes that are not linked
abbrev pub chain_flaw : LinkGraph → List ℕ → Option PathFlaw
chain_flaw g [] = None
chain_flaw g (a ∷ []) = None
chain_flaw g (a ∷ b ∷ rest) = if are_joined g.links a b then chain_flaw g (b ∷ rest) else Some (NoLink a b)

-- the first id that is no node, or is in the set, or came before
abbrev pub first_taken : LinkGraph → List ℕ → List ℕ → Option ℕ
first_taken g used [] = None
first_taken g used (x ∷ xs) = if has g.nodes x && not (has used x) then first_taken g (adding x used) xs else Some x

-- a flaw of the steps, or else the id that is taken
abbrev pub steps_flaw : Option PathFlaw → Option ℕ → Option PathFlaw
steps_flaw (Some flaw) taken = Some flaw
steps_flaw None (Some x) = Some (Taken x)
steps_flaw None None = None

-- the first flaw of a path from a to z: of its beginning, its end, and the rest
abbrev pub flaw_by_ends : Bool → Bool → ℕ → ℕ → Option PathFlaw → Option PathFlaw
flaw_by_ends begins ends a z rest = if begins then (if ends then rest else Some (EndsAt z)) else Some (BeginsAt a)

-- what is wrong with a path that should lead from i to j over unused nodes
abbrev pub pair_path_flaw : LinkGraph → List ℕ → ℕ → ℕ → List ℕ → Option PathFlaw
pair_path_flaw g used i j [] = Some TooShort
pair_path_flaw g used i j (a ∷ []) = Some TooShort
pair_path_flaw g used i j (a ∷ b ∷ rest) = flaw_by_ends (a == i) (last_of b rest == j) a (last_of b rest)
    (steps_flaw (chain_flaw g (a ∷ b ∷ rest)) (first_taken g used (without_last (b ∷ rest))))

-- what is wrong with a path that should lead from j over unused nodes to a member below j
abbrev pub fan_path_flaw : LinkGraph → List ℕ → List ℕ → ℕ → List ℕ → Option PathFlaw
fan_path_flaw g q used j [] = Some TooShort
fan_path_flaw g q used j (a ∷ []) = Some TooShort
fan_path_flaw g q used j (a ∷ b ∷ rest) = flaw_by_ends (a == j) (is_earlier q j (last_of b rest)) a (last_of b rest)
    (steps_flaw (chain_flaw g (a ∷ b ∷ rest)) (first_taken g used (b ∷ rest)))

-- the flaw of the path at this place, or else the flaw of the later ones
abbrev pub path_or_later : ℕ → Option PathFlaw → Option EntryFlaw → Option EntryFlaw
path_or_later at (Some flaw) later = Some (Path at flaw)
path_or_later at None later = later

-- the first flaw of these paths from i to j; the first of them has this place
abbrev pub pair_paths_flaw : LinkGraph → List ℕ → ℕ → ℕ → ℕ → List (List ℕ) → Option EntryFlaw
pair_paths_flaw g used i j at [] = None
pair_paths_flaw g used i j at (p ∷ ps) = path_or_later at (pair_path_flaw g used i j p)
    (pair_paths_flaw g (entered used (inner p)) i j (suc at) ps)

-- the first flaw of these paths from j to members below j; the first of them has this place
abbrev pub fan_paths_flaw : LinkGraph → List ℕ → List ℕ → ℕ → ℕ → List (List ℕ) → Option EntryFlaw
fan_paths_flaw g q used j at [] = None
fan_paths_flaw g q used j at (p ∷ ps) = path_or_later at (fan_path_flaw g q used j p)
    (fan_paths_flaw g q (entered used (steps p)) j (suc at) ps)

-- what is wrong with the entry of a pair
abbrev pub pair_entry_flaw : LinkGraph → ℕ → ℕ × ℕ → Option PairPaths → Option EntryFlaw
pair_entry_flaw g k p None = Some Missing
pair_entry_flaw g k p (Some e) = if e.i == p.0 then (if e.j == p.1 then (if length e.paths == k
    then pair_paths_flaw g (adding p.1 (p.0 ∷ [])) p.0 p.1 0 e.paths else Some Number) else Some NamesOthers)
    else Some NamesOthers

-- what is wrong with the entry of a fan
abbrev pub fan_entry_flaw : LinkGraph → List ℕ → ℕ → ℕ → Option FanPaths → Option EntryFlaw
fan_entry_flaw g q k j None = Some Missing
fan_entry_flaw g q k j (Some e) = if e.j == j then (if length e.paths == k
    then fan_paths_flaw g q (j ∷ []) j 0 e.paths else Some Number) else Some NamesOthers
