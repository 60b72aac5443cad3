-- Names that are taken one after another into a set of at most `most` names.
use Rattle.std.specs.Prelude.{◌≡◌, ◌↔◌, ◌⊎◌, ⊤, ℕ, ◌≤◌, List, ◌∷◌, ◌++◌, map, length}
use Rattle.ov_ids.specs.Members.{Has, Ordered}
use Rattle.ov_dump.specs.Faults.{Naming}
use Rattle.ov_dump.specs.Names.{ComesBefore}
use Rattle.ov_dump.specs.declared.graph_making_fault.DumpFault.{DumpFault}
use Rattle.ov_dump.specs.declared.graph_making_fault.DumpFault.TheVariants.{TooManyNodes, OutOfMemory}

-- the set `new` has the names of `old` and these
pub record Gains (most : ℕ) (old : List (List ℕ)) (more : List Naming) (new : List (List ℕ)) : Type 0 where
  pub each : (n : List ℕ) → Has new n ↔ (Has old n ⊎ Has (map (λ m. m.1) more) n)
  pub few : length new ≤ most

-- the set is full, and the name is none of its members
pub record IsFullWithout (most : ℕ) (kept : List (List ℕ)) (name : List ℕ) : Type 0 where
  pub ascend : Ordered ComesBefore kept
  pub full : length kept ≡ most
  pub another : ¬ Has kept name

-- of these names, which go into the set `old`, the first one too many is at this place
abbrev pub RunsOver : ℕ → List (List ℕ) → List Naming → DumpFault → Type 0
RunsOver most old more (TooManyNodes at name limit) =
    (limit ≡ most) × (before after : List Naming) × (kept : List (List ℕ)) × (more ≡ before ++ (at, name) ∷ after)
    × Gains most old before kept × IsFullWithout most kept name
RunsOver most old more OutOfMemory = ⊤
RunsOver most old more other = ⊥
