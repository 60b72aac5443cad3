-- The cells of a row, cut into those of its groups of columns.
use Rattle.std.specs.Prelude.{◌≡◌, ℕ, Bool, true, false, List, [], ◌++◌, length}
use Rattle.ov_sweep_rows.specs.declared.cell.Cell.{Cell}
use Rattle.ov_sweep_rows.specs.declared.row_fault.FieldForm.{FieldForm}
use Rattle.ov_sweep_rows.specs.Columns.{if_asked}
use Rattle.ov_sweep_rows.specs.Code.Taking.{TakeFrom}

-- columns of these forms may read these cells, one each
pub record Fits (cs : List Cell) (xs : List FieldForm) : Type 0 where
  pub long : length cs ≡ length xs
  pub taken : TakeFrom cs 0 xs

-- a group of columns for each phase
abbrev pub thrice : {A : Type 0} → List A → List A
thrice group = group ++ (group ++ group)

-- cells are those of a group, which is empty if it is not asked for, and the rest
pub record IsCut (asked : Bool) (xs ys : List FieldForm) (cs group rest : List Cell) : Type 0 where
  pub whole : cs ≡ group ++ rest
  pub fits : asked ≡ true → Fits group xs
  pub none : asked ≡ false → group ≡ []
  pub behind : Fits rest ys

-- cells were cut behind those of a group of so many columns
abbrev pub Cuts : Bool → ℕ → List Cell → List Cell → List Cell → Type 0
Cuts asked count cs group rest =
    (xs ys : List FieldForm) → length xs ≡ count → Fits cs (if_asked asked xs ++ ys) → IsCut asked xs ys cs group rest

-- cells are those of a group for each phase, and the rest
pub record IsCutThrice (asked : Bool) (xs ys : List FieldForm) (cs settle crash heal rest : List Cell) : Type 0 where
  pub whole : cs ≡ (settle ++ (crash ++ heal)) ++ rest
  pub fits : asked ≡ true → Fits settle xs × Fits crash xs × Fits heal xs
  pub none : asked ≡ false → settle ++ (crash ++ heal) ≡ []
  pub behind : Fits rest ys

-- cells were cut behind those of three groups of so many columns
abbrev pub CutsThrice : Bool → ℕ → List Cell → List Cell → List Cell → List Cell → List Cell → Type 0
CutsThrice asked count cs settle crash heal rest =
    (xs ys : List FieldForm) → length xs ≡ count → Fits cs (if_asked asked (thrice xs) ++ ys)
    → IsCutThrice asked xs ys cs settle crash heal rest
