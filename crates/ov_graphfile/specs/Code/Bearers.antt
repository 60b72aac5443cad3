-- Who has a name.
use Rattle.std.specs.Prelude.{◌≡◌, ℕ, ◌<◌, List, slice_index_or, Option, Some, None}
use Rattle.ov_graphfile.specs.declared.nodes_by_name.Bearer.{Bearer}
use Rattle.ov_graphfile.specs.declared.nodes_by_name.Bearer.TheVariants.{One, Several}

-- the node at place p has this name
abbrev pub HasName : List (Option (List ℕ)) → List ℕ → ℕ → Type 0
HasName told name p = slice_index_or told p None ≡ Some name

-- of the first `done` nodes, none has this name, or this one alone, or two of them
abbrev pub IsBearerOf : List (Option (List ℕ)) → ℕ → List ℕ → Option Bearer → Type 0
IsBearerOf told done name None = (p : ℕ) → p < done → ¬ HasName told name p
IsBearerOf told done name (Some (One p)) =
    (p < done) × HasName told name p × ((q : ℕ) → q < done → HasName told name q → q ≡ p)
IsBearerOf told done name (Some Several) =
    (p : ℕ) × (q : ℕ) × (p < q) × (q < done) × HasName told name p × HasName told name q

-- the table says of each name who of the first `done` nodes has it
abbrev pub AreBearers : List (Option (List ℕ)) → ℕ → (List ℕ → Option Bearer) → Type 0
AreBearers told done table = (name : List ℕ) → IsBearerOf told done name (table name)

-- who has a name that the node at place p has too, behind those who had it before
abbrev pub one_more : Option Bearer → ℕ → Bearer
one_more None p = One p
one_more (Some bearer) p = Several
