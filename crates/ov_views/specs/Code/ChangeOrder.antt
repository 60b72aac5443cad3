-- The changes of an active view in one operation.
use Rattle.std.specs.Prelude.{ℕ, List, [], ◌∷◌, Option, Some, None}
use Rattle.ov_views.specs.declared.change.ViewChange.{ViewChange}
use Rattle.ov_views.specs.declared.change.ViewChange.TheVariants.{Up, Down}

-- the node that goes down, if there is one, and then the node that comes up, if there is one
abbrev pub in_order : Option ℕ → Option ℕ → List ViewChange
in_order None None = []
in_order None (Some x) = Up x ∷ []
in_order (Some d) None = Down d ∷ []
in_order (Some d) (Some x) = Down d ∷ Up x ∷ []
