-- What a node sends in one step.
use Rattle.std.specs.Prelude.{◌≡◌, ℕ, List, [], ◌∷◌}
use Rattle.ov_wire.specs.declared.Message.{Message}
use Rattle.ov_wire.specs.declared.Body.TheVariants.{Disconnect}
pub use Rattle.ov_wire.specs.Messages.{say}
use Rattle.ov_words.specs.Pick.{Choice}
use Rattle.ov_views.specs.ViewsState.{ViewsState}
use Rattle.ov_views.specs.Changes.{Keeps}
use Rattle.ov_views.specs.declared.change.ViewChange.{ViewChange}
use Rattle.ov_views.specs.declared.change.ViewChange.TheVariants.{Up, Down}

-- DISCONNECT to each node that goes down, as HyParView has it (Leitão, Pereira, Rodrigues, DSN 2007, Algorithm 1)
abbrev pub farewells : ℕ → List ViewChange → List (ℕ × Message)
farewells me [] = []
farewells me (Up x ∷ changes) = farewells me changes
farewells me (Down x ∷ changes) = (x, say me Disconnect) ∷ farewells me changes

-- the node chooses nothing, changes nothing and sends nothing
abbrev pub Idles : ViewsState → List Choice → ViewsState → List ViewChange → List (ℕ × Message) → Type 0
Idles v choices w changes sends = Keeps v choices w × (changes ≡ []) × (sends ≡ [])
