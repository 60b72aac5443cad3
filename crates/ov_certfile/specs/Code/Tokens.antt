-- What is taken off the tokens of a text.
use Rattle.std.specs.Prelude.{◌≡◌, ◌++◌, ℕ, List, [], ◌∷◌, Some}
use Rattle.json.specs.Token.{Token}
use Rattle.json.specs.Tree.{json_tokens, members_tokens}
use Rattle.serde_json.specs.Data.{Data, Members}
use Rattle.serde_json.specs.Written.{outline, members_outline}
use Rattle.ov_certfile.specs.Forms.{ids_in}
use Rattle.ov_certfile.specs.DataOf.{ids_data}

-- the tokens with which a value is written are taken off
abbrev pub TakesValue : Data → List Token → List Token → Type 0
TakesValue d old new = old ≡ json_tokens (outline d) ++ new

-- Members are taken off. `add` puts them before other members: if the tokens of other members are left, the tokens of
-- all of them were there.
pub record TakesMembers (add : Members → Members) (old new : List Token) : Type 0 where
  pub followed : (ms : Members) (rest : List Token) → new ≡ members_tokens (members_outline ms) ++ rest
      → old ≡ members_tokens (members_outline (add ms)) ++ rest

-- a path is taken off, and appended to others; it reads back
pub record TakesPath (before after : List (List ℕ)) (old new : List Token) : Type 0 where
  pub ids : List ℕ
  pub pushed : after ≡ before ++ ids ∷ []
  pub taken : TakesValue (ids_data ids) old new
  pub back : ids_in (ids_data ids) ≡ Some ids
