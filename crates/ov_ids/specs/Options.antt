-- Chains of optional values.
use Rattle.std.specs.Prelude.{Option, option_and_then}

infixl 10 ◌>>=◌
-- f of the value, or None if there is none. It is the kit's `option_and_then` with its arguments swapped, so that a
-- chain reads from left to right.
abbrev pub ◌>>=◌ : {X Y : Type 0} → Option X → (X → Option Y) → Option Y
x >>= f = option_and_then f x
