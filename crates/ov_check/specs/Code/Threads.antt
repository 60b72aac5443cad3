-- What one of many threads returns.
use Rattle.std.specs.Prelude.{Bool, true, false}

-- the result of one thread for one item: true if it does not hold, false if it does
abbrev pub Misses : {X : Type 0} → (X → Type 0) → X → Bool → Type 0
Misses Holds x true = ¬ Holds x
Misses Holds x false = Holds x
