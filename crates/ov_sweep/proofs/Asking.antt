-- What is asked for is told.
use Rattle.std.proofs.Common.{◌≡◌, Bool, true, false, Some, None, refl}
use Rattle.ov_sweep.specs.Rows.{IsAsked}

-- it is not asked for
pub not_asked : {X : Type 0} (IsRight : X → Type 0) (asked : Bool) → asked ≡ false → IsAsked asked IsRight None
not_asked IsRight true none = absurd cc
not_asked IsRight false none = refl

-- it is asked for, and told
pub asked : {X : Type 0} (IsRight : X → Type 0) (ask : Bool) (x : X) → ask ≡ true → IsRight x
    → IsAsked ask IsRight (Some x)
asked IsRight true x is right = right
asked IsRight false x is right = absurd cc
