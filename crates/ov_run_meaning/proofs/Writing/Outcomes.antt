-- What was written of a line that was accepted, and of one that was refused.
use Rattle.std.proofs.Common.{◌≡◌, List, [], ℕ, Option, Result, Ok, Err, IfOk, OnOk, OnErr, sym, subst}
use Rattle.std.specs.Io.KnownBytes.{Appends, Keeps}
use Rattle.ov_io.specs.Device.{AppendsPrefixOf}
use Rattle.ov_run_meaning.specs.Writing.{Writes, WritesOutcome, WritesPrefix}
use Rattle.ov_run_meaning.specs.declared.line_run_outcome.LineOutcome.{LineOutcome}
use Rattle.ov_run_meaning.specs.declared.line_run_outcome.LineOutcome.TheVariants.{Accepted, Refused}
use Rattle.ov_run_meaning.specs.declared.refusal.Refusal.{Refusal}
use Rattle.ov_run_meaning.proofs.Writing.Prefixes.{kept_appended, wrote}

module _ {E : Type 0} (IsDone : List ℕ → Type 0) (IsRefused : Refusal → Type 0) (a b : Option (List ℕ)) where
  -- a text of a line that was accepted was written, whatever kind of text it is
  pub accepted : (result : Result LineOutcome E) → IfOk result (λ outcome. outcome ≡ Accepted)
      → OnOk result (Writes IsDone a b) → IfOk result (WritesOutcome IsDone IsRefused a b)
  accepted (Ok outcome) is writes = subst (WritesOutcome IsDone IsRefused a b) (sym is) writes
  accepted (Err e) is writes = tt

  -- this text of a line that was accepted was written
  pub done : (text : List ℕ) (result : Result LineOutcome E) → IsDone text → IfOk result (λ outcome. outcome ≡ Accepted)
      → OnOk result (Appends a b text) → IfOk result (WritesOutcome IsDone IsRefused a b)
  done text result said is appends = accepted result is (wrote IsDone a b text result said appends)

-- a prefix of this text went if a call failed
pub begun :
    {T E : Type 0} (IsDone : List ℕ → Type 0) (a b : Option (List ℕ)) (text : List ℕ) (result : Result T E)
    → IsDone text → AppendsPrefixOf text a b → OnErr result (WritesPrefix IsDone a b)
begun IsDone a b text (Ok outcome) said went = tt
begun IsDone a b text (Err e) said went = (text, said, went)

-- if a call failed, this went
pub begun_so :
    {T E : Type 0} (IsDone : List ℕ → Type 0) (a b : Option (List ℕ)) (result : Result T E) → WritesPrefix IsDone a b
    → OnErr result (WritesPrefix IsDone a b)
begun_so IsDone a b (Ok outcome) went = tt
begun_so IsDone a b (Err e) went = went

-- what begins a text of one kind begins one of another
pub begun_as :
    {T E : Type 0} (IsDone IsText : List ℕ → Type 0) (a b : Option (List ℕ)) (result : Result T E)
    → ((text : List ℕ) → IsDone text → IsText text) → OnErr result (WritesPrefix IsDone a b)
    → OnErr result (WritesPrefix IsText a b)
begun_as IsDone IsText a b (Ok outcome) same went = tt
begun_as IsDone IsText a b (Err e) same (text, said, went) = (text, same text said, went)

-- what was written of an outcome goes behind what was held before
pub kept_outcome :
    (IsDone : List ℕ → Type 0) (IsRefused : Refusal → Type 0) (a b c : Option (List ℕ)) (outcome : LineOutcome)
    → Keeps a b → WritesOutcome IsDone IsRefused b c outcome → WritesOutcome IsDone IsRefused a c outcome
kept_outcome IsDone IsRefused a b c Accepted kept (text, is, went) = (text, is, kept_appended a b c text kept went)
kept_outcome IsDone IsRefused a b c (Refused refusal) kept (is, went) = (is, kept_appended a b c [] kept went)
