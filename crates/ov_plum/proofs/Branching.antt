-- What each change of the neighbours keeps.
use Rattle.std.proofs.Common.{◌≡◌, ℕ, ◌<◌, ◌+◌, true, false, cond, length, inl, inr, refl, arith}
use Rattle.ov_ids.specs.Sets.{IsIn, has, adding, without}
use Rattle.ov_ids.proofs.Sets.{IsSet-adding, IsSet-without, IsIn-adding, IsIn-without, length-adding, length-without}
use Rattle.ov_ids.proofs.Sets.{length-without_less}
use Rattle.ov_plum.specs.PlumState.{BranchesState, AreBranches, up, down, makes_eager, makes_lazy}

-- the two sets may change places
pub turned : (b : BranchesState) → AreBranches b → AreBranches (record { eager = b.lazy; lazy = b.eager })
turned b a = record {
  eager_set = a.lazy_set;
  lazy_set = a.eager_set;
  apart = λ x h k. a.apart x k h;
  few =
      omega (arith, a.few);
}

pub down_keeps : (b : BranchesState) (x : ℕ) → AreBranches b → AreBranches (down x b)
down_keeps b x a = record {
  eager_set = IsSet-without x b.eager a.eager_set;
  lazy_set = IsSet-without x b.lazy a.lazy_set;
  apart = λ z h k. a.apart z (IsIn-without x b.eager z h).1 (IsIn-without x b.lazy z k).1;
  few = omega (arith, length-without x b.eager, length-without x b.lazy, a.few);
}

pub up_keeps : (b : BranchesState) (x : ℕ) → AreBranches b → length b.eager + length (without x b.lazy) < 64
    → AreBranches (up x b)
up_keeps b x a room = record {
  eager_set = IsSet-adding x b.eager a.eager_set;
  lazy_set = IsSet-without x b.lazy a.lazy_set;
  apart = λ z h k.
      let old = IsIn-without x b.lazy z k in
      elim (IsIn-adding x b.eager z h) [ inl e ↦ old.0 e | inr m ↦ a.apart z m old.1 ];
  few = omega (arith, length-adding x b.eager, room);
}

-- with a place free
pub comes_up : (b : BranchesState) (x : ℕ) → AreBranches b → length b.eager + length b.lazy < 64 → AreBranches (up x b)
comes_up b x a room = up_keeps b x a (omega (arith, length-without x b.lazy, room))

-- from the lazy
pub turns_eager : (b : BranchesState) (x : ℕ) → AreBranches b → IsIn b.lazy x → AreBranches (up x b)
turns_eager b x a h = up_keeps b x a (omega (arith, length-without_less x b.lazy h, a.few))

-- from the eager
pub turns_lazy : (b : BranchesState) (x : ℕ) → AreBranches b → IsIn b.eager x
    → AreBranches (record { eager = without x b.eager; lazy = adding x b.lazy })
turns_lazy b x a h = turned _ (turns_eager (record { eager = b.lazy; lazy = b.eager }) x (turned b a) h)

-- s becomes eager, or lazy, if it is a neighbour
pub made_eager : (s : ℕ) (b : BranchesState) → AreBranches b → AreBranches (makes_eager s b)
made_eager s b a = elim (has b.lazy s) as
    (λ h. has b.lazy s ≡ h → AreBranches (cond h (up s b) b)) [ true ↦ λ e. turns_eager b s a e | false ↦ λ e. a ] refl

pub made_lazy : (s : ℕ) (b : BranchesState) → AreBranches b → AreBranches (makes_lazy s b)
made_lazy s b a = elim (has b.eager s) as
    (λ h. has b.eager s ≡ h → AreBranches (cond h (record { eager = without s b.eager; lazy = adding s b.lazy }) b))
    [ true ↦ λ e. turns_lazy b s a e | false ↦ λ e. a ] refl
