-- Menger's theorem in its fan form, by paths that are found one after another.
use Rattle.std.proofs.Common.{◌≡◌, ℕ, zero, suc, ◌≤◌, inl, inr, List, [], ◌∷◌, length, None, refl, ap, subst, arith}
use Rattle.ov_split.specs.SplitNetState.{SplitNetState, IsSplitNet, IsFanOf, IsCutOf}
use Rattle.ov_split.specs.Theorems.{Menger}
use Rattle.ov_split.specs.Code.Residual.{Table, IsFlow}
use Rattle.ov_split.proofs.Augmenting.Lists.{set_of, set_ascends}
use Rattle.ov_split.proofs.Augmenting.Prune.{walk_augments, flow_is_fan}
use Rattle.ov_split.proofs.FanTheorem.Near.{boundary_is_nearest}
use Rattle.ov_split.proofs.FanTheorem.Sole.{cut_bounds_fan}
use Rattle.ov_split.proofs.Augmenting.Search.{walk_or_stuck, boundary_of}

-- paths to j targets
record Paths (n : SplitNetState) (j : ℕ) : Type 0 where
  from : Table
  ends : List ℕ
  flow : IsFlow n from ends
  count : length ends ≡ j

-- nothing is held
pub no_flow : (n : SplitNetState) → IsFlow n (λ v. None) []
no_flow n = record {
  held = record {
    root = refl;
    free = λ v u e. absurd cc;
    comes = λ v u e. absurd cc;
    once = λ v w u e. absurd cc;
    ends_used = λ e h. absurd h;
    ends_last = λ e v h. absurd h;
    distinct = tt;
  };
  tidy = λ v u. let e = u.1 in absurd cc;
  targets = λ e h. absurd h;
}

-- where no cut has fewer than k nodes there are paths to each number of targets up to k
paths_to : (n : SplitNetState) → IsSplitNet n → (k : ℕ) → ((s : List ℕ) → IsCutOf n s → k ≤ length s) → (j : ℕ)
    → j ≤ k → Paths n j
paths_to n net k cuts zero l = record { from = λ v. None; ends = []; flow = no_flow n; count = refl }
paths_to n net k cuts (suc j) l =
    let p = paths_to n net k cuts j (omega (arith, l)) in
    elim (walk_or_stuck n net p.from p.flow.held.free) [
      | inl w ↦
          let next = walk_augments n net p.from p.ends p.flow w.walk w.target w.leads w.once w.is_target in
          record { from = next.0; ends = w.target ∷ p.ends; flow = next.1; count = ap suc p.count }
      | inr r ↦
          let b = boundary_of n net r.0 in
          let s = set_of b.0 in
          let near = boundary_is_nearest n net p.from p.ends p.flow r.0 r.1 s b.1 (set_ascends b.0) in
          let many = cuts s near.nearest.least.cut in
          absurd (omega (arith, many, near.count, p.count, l))
    ]

pub menger : Menger
menger n net k = (
  (λ fan s cut. cut_bounds_fan n k fan.0 s fan.1 cut),
  (λ cuts.
      let p = paths_to n net k cuts k (omega arith) in
      let fan = flow_is_fan n net p.from p.ends p.flow in
      (fan.0, subst (λ (m : ℕ). IsFanOf n m fan.0) p.count fan.1)),
)
