-- Whether runs show that an overlay is split less often than in so many of 100 runs, and how many runs that takes.
use Rattle.std.specs.Prelude.{◌≡◌, ℕ, ◌+◌, ◌-◌, ◌*◌, ◌<◌, ◌≤◌, List, Some, slice_get}
use Rattle.ov_sweep_summary.specs.declared.split_bound.SplitRuns.{SplitRuns}
use Rattle.ov_sweep_summary.specs.declared.split_bound.Verdict.{Verdict}
use Rattle.ov_sweep_summary.specs.declared.split_bound.Verdict.TheVariants.{Below, Open, Above}

-- the square of 1.959963984540054, which is how many standard deviations to each side hold 95 % of a normal
-- distribution: 3.841458820694, in parts of 10 to the power of 12
abbrev pub square_of_deviations : ℕ
square_of_deviations = 3841458820694

-- 1, in these parts
abbrev pub parts_of_one : ℕ
parts_of_one = 1000000000000

-- how far 100 times the split runs are from so many percent of 100 times all runs
abbrev pub gap : SplitRuns → ℕ → ℕ
gap r percent = (100 * r.split - percent * r.runs) + (percent * r.runs - 100 * r.split)

-- So many percent lie outside of Wilson's interval of the share of the split runs, if that share was seen in `number`
-- runs. The ends of the interval for a share x of n runs are the two u with (x - u)² = z² u (1 - u) / n, where z² is
-- the square of the deviations; so u lies outside if (x - u)² is larger. Both sides are taken n times the square of
-- 100 times the runs, so that they are whole numbers.
abbrev pub LiesOutside : SplitRuns → ℕ → ℕ → Type 0
LiesOutside r percent number =
    square_of_deviations * (r.runs * r.runs * (percent * (100 - percent)))
    < number * (parts_of_one * (gap r percent * gap r percent))

-- the interval of these runs lies below so many percent: they lie outside of it, and the share is below them
abbrev pub LiesBelow : SplitRuns → ℕ → Type 0
LiesBelow r percent = (100 * r.split < percent * r.runs) × LiesOutside r percent r.runs

-- what these runs say: their interval lies below so many percent, or has them in it, or lies above them
abbrev pub Says : SplitRuns → ℕ → Verdict → Type 0
Says r percent Below = LiesBelow r percent
Says r percent Open = LiesOutside r percent r.runs → ⊥
Says r percent Above = (percent * r.runs ≤ 100 * r.split) × LiesOutside r percent r.runs

-- as many runs, of which so many were split
abbrev pub split_runs : ℕ → ℕ → SplitRuns
split_runs split runs = record { split = split; runs = runs }

-- the fewest number that is so
pub record IsFewest (IsSo : ℕ → Type 0) (number : ℕ) : Type 0 where
  pub is_so : IsSo number
  pub none_fewer : (n : ℕ) → n < number → IsSo n → ⊥

-- of the first so many settings in an order none has an interval that lies below so many percent
abbrev pub NoneBelow : ℕ → List SplitRuns → ℕ → Type 0
NoneBelow percent settings number =
    (i : ℕ) → (r : SplitRuns) → i < number → slice_get settings i ≡ Some r → LiesBelow r percent → ⊥

-- the setting at a place is the first whose interval lies below so many percent
pub record IsFirstBelow (percent : ℕ) (settings : List SplitRuns) (place : ℕ) : Type 0 where
  pub first : SplitRuns
  pub stands : slice_get settings place ≡ Some first
  pub below : LiesBelow first percent
  pub none_before : NoneBelow percent settings place
