use Rattle.std.proofs.Common.{◌-◌, ◌≤◌, length}
use Rattle.ov_flow.specs.Code.Held.{IsWorkOf}
use Rattle.ov_flow.proofs.augmenting_paths.settle.Given as goal

abbrev pub invariant-loop-work : goal.invariant-loop-work
invariant-loop-work g l = record {
  work : IsWorkOf l.net l.work;
  few : length l.work.ends.items ≤ l.level;
}

abbrev pub decreases-loop-work : goal.decreases-loop-work
decreases-loop-work g l = l.level - length l.work.ends.items
