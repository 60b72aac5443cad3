-- so many lines of the sections so far, and those of the sections that are left
use Rattle.std.proofs.Common.{◌≡◌, ◌≤◌, ◌+◌, ◌*◌, drop}
use Rattle.ov_run.specs.Code.Jobs.{joined}
use Rattle.ov_run_meaning.specs.Sections.{accepted_in, refused_in}
use Rattle.ov_run.proofs.sections_at_once.counted.Given as goal

abbrev pub invariant-loop-own : goal.invariant-loop-own
invariant-loop-own l = record {
  accepted : l.accepted + accepted_in (joined (drop l.own-index l.told)) ≡ accepted_in (joined l.told);
  refused : l.refused + refused_in (joined (drop l.own-index l.told)) ≡ refused_in (joined l.told);
  few_accepted : l.accepted ≤ 18446744073709551616 * l.own-index;
  few_refused : l.refused ≤ 18446744073709551616 * l.own-index;
}
