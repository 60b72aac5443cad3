-- The components so far, and the places that are left.
use Rattle.std.proofs.Common.{◌≡◌, []}
use Rattle.ov_components.proofs.Divided.{IsDivided}
use Rattle.ov_components.proofs.components_after_crash.components_by.Given as goal

abbrev pub invariant-loop-start : goal.invariant-loop-start
invariant-loop-start g l = record {
  divided : IsDivided l.graph l.fn.cut l.lists.paths l.left l.start;
  begun : l.lists.begun ≡ [];
}
