-- the ids so far are the set, and what is left decides
use Rattle.std.proofs.Common.{◌≡◌, take, drop}
use Rattle.ov_cert.specs.Code.FrameFlaws.{set_flaw_after, set_flaw}
use Rattle.ov_cert.proofs.Validity.SetFlaws.{Risen}
use Rattle.ov_cert.proofs.node_set.node_set.Given as goal

abbrev pub invariant-loop-at : goal.invariant-loop-at
invariant-loop-at l = record {
  set : l.set ≡ record { graph = l.graph; members = take l.at l.ids };
  risen : Risen l.graph l.before (take l.at l.ids);
  left : set_flaw_after l.graph l.before l.at (drop l.at l.ids) ≡ set_flaw l.graph l.ids;
}
