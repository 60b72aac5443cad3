use Rattle.std.proofs.Common.{◌-◌, length}
use Rattle.ov_snap.specs.Code.Kept.{core_of}
use Rattle.ov_snap.proofs.Keeping.{links_shared}
use Rattle.ov_snap.proofs.snapshot_core.Core.links_now.Goals as goal

pub returns-then-last-links_since : goal.returns-then-last-links_since
returns-then-last-links_since c =
    links_shared (core_of c.self.inside) c.args.self.now c.deref.result.now (length c.deref.result.now - 1)
    c.links_since.result c.in-Some.last.now c.share.result c.self.view_is c.self.invariant c.deref.ensures.value
    c.in-Some.ensures.value c.if-last-links_since.true c.links_since.ensures c.share.ensures
