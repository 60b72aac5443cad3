-- How contracts see a core: by the values of its parts.
use Rattle.ov_snap.specs.CoreState.{CoreState}
use Rattle.ov_snap.specs.declared.snapshot_core.Core.TheInside.{Inside}

-- the core that these fields hold
abbrev pub core_of : Inside → CoreState
core_of a = record { world = a.world; snapshots = a.snapshots.items; desks = a.desks.items; reports = a.reports }
