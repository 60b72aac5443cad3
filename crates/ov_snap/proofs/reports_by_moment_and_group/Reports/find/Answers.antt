use Rattle.ov_snap.proofs.Indexing.{found_there, not_there}
use Rattle.ov_snap.proofs.reports_by_moment_and_group.Reports.find.Goals as goal

pub returns-in-Ok-clause-some : goal.returns-in-Ok-clause-some
returns-in-Ok-clause-some c =
    found_there c.deref.result.now c.self.inside.filed.items c.args.self.now c.in-Ok.place c.index.result.now
    (c.args.moment, c.args.group.now) c.deref.ensures.value c.self.view_is c.in-Ok.ensures.found c.index.ensures

pub returns-in-Err-clause-none : goal.returns-in-Err-clause-none
returns-in-Err-clause-none c =
    not_there c.deref.result.now c.self.inside.filed.items c.args.self.now c.deref-2.result.now
    c.self.inside.places.items
    (c.args.moment, c.args.group.now) c.in-Err.field-0 c.deref.ensures.value c.self.view_is c.deref-2.ensures.value
    c.self.invariant c.in-Err.ensures.gap
