-- What is held is a fan, whatever the result.
use Rattle.ov_flow.specs.Code.Walked.{table_of}
use Rattle.ov_flow.proofs.Ending.{fan_held}
use Rattle.ov_flow.proofs.flow.Flow.seek.Goals as goal

pub returns-then-settle-clause-fans : goal.returns-then-settle-clause-fans
returns-then-settle-clause-fans g c =
    let e = c.places.ensures in
    let w = c.settle.new.work in
    fan_held c.args.net e.net e.placed (table_of w.from) w.ends.items c.settle.ensures.work.flow

pub returns-clause-fans : goal.returns-clause-fans
returns-clause-fans g c =
    let e = c.places.ensures in
    let w = c.settle.new.work in
    fan_held c.args.net e.net e.placed (table_of w.from) w.ends.items c.settle.ensures.work.flow
