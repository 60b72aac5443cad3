-- What is held is a fan, whatever the result.
use Rattle.ov_flow.specs.Code.Walked.{table_of}
use Rattle.ov_flow.proofs.Ending.{fan_held}
use Rattle.ov_flow.proofs.flow.Flow.augment.Goals as goal

pub returns-then-augment-clause-fans : goal.returns-then-augment-clause-fans
returns-then-augment-clause-fans g c =
    let i = c.self.invariant in
    let w = c.augment.new.work in
    fan_held c.self.inside.net i.0 i.1.placed (table_of w.from) w.ends.items c.augment.ensures.work.flow

pub returns-clause-fans : goal.returns-clause-fans
returns-clause-fans g c =
    let i = c.self.invariant in
    let w = c.augment.new.work in
    fan_held c.self.inside.net i.0 i.1.placed (table_of w.from) w.ends.items c.augment.ensures.work.flow
