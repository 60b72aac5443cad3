use Rattle.std.proofs.Common.{ap, inl, refl, subst}
use Rattle.ov_grow.specs.Growing.{IsGrowRefusalFrom, begins}
use Rattle.ov_grow.specs.Phases.{Join}
use Rattle.ov_grow.specs.Code.Standing.{growth_of}
use Rattle.ov_grow.specs.declared.fault.GrowFault.TheVariants.{OutOfMemory}
use Rattle.ov_grow.proofs.Analysing.{answered_kept, reported}
use Rattle.ov_grow.proofs.Going.{passes_on}
use Rattle.ov_grow.proofs.NoGrowth.{no_way_crashing, no_way_healing, no_way_join, no_way_settling}
use Rattle.std.proofs.Common.{inr}
use Rattle.ov_grow.proofs.Crashing.{join_lives, join_made}
use Rattle.ov_grow.proofs.growing_with_broadcast_log.grow_logged.Goals as goal

pub returns-in_err-growing-clause-refused : goal.returns-in_err-growing-clause-refused
returns-in_err-growing-clause-refused c = passes_on (IsGrowRefusalFrom (begins c.args.logged c.args.options.now)
    c.args.options.now) c.from_residual.result
    OutOfMemory c.from_residual.ensures.1 (record { full = inr (inr refl); reason = inl refl })

pub returns-in_err-join-clause-refused : goal.returns-in_err-join-clause-refused
returns-in_err-join-clause-refused c =
    let fault = c.in_err-join.field-0.0 in
    passes_on (IsGrowRefusalFrom (begins c.args.logged c.args.options.now) c.args.options.now)
    c.from_residual-in_err-join.result fault
    c.from_residual-in_err-join.ensures.1
    (record {
      full = c.in_err-join.ensures.full;
      reason = no_way_join (begins c.args.logged c.args.options.now) c.args.options.now c.in_ok-growing.growing fault
          c.in_ok-growing.ensures.begins
          c.in_err-join.ensures.refused;
    })

pub returns-in_err-settled-clause-refused : goal.returns-in_err-settled-clause-refused
returns-in_err-settled-clause-refused c =
    let fault = c.in_err-settled.field-0.0 in
    passes_on (IsGrowRefusalFrom (begins c.args.logged c.args.options.now) c.args.options.now)
    c.from_residual-in_err-settled.result fault
    c.from_residual-in_err-settled.ensures.1
    (record {
      full = c.in_err-settled.ensures.full;
      reason = no_way_settling (begins c.args.logged c.args.options.now) c.args.options.now c.in_ok-growing.growing
          c.join.new.self fault
          c.in_ok-growing.ensures.begins
          c.in_ok-join.ensures.goes c.in_err-settled.ensures.refused;
    })

pub returns-in_err-crashed-clause-refused : goal.returns-in_err-crashed-clause-refused
returns-in_err-crashed-clause-refused c =
    let fault = c.in_err-crashed.field-0.0 in
    passes_on (IsGrowRefusalFrom (begins c.args.logged c.args.options.now) c.args.options.now)
    c.from_residual-in_err-crashed.result fault
    c.from_residual-in_err-crashed.ensures.1
    (record {
      full = c.in_err-crashed.ensures.full;
      reason = no_way_crashing (begins c.args.logged c.args.options.now) c.args.options.now c.in_ok-growing.growing
          c.join.new.self c.settle.new.self
          c.in_ok-settled.settled fault c.in_ok-growing.ensures.begins c.in_ok-join.ensures.goes
          c.in_ok-settled.ensures.goes c.in_err-crashed.ensures.refused;
    })

pub returns-in_err-healed-clause-refused : goal.returns-in_err-healed-clause-refused
returns-in_err-healed-clause-refused c =
    let fault = c.in_err-healed.field-0.0 in
    passes_on (IsGrowRefusalFrom (begins c.args.logged c.args.options.now) c.args.options.now)
    c.from_residual-in_err-healed.result fault
    c.from_residual-in_err-healed.ensures.1
    (record {
      full = c.in_err-healed.ensures.full;
      reason = no_way_healing (begins c.args.logged c.args.options.now) c.args.options.now c.in_ok-growing.growing
          c.join.new.self c.settle.new.self
          c.crash.new.self
          c.in_ok-settled.settled c.in_ok-crashed.crashed fault c.in_ok-growing.ensures.begins c.in_ok-join.ensures.goes
          c.in_ok-settled.ensures.goes c.in_ok-crashed.ensures.goes c.in_err-healed.ensures.refused;
    })

pub returns-in_err-settle_costs-clause-refused : goal.returns-in_err-settle_costs-clause-refused
returns-in_err-settle_costs-clause-refused c =
    passes_on (IsGrowRefusalFrom (begins c.args.logged c.args.options.now) c.args.options.now)
    c.from_residual-in_err-settle_costs.result OutOfMemory c.from_residual-in_err-settle_costs.ensures.1
    (record { full = inr (inr refl); reason = inl refl })

pub returns-in_err-crash_costs-clause-refused : goal.returns-in_err-crash_costs-clause-refused
returns-in_err-crash_costs-clause-refused c =
    passes_on (IsGrowRefusalFrom (begins c.args.logged c.args.options.now) c.args.options.now)
    c.from_residual-in_err-crash_costs.result OutOfMemory c.from_residual-in_err-crash_costs.ensures.1
    (record { full = inr (inr refl); reason = inl refl })

pub returns-in_err-heal_costs-clause-refused : goal.returns-in_err-heal_costs-clause-refused
returns-in_err-heal_costs-clause-refused c =
    passes_on (IsGrowRefusalFrom (begins c.args.logged c.args.options.now) c.args.options.now)
    c.from_residual-in_err-heal_costs.result OutOfMemory c.from_residual-in_err-heal_costs.ensures.1
    (record { full = inr (inr refl); reason = inl refl })

pub returns-clause-grows : goal.returns-clause-grows
returns-clause-grows c = record {
  grows = record {
    s = growth_of c.join.new.self;
    t = growth_of c.settle.new.self;
    v = growth_of c.crash.new.self;
    u = growth_of c.heal.new.self;
    join = subst (λ g. Join c.args.options.now g (growth_of c.join.new.self)) c.in_ok-growing.ensures.begins
        c.in_ok-join.ensures.goes.way;
    settle = c.in_ok-settled.ensures.goes.way;
    crash = c.in_ok-crashed.ensures.goes.way;
    heal = c.in_ok-healed.ensures.goes.way;
    text_is = c.finish-script.ensures.text;
    world_is = ap (λ x. x.world) c.finish-script.ensures.core;
  };
  settle = c.in_ok-settle_costs.ensures;
  crash = c.in_ok-crash_costs.ensures;
  heal = c.in_ok-heal_costs.ensures;
}

pub returns-clause-settled : goal.returns-clause-settled
returns-clause-settled c =
    reported c.heal.new.self.recording.core _ c.in_ok-settled.settled.moment c.finish-script.ensures.core
    (answered_kept c.crash.new.self.recording.core c.heal.new.self.recording.core _ c.in_ok-healed.ensures.goes.kept
    (answered_kept c.settle.new.self.recording.core c.crash.new.self.recording.core _ c.in_ok-crashed.ensures.goes.kept
    c.in_ok-settled.ensures.answered))

pub returns-clause-crashed : goal.returns-clause-crashed
returns-clause-crashed c =
    reported c.heal.new.self.recording.core _ c.in_ok-crashed.crashed.moment c.finish-script.ensures.core
    (answered_kept c.crash.new.self.recording.core c.heal.new.self.recording.core _ c.in_ok-healed.ensures.goes.kept
    c.in_ok-crashed.ensures.answered)

pub settle-requires-clause-live : goal.settle-requires-clause-live
settle-requires-clause-live c = join_lives c.args.options.now (growth_of c.in_ok-growing.growing)
    (growth_of c.join.new.self) c.in_ok-join.ensures.goes.way

pub settle-requires-clause-made : goal.settle-requires-clause-made
settle-requires-clause-made c = join_made c.args.options.now (growth_of c.in_ok-growing.growing)
    (growth_of c.join.new.self) c.in_ok-join.ensures.goes.way c.in_ok-growing.ensures.unborn
