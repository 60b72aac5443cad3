use Rattle.std.proofs.Common.{true, refl, inl, inr}
use Rattle.ov_grow.specs.Growing.{IsGrowRefusalFrom, begins}
use Rattle.ov_grow.specs.declared.fault.GrowFault.TheVariants.{OutOfMemory}
use Rattle.ov_grow.proofs.Going.{passes_on}
use Rattle.ov_sweep.proofs.message_row_making.message_rows_of.Goals as goal

pub returns-in_err-logged-clause-refused : goal.returns-in_err-logged-clause-refused
returns-in_err-logged-clause-refused c =
    passes_on (IsGrowRefusalFrom (begins true c.args.options.now) c.args.options.now) c.from_residual.result
    c.in_err-logged.field-0.0 c.from_residual.ensures.1 c.in_err-logged.ensures.refused

pub returns-in_err-rows_of-clause-refused : goal.returns-in_err-rows_of-clause-refused
returns-in_err-rows_of-clause-refused c =
    passes_on (IsGrowRefusalFrom (begins true c.args.options.now) c.args.options.now)
    c.from_residual-in_err-rows_of.result OutOfMemory c.from_residual-in_err-rows_of.ensures.1
    (record { full = inr (inr refl); reason = inl refl })

pub returns-clause-rows : goal.returns-clause-rows
returns-clause-rows c =
    let logged = c.in_ok-logged.logged in
    let is = c.in_ok-logged.ensures.grows in
    record {
      text = logged.grown.script.text;
      core = logged.grown.core;
      settled = logged.grown.settled;
      crashed = logged.grown.crashed;
      healed = logged.grown.healed;
      grows = is.grows;
      replays = c.in_ok-logged.ensures.replays;
      settle_costs = logged.settle_costs.items;
      crash_costs = logged.crash_costs.items;
      heal_costs = logged.heal_costs.items;
      settle = is.settle;
      crash = is.crash;
      heal = is.heal;
      whole = c.in_ok-rows_of.ensures;
    }
