-- The row of what was grown.
use Rattle.std.proofs.Common.{ℕ, List, refl, sym, subst}
use Rattle.ov_grow.specs.MessageCosts.{AreCosts}
use Rattle.ov_sweep.specs.Rows.{IsToldOf}
use Rattle.ov_grow.specs.declared.message_cost.MessageCost.{MessageCost}
use Rattle.ov_sweep.proofs.sweep_row_making.row_told.Goals as goal

pub returns : goal.returns
returns c =
    let grown = c.args.logged.now.grown in
    let is = c.requires.grows in
    let b = c.get-broadcasts.ensures.value in
    let m = c.args.measures in
    record {
      options = refl;
      three = refl;
      text = grown.script.text;
      core = grown.core;
      settled = grown.settled;
      crashed = grown.crashed;
      healed = grown.healed;
      grows = is.grows;
      replays = c.requires.replays;
      settle = (
        c.in_ok-settle.settle,
        refl,
        subst (λ (n : ℕ). IsToldOf m is.grows.t grown.core grown.settled n c.in_ok-settle.settle) b
            (c.in_ok-settle.ensures is.grows.t
            (subst (λ (cs : List MessageCost). AreCosts is.grows.t cs) (sym c.deref.ensures.value) is.settle)),
      );
      crash = (
        c.in_ok-crash.crash,
        refl,
        subst (λ (n : ℕ). IsToldOf m is.grows.v grown.core grown.crashed n c.in_ok-crash.crash) b
            (c.in_ok-crash.ensures is.grows.v
            (subst (λ (cs : List MessageCost). AreCosts is.grows.v cs) (sym c.deref-2.ensures.value) is.crash)),
      );
      heal = (
        c.in_ok-heal.heal,
        refl,
        subst (λ (n : ℕ). IsToldOf m is.grows.u grown.core grown.healed n c.in_ok-heal.heal) b
            (c.in_ok-heal.ensures is.grows.u
            (subst (λ (cs : List MessageCost). AreCosts is.grows.u cs) (sym c.deref-3.ensures.value) is.heal)),
      );
    }
