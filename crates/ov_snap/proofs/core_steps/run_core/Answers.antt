use Rattle.std.proofs.Common.{◌++◌, ◌∷◌, [], ◌∙◌, sym, ap, append_assoc}
use Rattle.ov_snap.specs.CoreState.{opening_core}
use Rattle.ov_snap.proofs.Running.{every_report_is_true, on_err, run_more}
use Rattle.ov_snap.proofs.core_steps.run_core.Goals as goal

pub loop-step-preserved : goal.loop-step-preserved
loop-step-preserved c = record {
  all = append_assoc c.loop-step.yielded (c.in-Some.step ∷ []) c.next.new.self.rest.items
      ∙ ap (λ l. c.loop-step.yielded ++ l) (sym c.in-Some.ensures.steps.0) ∙ c.loop-step.invariant.all;
  run = run_more (opening_core c.args.params) c.loop-step.yielded c.loop-step.core c.in-Some.step c.take.new.core
      c.loop-step.invariant.run c.in_ok-take.ensures.took;
}

pub returns-clause-is_true : goal.returns-clause-is_true
returns-clause-is_true c =
    every_report_is_true c.args.params c.loop-step.yielded c.loop-step.core c.loop-step.invariant.run

pub returns-in_err-take-clause-ended : goal.returns-in_err-take-clause-ended
returns-in_err-take-clause-ended c = on_err c.from_residual.result _ (record {
  done = c.loop-step.yielded;
  step = c.in-Some.step;
  rest = c.next.new.self.rest.items;
  parted = sym (ap (λ l. c.loop-step.yielded ++ l) (sym c.in-Some.ensures.steps.0) ∙ c.loop-step.invariant.all);
  core = c.loop-step.core;
  run = c.loop-step.invariant.run;
  out = c.in_err-take.ensures.ended;
})
