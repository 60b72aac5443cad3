-- The line of a look, after which the hall is the same.
use Rattle.std.proofs.Common.{subst, ap}
use Rattle.std.proofs.Common.{Err}
use Rattle.ov_snap.specs.CoreState.{CoreState}
use Rattle.ov_scenario.specs.declared.scenario.Line.TheVariants as line
use Rattle.ov_run.specs.Code.Outcomes.{LineCame}
use Rattle.ov_run.specs.declared.line_outcome.Came.TheVariants.{Alone}
use Rattle.ov_run.proofs.Printing.OneLine.{RanWith, ended_by, look_begun, look_came, ran_as}
use Rattle.ov_run.proofs.line_running.run_look_line.Goals as goal

pub write_look-requires : goal.write_look-requires
write_look-requires g c = record { faults = c.requires.faults }

pub returns : goal.returns
returns g c =
    let contents = g.W.Write.contents in
    let before = c.args.sink.now in
    let after = c.write_look.new.sink in
    let look = c.args.look in
    let came = Alone c.in_ok-outcome.outcome in
    let own = c.in_ok-outcome.ensures in
    let here = subst (λ (b : CoreState). LineCame b (line.Look look) b (contents before.writer) (contents after.writer)
    came) c.core.ensures (look_came c.core.result.now look _ _ c.in_ok-outcome.outcome own.outcome) in
    record { ran = ran_as contents c.args.hall (line.Look look) before after came c.args.hall here own.faults }

pub returns-in_err-outcome : goal.returns-in_err-outcome
returns-in_err-outcome g c =
    let contents = g.W.Write.contents in
    let before = c.args.sink.now in
    let after = c.write_look.new.sink in
    let look = c.args.look in
    let own = c.in_err-outcome.ensures in
    let ended = ended_by contents c.core.result.now (line.Look look) before after c.from_residual.result
    c.in_err-outcome.field-0.0 c.from_residual.ensures.1 (look_begun c.core.result.now look _ _ own.begun)
    (λ is. own.memory (ap Err is)) own.faults own.kind in
    record {
      ran = subst (λ (b : CoreState). RanWith contents b (line.Look look) before after c.from_residual.result)
          c.core.ensures ended;
    }
