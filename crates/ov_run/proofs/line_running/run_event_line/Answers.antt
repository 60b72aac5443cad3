-- The line of an event, with the hall after it.
use Rattle.std.proofs.Common.{ap}
use Rattle.std.proofs.Common.{Err}
use Rattle.ov_scenario.specs.declared.scenario.Line.TheVariants as line
use Rattle.ov_run.specs.declared.line_outcome.Came.TheVariants.{Alone}
use Rattle.ov_run.proofs.Printing.OneLine.{event_ended, ran_as}
use Rattle.ov_run.proofs.line_running.run_event_line.Goals as goal

pub run_event-requires : goal.run_event-requires
run_event-requires g c = record { faults = c.requires.faults }

pub returns : goal.returns
returns g c =
    let own = c.in_ok-outcome.ensures in
    record {
      ran = ran_as g.W.Write.contents c.args.hall (line.Event c.args.event c.args.words.now) c.args.sink.now
          c.run_event.new.sink (Alone c.in_ok-outcome.outcome) c.run_event.new.hall own.outcome own.faults;
    }

pub returns-in_err-outcome : goal.returns-in_err-outcome
returns-in_err-outcome g c =
    let own = c.in_err-outcome.ensures in
    record {
      ran = event_ended g.W.Write.contents c.args.hall c.args.sink.now c.run_event.new.sink c.from_residual.result
          c.args.event c.args.words.now c.run_event.new.hall c.in_err-outcome.field-0.0 c.from_residual.ensures.1
          own.begun (λ is. own.happened (ap Err is)) (λ is. own.nothing (ap Err is)) own.faults own.kind;
    }
