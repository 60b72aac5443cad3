-- What became of a line of each kind is what its own function says.
use Rattle.std.proofs.Common.{◌∙◌, ap, sym, subst}
use Rattle.ov_scenario.specs.declared.scenario.Line.{Line}
use Rattle.ov_scenario.specs.declared.scenario.Line.TheVariants.{Event}
use Rattle.ov_run.proofs.Printing.OneLine.{RanWith}
use Rattle.ov_run.proofs.line_running.run_line.Goals as goal

pub returns-in-Event : goal.returns-in-Event
returns-in-Event g c =
    record {
      ran = subst (λ (l : Line). RanWith g.W.Write.contents c.args.hall l c.args.sink.now c.run_event_line.new.sink
          c.run_event_line.result) (ap (Event c.in-Event.event) c.write_to.ensures ∙ sym c.in-Event.is)
          c.run_event_line.ensures.ran;
    }

pub returns-in-Look : goal.returns-in-Look
returns-in-Look g c =
    record {
      ran = subst (λ (l : Line). RanWith g.W.Write.contents c.args.hall l c.args.sink.now c.run_look_line.new.sink
          c.run_look_line.result) (sym c.in-Look.is) c.run_look_line.ensures.ran;
    }

pub returns-in-Analyse : goal.returns-in-Analyse
returns-in-Analyse g c =
    record {
      ran = subst (λ (l : Line). RanWith g.W.Write.contents c.args.hall l c.args.sink.now
          c.run_analysis_line.new.sink c.run_analysis_line.result) (sym c.in-Analyse.is)
          c.run_analysis_line.ensures.ran;
    }

pub returns-in-Together : goal.returns-in-Together
returns-in-Together g c =
    record {
      ran = subst (λ (l : Line). RanWith g.W.Write.contents c.args.hall l c.args.sink.now c.run_block_line.new.sink
          c.run_block_line.result) (sym c.in-Together.is) c.run_block_line.ensures.ran;
    }
