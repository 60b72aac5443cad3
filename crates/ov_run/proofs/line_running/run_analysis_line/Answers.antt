-- The line of an analysis, with the hall after it.
use Rattle.std.proofs.Common.{◌≡◌, arith}
use Rattle.ov_scenario.specs.declared.scenario.Line.TheVariants as line
use Rattle.ov_run_meaning.specs.Accepting.{FilesReport, RefusesAnalysis}
use Rattle.ov_run.specs.declared.line_outcome.Came.TheVariants.{Alone}
use Rattle.ov_run_meaning.specs.declared.strictness.Strictness.TheVariants.{Strict}
use Rattle.ov_run_meaning.proofs.Writing.Outcomes.{kept_outcome}
use Rattle.ov_run_meaning.proofs.Writing.Prefixes.{kept_prefix}
use Rattle.ov_run.proofs.Printing.Ending.{whole}
use Rattle.ov_run.proofs.Printing.OneLine.{at_a_write, not_handed_on, ran_as}
use Rattle.ov_run.proofs.line_running.run_analysis_line.Goals as goal

pub flush-requires : goal.flush-requires
flush-requires g c = c.requires.faults

pub returns-in_err-flush : goal.returns-in_err-flush
returns-in_err-flush g c =
    record {
      ran = not_handed_on g.W.Write.contents c.args.hall (line.Analyse c.args.subject.now c.args.workers)
          c.args.sink.now c.flush.new.self c.from_residual.result c.from_residual.ensures.1 c.flush.ensures.bytes
          c.in_err-flush.ensures.faults;
    }

pub run_analysis-requires-clause-faults : goal.run_analysis-requires-clause-faults
run_analysis-requires-clause-faults g c κs within =
    let few = c.requires.faults in let none = c.in_ok-flush.ensures.faults in omega (arith, few, none)

pub returns-in_err-outcome : goal.returns-in_err-outcome
returns-in_err-outcome g c =
    let contents = g.W.Write.contents in
    let asked = line.Analyse c.args.subject.now c.args.workers in
    let failed = c.from_residual-in_err-outcome in
    let own = c.in_err-outcome.ensures in
    let none = c.in_ok-flush.ensures.faults in
    let counted = own.faults in
    record {
      ran = at_a_write contents c.args.hall asked c.args.sink.now c.run_analysis.new.sink failed.result
          failed.ensures.1 (
            own.begun.0,
            whole Strict c.args.hall asked c.run_analysis.new.hall own.begun.0 own.begun.1,
            kept_prefix _ _ _ own.begun.0 c.flush.ensures.bytes own.begun.2,
          ) (omega (arith, none, counted));
    }

pub returns : goal.returns
returns g c =
    let contents = g.W.Write.contents in
    let subject = c.args.subject.now in
    let u = c.run_analysis.new.hall in
    let own = c.in_ok-outcome.ensures in
    let none = c.in_ok-flush.ensures.faults in
    let counted = own.faults in
    let is = kept_outcome (FilesReport c.args.hall subject u)
    (λ refusal. RefusesAnalysis c.args.hall subject refusal × (u ≡ c.args.hall)) _ _ _ c.in_ok-outcome.outcome
    c.flush.ensures.bytes own.outcome in
    record {
      ran = ran_as contents c.args.hall (line.Analyse subject c.args.workers) c.args.sink.now c.run_analysis.new.sink
          (Alone c.in_ok-outcome.outcome) u is (omega (arith, none, counted));
    }
