-- The hall begins with a core in which nothing happened.
use Rattle.std.proofs.Common.{subst}
use Rattle.ov_snap.specs.CoreState.{CoreState}
use Rattle.ov_run.specs.Code.Outcomes.{RanLines}
use Rattle.ov_run.proofs.engine.run_in_hall.Goals as goal

pub returns : goal.returns
returns g c = record {
  ran = subst (λ (b : CoreState). RanLines c.args.strictness g.W.Write.contents b c.args.lines.items
      c.args.lines.file_lines c.args.sink.now c.run_lines.new.sink c.run_lines.result) c.in_ok-hall.ensures
      c.run_lines.ensures.ran;
  nothing = tt;
}
