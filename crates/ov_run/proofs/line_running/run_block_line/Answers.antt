-- A block of sections, with the hall after it.
use Rattle.std.proofs.Common.{refl}
use Rattle.ov_scenario.specs.declared.scenario.Line.TheVariants as line
use Rattle.ov_run.specs.declared.line_outcome.Came.TheVariants.{Block}
use Rattle.ov_run.proofs.Printing.OneLine.{block_came, block_ended, not_handed_on, ran_as}
use Rattle.ov_run.proofs.line_running.run_block_line.Goals as goal

pub flush-requires : goal.flush-requires
flush-requires g c = c.requires.faults

pub same-sections : goal.same-sections
same-sections g c = refl

pub returns-in_err-flush : goal.returns-in_err-flush
returns-in_err-flush g c =
    record {
      ran = not_handed_on g.W.Write.contents c.args.hall (line.Together c.args.sections) c.args.sink.now
          c.flush.new.self c.from_residual.result c.from_residual.ensures.1 c.flush.ensures.bytes
          c.in_err-flush.ensures.faults;
    }

pub run_block-requires-clause-drivers : goal.run_block-requires-clause-drivers
run_block-requires-clause-drivers g c κs within = c.requires.drivers

pub returns-in_err-block : goal.returns-in_err-block
returns-in_err-block g c =
    let failed = c.from_residual-in_err-block in
    record {
      ran = block_ended g.W.Write.contents c.args.hall c.args.sink.now c.flush.new.self failed.result
          c.args.sections failed.ensures.1 c.flush.ensures.bytes c.in_ok-flush.ensures.faults;
    }

pub returns : goal.returns
returns g c =
    let contents = g.W.Write.contents in
    let before = c.args.sink.now in
    let after = c.flush.new.self in
    let block = c.in_ok-block.block in
    let u = c.in_ok-block.hall in
    let here = block_came c.args.hall u (line.Together c.args.sections) block _ _ c.flush.ensures.bytes
    c.in_ok-block.ensures.ran in
    record {
      ran = ran_as contents c.args.hall (line.Together c.args.sections) before after (Block block) u here
          c.in_ok-flush.ensures.faults;
    }
