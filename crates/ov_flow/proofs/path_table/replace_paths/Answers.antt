-- The walk opens one more end. Where it met paths, the paths are copied.
use Rattle.std.proofs.Common.{arith, ◌∙◌, sym, subst}
use Rattle.ov_split.specs.Places.{net_by_place}
use Rattle.ov_split.specs.Code.Residual.{AreHeld}
use Rattle.ov_flow.specs.Code.Walked.{table_of}
use Rattle.ov_flow.proofs.Copying.{held_turned}
use Rattle.ov_flow.proofs.Tidying.{targets_turned, open_before, flow_turned}
use Rattle.ov_flow.proofs.path_table.replace_paths.Goals as goal

pub keep_paths-requires : goal.keep_paths-requires
keep_paths-requires g c =
    let n = net_by_place c.args.net.now in
    let target = c.args.target in
    let ends = c.args.ends.now in
    let old = table_of c.args.from.now in
    let new = table_of c.take_hops.new.from in
    let b = c.requires.flow in (
      omega arith,
      (
        c.requires.ready,
        (
          c.take_hops.ensures.long ∙ c.requires.from,
          (
            c.requires.next,
            (
              subst (AreHeld n new) (sym b.is) (held_turned n new target b.before
                  (c.take_hops.ensures.held b.before (open_before n c.requires.ready.placed.net old ends target b))),
              targets_turned n old ends target b c.requires.target,
            ),
          ),
        ),
      ),
    )

pub returns-then-take_hops-clause-flow : goal.returns-then-take_hops-clause-flow
returns-then-take_hops-clause-flow g c =
    let n = net_by_place c.args.net.now in
    let target = c.args.target in
    let ends = c.args.ends.now in
    let old = table_of c.args.from.now in
    let b = c.requires.flow in
    flow_turned n old (table_of c.take_hops.new.from) ends target b c.requires.target
    (c.take_hops.ensures.held b.before (open_before n c.requires.ready.placed.net old ends target b))
    (c.take_hops.ensures.tidy c.if-take_hops.true b.before b.flow.tidy)
