-- The path is copied from its end back to the source.
use Rattle.std.proofs.Common.{◌∙◌, sym, Some, set, length, length-set, arith}
use Rattle.ov_split.specs.Places.{net_by_place}
use Rattle.ov_flow.specs.Code.Walked.{table_of}
use Rattle.ov_flow.proofs.Walking.{write_there, write_others}
use Rattle.ov_flow.proofs.Copying.{coming_below, copying_none, copying_more, copying_done, copying_ends}
use Rattle.ov_flow.proofs.path_table.copy_path.Goals as goal

pub loop-step-init : goal.loop-step-init
loop-step-init g c = record {
  long = c.requires.next;
  copying = copying_none (net_by_place c.args.net.now) c.requires.ready.placed.net (table_of c.args.from.now)
      (table_of c.args.next.now) c.args.ends.now c.requires.held c.args.end c.requires.end c.requires.apart;
}

pub get-requires : goal.get-requires
get-requires g c =
    let g = c.loop-step.invariant.copying in
    coming_below (net_by_place c.args.net.now) (length c.args.net.now.graph.nodes) c.args.from.now c.args.end
    c.loop-step.at g.c c.requires.ready.placed c.requires.from g.coming

pub set-requires : goal.set-requires
set-requires g c =
    let g = c.loop-step.invariant.copying in
    let l = coming_below (net_by_place c.args.net.now) (length c.args.net.now.graph.nodes) c.args.from.now c.args.end
    c.loop-step.at g.c c.requires.ready.placed c.requires.from g.coming in
    let long = c.loop-step.invariant.long in
    let e = c.requires.from in
    omega (arith, l, long, e)

pub loop-step-preserved : goal.loop-step-preserved
loop-step-preserved g c =
    let n = net_by_place c.args.net.now in
    let next = c.loop-step.next in
    let x = c.loop-step.at in
    let u = c.in-Some.before in
    let i = c.loop-step.invariant in
    let l = coming_below n (length c.args.net.now.graph.nodes) c.args.from.now c.args.end x i.copying.c
    c.requires.ready.placed
    c.requires.from i.copying.coming in
    let long = i.long in
    let v = c.requires.from in
    rw c.set.ensures (record {
      long = length-set next x (Some u) ∙ long;
      copying = copying_more n c.requires.ready.placed.net (table_of c.args.from.now) (table_of c.args.next.now)
          c.args.ends.now
          c.requires.held c.args.end c.requires.end c.requires.apart (table_of next)
          (table_of (set next x (Some u))) x u
          c.loop-step.step i.copying (sym c.get.ensures ∙ c.in-Some.is)
          (write_there next x (Some u) (omega (arith, l, long, v))) (write_others next x (Some u));
    })

pub returns-in-None-clause-copied : goal.returns-in-None-clause-copied
returns-in-None-clause-copied g c =
    copying_done (net_by_place c.args.net.now) (table_of c.args.from.now) (table_of c.args.next.now)
    (table_of c.loop-step.next) c.args.end c.loop-step.at c.loop-step.step c.loop-step.invariant.copying
    (sym c.get.ensures ∙ c.in-None.is)

pub returns-clause-copied : goal.returns-clause-copied
returns-clause-copied g c =
    let n = net_by_place c.args.net.now in
    let from = table_of c.args.from.now in
    let old = table_of c.args.next.now in
    let next = table_of c.loop-step.next in
    let g = c.loop-step.invariant.copying in
    let count = c.requires.ready.placed.count in
    let long = c.requires.from in
    let le = c.loop-step-test.false in
    copying_done n from old next c.args.end c.loop-step.at c.loop-step.step g
    (copying_ends n c.requires.ready.placed.net from old c.args.ends.now c.requires.held c.args.end c.requires.end
    c.requires.apart next c.loop-step.at c.loop-step.step g (omega (arith, count, long, le)))
