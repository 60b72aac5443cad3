-- One run more, one batch more, and the end of the runs.
use Rattle.std.proofs.Common.{◌∙◌, ◌++◌, ◌∷◌, [], List, sym, ap, rules}
use Rattle.std.specs.Prelude.{Ok, Err}
use Rattle.std.proofs.iter.Next.{Yields-more}
use Rattle.ov_grow_options.specs.declared.options.GrowOptions.{GrowOptions}
use Rattle.ov_sweep.specs.declared.sweep_fault.SweepFault.TheVariants.{OutOfMemory}
use Rattle.ov_sweep.proofs.Batches.{ended, ended_at, none_left, one_more, swept_more, swept_none, swept_short}
use Rattle.ov_sweep.proofs.sweeping.sweep.Goals as goal

pub loop-options-init : goal.loop-options-init
loop-options-init g c = record {
  can = search rules;
  ends = search rules;
  swept = ([], sym c.new-batch.ensures.items, swept_none c.args.measures (g.T.RowTaker.taken c.args.taker.now));
}

pub returns-in_err-push : goal.returns-in_err-push
returns-in_err-push g c =
    let i = c.loop-options.invariant.swept in
    let runs = c.loop-options.yielded in
    let old = g.T.RowTaker.taken c.args.taker.now in
    let new = g.T.RowTaker.taken c.loop-options.taker in
    ended g.I.Iterator.next_gives c.args.measures c.args.runs c.into_iter-options-iterator.result
    c.loop-options.options-iterator runs
    old new c.from_residual.result OutOfMemory c.into_iter-options-iterator.ensures.into_iter_gives
    c.loop-options.yielded_by
    (swept_short c.args.measures i.0 c.loop-options.batch.items runs old new i.1 i.2) c.from_residual.ensures.1

pub returns-in_err-sweep_batch : goal.returns-in_err-sweep_batch
returns-in_err-sweep_batch g c =
    let i = c.loop-options.invariant.swept in
    let o = c.in-Some.options in
    let runs = c.loop-options.yielded in
    let old = g.T.RowTaker.taken c.args.taker.now in
    let mid = g.T.RowTaker.taken c.loop-options.taker in
    let new = g.T.RowTaker.taken c.sweep_batch.new.taker in
    let fault = c.in_err-sweep_batch.field-0.0 in
    let got = Yields-more g.I.Iterator.next_gives c.into_iter-options-iterator.result runs
    c.loop-options.options-iterator o c.next.new.self c.loop-options.yielded_by c.in-Some.ensures.steps in
    let parts = one_more i.0 c.loop-options.batch.items c.push.new.self.items c.deref.result.now runs o i.1
    c.in_ok-push.ensures.items c.deref.ensures.value in
    ended g.I.Iterator.next_gives c.args.measures c.args.runs c.into_iter-options-iterator.result c.next.new.self
    (runs ++ o ∷ []) old
    new c.from_residual-in_err-sweep_batch.result fault c.into_iter-options-iterator.ensures.into_iter_gives got
    (swept_more c.args.measures i.0 c.deref.result.now (runs ++ o ∷ []) old mid new (Err fault) parts i.2
    c.in_err-sweep_batch.ensures)
    c.from_residual-in_err-sweep_batch.ensures.1

pub loop-options-preserved-then-len-size : goal.loop-options-preserved-then-len-size
loop-options-preserved-then-len-size g c =
    let i = c.loop-options.invariant.swept in
    let o = c.in-Some.options in
    let runs = c.loop-options.yielded ++ o ∷ [] in
    let parts = one_more i.0 c.loop-options.batch.items c.push.new.self.items c.deref.result.now
    c.loop-options.yielded o i.1 c.in_ok-push.ensures.items c.deref.ensures.value in
    record {
      can = search rules;
      ends = search rules;
      swept = (
        runs,
        none_left runs c.clear.new.self.items c.clear.ensures.items,
        swept_more c.args.measures i.0 c.deref.result.now runs (g.T.RowTaker.taken c.args.taker.now)
            (g.T.RowTaker.taken c.loop-options.taker) (g.T.RowTaker.taken c.sweep_batch.new.taker) (Ok tt) parts i.2
            c.in_ok-sweep_batch.ensures,
      );
    }

pub returns : goal.returns
returns g c =
    let i = c.loop-options.invariant.swept in
    let runs = c.loop-options.yielded in
    let old = g.T.RowTaker.taken c.args.taker.now in
    let mid = g.T.RowTaker.taken c.loop-options.taker in
    let new = g.T.RowTaker.taken c.sweep_batch-2.new.taker in
    let result = c.sweep_batch-2.result in
    ended_at g.I.Iterator.next_gives c.args.measures c.args.runs c.into_iter-options-iterator.result
    c.loop-options.options-iterator
    c.next.new.self runs old new result c.into_iter-options-iterator.ensures.into_iter_gives c.loop-options.yielded_by
    c.in-None.ensures.steps
    (swept_more c.args.measures i.0 c.deref-2.result.now runs old mid new result
    (i.1 ∙ ap (λ (rs : List GrowOptions). i.0 ++ rs) (sym c.deref-2.ensures.value)) i.2 c.sweep_batch-2.ensures)
