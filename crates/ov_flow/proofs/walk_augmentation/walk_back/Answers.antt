-- From each node to its parent, up to the source.
use Rattle.std.proofs.Common.{◌∙◌, ◌-◌, arith, length, reverse}
use Rattle.std.proofs.lemmas.List.{get_or_read}
use Rattle.ov_flow.proofs.Walking.{branch_step, branch_all}
use Rattle.ov_flow.proofs.walk_augmentation.walk_back.Goals as goal

pub loop-at-preserved : goal.loop-at-preserved
loop-at-preserved g c =
    let t = c.args.tree.now in
    let i = c.loop-at.invariant in
    let pos = c.loop-at-test.true in
    let count = c.requires.shaped.count in
    let e = get_or_read t.parents.items c.loop-at.at c.index.result.now (let l = i.within in omega (arith, l, count))
    c.index.ensures 0 in
    let p = c.requires.shaped.parent c.loop-at.at pos i.within in
    record {
      within = let l = i.within in omega (arith, l, e, p);
      room = let l = i.room in let m = c.push_reserved.ensures.len in omega (arith, l, e, p, m);
      same = c.push_reserved.ensures.capacity ∙ i.same;
      branch = branch_step t c.loop-at.at (length t.order.items - 1) c.loop-at.hops.items c.push_reserved.new.self.items
          c.index-node.result.now c.index-way.result.now c.index.result.now pos i.within i.branch
          c.push_reserved.ensures.items c.index-node.ensures c.index-way.ensures c.index.ensures;
    }

pub returns-clause-walk : goal.returns-clause-walk
returns-clause-walk g c =
    let t = c.args.tree.now in
    branch_all t c.loop-at.at (length t.order.items - 1) (reverse c.loop-at.hops.items) c.reverse.new.self.items
    c.loop-at-test.false c.loop-at.invariant.branch c.reverse.ensures.items
