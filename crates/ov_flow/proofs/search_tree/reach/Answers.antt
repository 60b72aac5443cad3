-- A node that is not reached is pushed.
use Rattle.ov_ids.specs.Members.{Has}
use Rattle.ov_flow.proofs.Reaching.{grown_push, has_push, last_of_push, only_last}
use Rattle.ov_flow.proofs.search_tree.reach.Goals as goal

pub returns-clause-grown : goal.returns-clause-grown
returns-clause-grown g c n from grown node step =
    let t = c.args.tree.now in
    let y = c.args.node in
    let new : ¬ Has t.order.items y = λ k. absurd (cc (c.has.ensures.1 ((grown.marked y).1 k), c.if-has.false)) in
    rw (c.push_reserved.ensures.items, c.push_reserved-2.ensures.items, c.push_reserved-3.ensures.items) (
      grown_push n from t.order.items t.parents.items t.ways.items t.reached t.seen c.args.at y c.args.way
          c.put.new.row grown c.requires.at step node new c.put.ensures,
      has_push t.order.items y,
      λ out. last_of_push t.order.items y,
    )

pub returns-clause-only : goal.returns-clause-only
returns-clause-only g c =
    rw c.push_reserved.ensures.items (only_last c.args.tree.now.order.items c.args.node)
