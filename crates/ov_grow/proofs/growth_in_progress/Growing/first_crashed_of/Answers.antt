use Rattle.std.proofs.Common.{◌<◌, length, arith}
use Rattle.ov_grow.proofs.Healing.{first_found, is_item, none_next}
use Rattle.ov_grow.proofs.growth_in_progress.Growing.first_crashed_of.Goals as goal

pub returns-then-has_crashed-clause-some : goal.returns-then-has_crashed-clause-some
returns-then-has_crashed-clause-some c =
    let within : c.loop-node.node-index < length c.args.nodes.now = omega arith in
    first_found _ _ _ _ within (is_item _ _ _ within c.node-item.is) c.requires c.loop-node.invariant
    (c.has_crashed.ensures.0 c.if-has_crashed.true)

pub loop-node-preserved : goal.loop-node-preserved
loop-node-preserved c =
    let within : c.loop-node.node-index < length c.args.nodes.now = omega arith in
    none_next _ _ _ _ within (is_item _ _ _ within c.node-item.is) c.loop-node.invariant
    (λ gone. let holds = c.has_crashed.ensures.1 gone in let fails = c.if-has_crashed.false in cc)
