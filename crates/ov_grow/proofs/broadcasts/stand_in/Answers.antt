use Rattle.std.proofs.Common.{◌<◌, ◌≤◌, arith, inl, length}
use Rattle.ov_grow.proofs.Healing.{first_found, is_item, none_all, none_next}
use Rattle.ov_grow.proofs.Broadcasting.{stands_last}
use Rattle.ov_grow.proofs.broadcasts.stand_in.Goals as goal

pub returns-then-is_from : goal.returns-then-is_from
returns-then-is_from c =
    let within : c.loop-node.node-index < length c.args.nodes.now = omega arith in
    inl (first_found (λ a. c.args.sender ≤ a) _ _ _ within (is_item _ _ _ within c.node-item.is) c.requires.ascend
    c.loop-node.invariant (c.is_from.ensures.0 c.if-is_from.true))

pub loop-node-preserved : goal.loop-node-preserved
loop-node-preserved c =
    let within : c.loop-node.node-index < length c.args.nodes.now = omega arith in
    none_next (λ a. c.args.sender ≤ a) _ _ _ within (is_item _ _ _ within c.node-item.is) c.loop-node.invariant
    (λ above. let holds = c.is_from.ensures.1 above in let fails = c.if-is_from.false in cc)

pub returns : goal.returns
returns c =
    let past : length c.args.nodes.now ≤ c.loop-node.node-index = omega arith in
    stands_last c.args.sender c.args.nodes.now c.index-nodes-0.result
    (none_all (λ a. c.args.sender ≤ a) c.args.nodes.now c.loop-node.node-index past c.loop-node.invariant)
    c.requires.some c.requires.ascend c.index-nodes-0.is
