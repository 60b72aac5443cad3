-- One active member more, which is linked to the node, or is not.
use Rattle.std.proofs.Common.{◌≡◌, ◌↔◌, ◌⊎◌, ◌++◌, ◌∷◌, ◌+◌, [], ℕ, List, take, rules, arith, subst, sym}
use Rattle.std.proofs.lemmas.Grind.{common_steps}
use Rattle.std.proofs.lemmas.Bool.{both_ways}
use Rattle.ov_ids.specs.Members.{Has}
use Rattle.ov_net.specs.Code.WorldGraph.{AreUpwardOf}
use Rattle.ov_net.proofs.Links.Scanned.{HeldSoFar, held_begun, held_more, held_same}
use Rattle.ov_net.proofs.links_by_views.add_held.Goals as goal

pub loop-other-init : goal.loop-other-init
loop-other-init c = held_begun c.args.nodes.now c.args.node c.args.links.now.items c.requires.ascend

pub loop-other-preserved-then-not-is_upward : goal.loop-other-preserved-then-not-is_upward
loop-other-preserved-then-not-is_upward c =
    held_same c.args.nodes.now c.args.node c.args.links.now.items c.args.active.now c.loop-other.other-index
    c.other-item.result c.loop-other.links.items c.loop-other-test.true c.other-item.is
    (λ u. both_ways c.is_upward.result c.if-not-is_upward.true (c.is_upward.ensures.1 u)) c.loop-other.invariant

pub loop-other-preserved : goal.loop-other-preserved
loop-other-preserved c =
    let node = c.args.node in
    let before = c.args.links.now.items in
    let other = c.other-item.result in
    let i = c.loop-other.other-index in
    let links = c.loop-other.links.items in
    let pushed : c.push.new.self.items ≡ links ++ (node, other) ∷ [] = search rules in
    subst (HeldSoFar c.args.nodes.now node before (take (i + 1) c.args.active.now)) (sym pushed)
    (held_more c.args.nodes.now node before c.args.active.now i other links c.requires.active c.requires.below
    c.loop-other-test.true c.other-item.is (c.is_upward.ensures.0 c.if-not-is_upward.false) c.loop-other.invariant)

pub returns-clause-ascend : goal.returns-clause-ascend
returns-clause-ascend c = c.loop-other.invariant.ascend

pub returns-clause-each : goal.returns-clause-each
returns-clause-each c =
    let active = c.args.active.now in
    let i = c.loop-other.other-index in
    let all : take i active ≡ active = grind (arith, common_steps) in
    subst (λ (seen : List ℕ). (l : ℕ × ℕ) → Has c.loop-other.links.items l
    ↔ (Has c.args.links.now.items l ⊎ AreUpwardOf c.args.nodes.now c.args.node seen l)) all c.loop-other.invariant.each
