use Rattle.std.proofs.Common.{◌≡◌, ◌<◌, ◌≤◌, ◌+◌, length, drop, get_or, arith, subst, sym}
use Rattle.ov_script.specs.declared.recordable_event.Act.TheVariants as act
use Rattle.ov_ids.specs.Members.{Has}
use Rattle.ov_ids.proofs.Members.{has_place}
use Rattle.ov_grow.specs.Faults.{IsFull}
use Rattle.ov_grow.specs.Growth.{Does}
use Rattle.ov_grow.specs.Rounds.{DoesEach}
use Rattle.ov_grow.specs.Code.Standing.{IsNoWay, growth_of}
use Rattle.ov_grow.proofs.Going.{on_all, on_begun, on_more, on_nowhere, passes_on}
use Rattle.ov_grow.proofs.Full.{shuffled_full}
use Rattle.ov_grow.proofs.Healing.{is_item}
use Rattle.ov_grow.proofs.Keeping.{shuffles_live}
use Rattle.ov_grow.proofs.OnePhase.{each_rest}
use Rattle.ov_grow.proofs.Rounding.{each_begins, each_end, each_more, each_next}
use Rattle.ov_grow.proofs.growth_in_progress.Growing.shuffle.Goals as goal

pub loop-node-init : goal.loop-node-init
loop-node-init c = (on_begun (DoesEach act.Shuffle c.args.nodes.now) c.args.self.now, c.requires)

pub returns-in_err-act-clause-refused : goal.returns-in_err-act-clause-refused
returns-in_err-act-clause-refused c =
    let xs = c.args.nodes.now in
    let i = c.loop-node.node-index in
    let x = c.node-item.result in
    let b = c.args.self.now in
    let t = c.loop-node.self in
    let fault = c.in_err-act.field-0.0 in
    let within : i < length xs = omega arith in
    let is : x ≡ get_or xs i 0 = is_item xs i x within c.node-item.is in
    passes_on (IsNoWay (DoesEach act.Shuffle xs) b) c.from_residual.result fault c.from_residual.ensures.1
    (on_nowhere (DoesEach act.Shuffle xs) (DoesEach act.Shuffle (drop i xs)) (λ s u. Does s (act.Shuffle x) u) b t fault
    c.loop-node.invariant.0
    (λ u each. each_begins act.Shuffle xs i x (growth_of t) u within is each)
    c.in_err-act.ensures.refused)

pub loop-node-preserved : goal.loop-node-preserved
loop-node-preserved c =
    let xs = c.args.nodes.now in
    let i = c.loop-node.node-index in
    let x = c.node-item.result in
    let t = c.loop-node.self in
    let v = c.act.new.self in
    let within : i < length xs = omega arith in
    let is : x ≡ get_or xs i 0 = is_item xs i x within c.node-item.is in (
      on_more (DoesEach act.Shuffle xs) (DoesEach act.Shuffle (drop i xs)) (λ s u. Does s (act.Shuffle x) u)
          (DoesEach act.Shuffle (drop (i + 1) xs)) c.args.self.now t v c.loop-node.invariant.0
          (λ u did rest. each_more act.Shuffle xs i x (growth_of t) (growth_of v) u within is did rest)
          (λ u did each. each_rest act.Shuffle x (drop (i + 1) xs) (growth_of t) (growth_of v) u did
          (each_next act.Shuffle xs i x (growth_of t) u within is each)) c.in_ok-act.ensures.goes,
      shuffles_live xs (growth_of t) (growth_of v) x c.loop-node.invariant.1 c.in_ok-act.ensures.goes.way,
    )

pub returns-in_err-act-clause-full : goal.returns-in_err-act-clause-full
returns-in_err-act-clause-full c =
    let xs = c.args.nodes.now in
    let i = c.loop-node.node-index in
    let x = c.node-item.result in
    let within : i < length xs = omega arith in
    let is : x ≡ get_or xs i 0 = is_item xs i x within c.node-item.is in
    let has : Has xs x = subst (λ a. Has xs a) (sym is) (has_place xs i 0 within) in
    passes_on IsFull c.from_residual.result c.in_err-act.field-0.0 c.from_residual.ensures.1
    (shuffled_full c.loop-node.self x c.in_err-act.field-0.0 (c.loop-node.invariant.1 x has)
    c.in_err-act.ensures.judged)

pub returns-clause-goes : goal.returns-clause-goes
returns-clause-goes c =
    let xs = c.args.nodes.now in
    let i = c.loop-node.node-index in
    let past : length xs ≤ i = omega arith in
    on_all (DoesEach act.Shuffle xs) (DoesEach act.Shuffle (drop i xs)) c.args.self.now c.loop-node.self
    c.loop-node.invariant.0 (each_end act.Shuffle xs i (growth_of c.loop-node.self) past)
