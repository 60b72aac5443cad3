use Rattle.ov_grow.specs.Code.Standing.{HasCrashed, growth_of}
use Rattle.ov_grow.proofs.Healing.{first_pair, is_item, no_pair, none_next}
use Rattle.ov_grow.proofs.growth_in_progress.Growing.first_with_crashed.Goals as goal

pub returns-in-Some-clause-some : goal.returns-in-Some-clause-some
returns-in-Some-clause-some c =
    let within = c.loop-place-test.true in
    first_pair (growth_of c.args.self.now) c.args.nodes.now c.loop-place.place _ _ c.requires.live within
    (is_item _ _ _ within c.index-nodes-place.is) c.loop-place.invariant c.in-Some.ensures.some c.in-Some.ensures.least

pub loop-place-preserved : goal.loop-place-preserved
loop-place-preserved c =
    let within = c.loop-place-test.true in
    none_next (HasCrashed (growth_of c.args.self.now)) c.args.nodes.now c.loop-place.place _ within
    (is_item _ _ _ within c.index-nodes-place.is) c.loop-place.invariant (λ (b, has). c.in-None.ensures.none b has)

pub returns-clause-none : goal.returns-clause-none
returns-clause-none c =
    no_pair (growth_of c.args.self.now) c.args.nodes.now c.loop-place.place c.requires.live c.loop-place-test.false
    c.loop-place.invariant
