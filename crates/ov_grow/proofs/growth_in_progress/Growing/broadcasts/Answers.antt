use Rattle.std.proofs.lemmas.Result.{IfErr-weaker, IfOk-weaker}
use Rattle.ov_grow.specs.Broadcasts.{AtOnce, Broadcasts, OneByOne}
use Rattle.ov_grow.specs.Code.Standing.{Goes}
use Rattle.ov_grow.proofs.NoBroadcast.{no_way_by_turns, no_way_together}
use Rattle.ov_grow.proofs.Ways.{by_turns_goes, together_goes}
use Rattle.ov_grow.proofs.growth_in_progress.Growing.broadcasts.Goals as goal

pub returns-then-rules-clause-goes : goal.returns-then-rules-clause-goes
returns-then-rules-clause-goes c = IfOk-weaker c.one_by_one.result
    (λ ids. Goes (λ s u. OneByOne c.args.rules.now c.args.count s ids.items u) c.args.self.now c.one_by_one.new.self)
    (λ ids. Goes (λ s u. Broadcasts c.args.rules.now c.args.count s ids.items u) c.args.self.now c.one_by_one.new.self)
    (λ ids made. by_turns_goes c.args.rules.now c.args.count ids.items c.args.self.now c.one_by_one.new.self
    c.if-rules.true made) c.one_by_one.ensures.goes

pub returns-then-rules-clause-refused : goal.returns-then-rules-clause-refused
returns-then-rules-clause-refused c = IfErr-weaker _ _ _ (λ fault none. no_way_by_turns c.args.rules.now c.args.count
    c.args.self.now fault c.if-rules.true none) c.one_by_one.ensures.refused

pub returns-clause-goes : goal.returns-clause-goes
returns-clause-goes c = IfOk-weaker c.at_once.result
    (λ ids. Goes (λ s u. AtOnce c.args.rules.now c.args.count s ids.items u) c.args.self.now c.at_once.new.self)
    (λ ids. Goes (λ s u. Broadcasts c.args.rules.now c.args.count s ids.items u) c.args.self.now c.at_once.new.self)
    (λ ids made. together_goes c.args.rules.now c.args.count ids.items c.args.self.now c.at_once.new.self
    c.if-rules.false made) c.at_once.ensures.goes

pub returns-clause-refused : goal.returns-clause-refused
returns-clause-refused c = IfErr-weaker _ _ _ (λ fault none. no_way_together c.args.rules.now c.args.count
    c.args.self.now fault c.if-rules.false none) c.at_once.ensures.refused
