use Rattle.std.proofs.lemmas.Result.{IfErr-weaker, on_ok_weaker}
use Rattle.ov_grow.proofs.NoTurn.{no_way_arrives, no_way_lost}
use Rattle.ov_grow.proofs.Ways.{arrives_goes, lost_goes}
use Rattle.ov_grow.proofs.Full.{lost_full}
use Rattle.ov_grow.proofs.growth_in_progress.Growing.turn.Goals as goal

pub returns-then-comes_true-clause-goes : goal.returns-then-comes_true-clause-goes
returns-then-comes_true-clause-goes c = on_ok_weaker _ (λ did. lost_goes c.args.rules.now
    c.next_place-place.result c.get.result c.comes_true.result c.args.self.now
    c.next_place-place.new.self c.act.new.self c.comes_true.new.self c.next_place-place.ensures.goes
    c.get.ensures.value c.comes_true.ensures.value c.comes_true.ensures.left
    c.if-comes_true.true did) c.act.ensures.goes

pub returns-then-comes_true-clause-refused : goal.returns-then-comes_true-clause-refused
returns-then-comes_true-clause-refused c = IfErr-weaker _ _ _ (λ fault none. no_way_lost c.args.rules.now
    c.next_place-place.result c.get.result c.comes_true.result c.args.self.now
    c.next_place-place.new.self c.comes_true.new.self fault c.next_place-place.ensures.goes
    c.get.ensures.value c.comes_true.ensures.value c.comes_true.ensures.left
    c.if-comes_true.true none) c.act.ensures.refused

pub returns-clause-goes : goal.returns-clause-goes
returns-clause-goes c = on_ok_weaker _ (λ gone. arrives_goes c.args.rules.now c.next_place-place.result
    c.get.result c.comes_true.result c.args.self.now
    c.next_place-place.new.self c.arrive.new.self c.comes_true.new.self c.next_place-place.ensures.goes
    c.get.ensures.value c.comes_true.ensures.value c.comes_true.ensures.left
    c.if-comes_true.false gone) c.arrive.ensures.goes

pub returns-clause-refused : goal.returns-clause-refused
returns-clause-refused c = IfErr-weaker _ _ _ (λ fault none. no_way_arrives c.args.rules.now
    c.next_place-place.result c.get.result c.comes_true.result c.args.self.now
    c.next_place-place.new.self c.comes_true.new.self fault c.next_place-place.ensures.goes
    c.get.ensures.value c.comes_true.ensures.value c.comes_true.ensures.left
    c.if-comes_true.false none) c.arrive.ensures.refused

pub returns-then-comes_true-clause-full : goal.returns-then-comes_true-clause-full
returns-then-comes_true-clause-full c = IfErr-weaker _ _ _ (λ fault judged. lost_full
    (record c.next_place-place.new.self { choices = c.comes_true.new.self }) c.next_place-place.result fault
    c.next_place-place.ensures.within judged) c.act.ensures.judged
