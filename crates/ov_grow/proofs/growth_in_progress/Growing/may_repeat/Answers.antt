use Rattle.std.proofs.lemmas.Result.{IfErr-weaker, on_ok_weaker}
use Rattle.ov_grow.proofs.NoTurn.{no_way_repeated}
use Rattle.ov_grow.proofs.Ways.{not_repeated_goes, repeated_goes}
use Rattle.ov_grow.proofs.Full.{repeated_full}
use Rattle.ov_grow.proofs.growth_in_progress.Growing.may_repeat.Goals as goal

pub returns-then-comes_true-clause-goes : goal.returns-then-comes_true-clause-goes
returns-then-comes_true-clause-goes c = on_ok_weaker _ (λ did. repeated_goes c.args.rules.now c.args.place
    c.get.result c.comes_true.result c.args.self.now c.act.new.self
    c.comes_true.new.self c.get.ensures.value c.comes_true.ensures.value c.comes_true.ensures.left
    c.if-comes_true.true did) c.act.ensures.goes

pub returns-then-comes_true-clause-refused : goal.returns-then-comes_true-clause-refused
returns-then-comes_true-clause-refused c = IfErr-weaker _ _ _ (λ fault none. no_way_repeated c.args.rules.now
    c.args.place c.get.result c.comes_true.result c.args.self.now c.comes_true.new.self fault
    c.get.ensures.value c.comes_true.ensures.value c.comes_true.ensures.left
    c.if-comes_true.true none) c.act.ensures.refused

pub returns-clause-goes : goal.returns-clause-goes
returns-clause-goes c = not_repeated_goes c.args.rules.now c.args.place c.get.result c.comes_true.result
    c.args.self.now
    c.comes_true.new.self c.get.ensures.value c.comes_true.ensures.value c.comes_true.ensures.left
    c.if-comes_true.false

pub returns-then-comes_true-clause-full : goal.returns-then-comes_true-clause-full
returns-then-comes_true-clause-full c = IfErr-weaker _ _ _ (λ fault judged. repeated_full
    (record c.args.self.now { choices = c.comes_true.new.self }) c.args.place fault c.requires judged)
    c.act.ensures.judged
