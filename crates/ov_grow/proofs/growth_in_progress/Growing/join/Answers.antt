use Rattle.std.proofs.Common.{◌≤◌, None, ap, sym, subst, ◌∙◌, inl, inr, arith}
use Rattle.std.proofs.lemmas.Result.{IfErr-weaker, on_ok_weaker}
use Rattle.ov_grow_options.specs.Limits.{most_nodes}
use Rattle.ov_net.specs.Limits.{most_world_nodes}
use Rattle.ov_script.specs.declared.recordable_event.Act.TheVariants as act
use Rattle.ov_grow.specs.Faults.{IsFull}
use Rattle.ov_grow.specs.Phases.{Join}
use Rattle.ov_grow.specs.Code.Standing.{IsNoWay, MayBear, growth_of}
use Rattle.ov_grow.proofs.Going.{passes_on}
use Rattle.ov_grow.proofs.Full.{first_born_full}
use Rattle.ov_grow.proofs.Keeping.{bear_more, none_born, one_born, room_for}
use Rattle.ov_grow.proofs.NoJoin.{no_way_births, no_way_boot, no_way_joined}
use Rattle.ov_grow.proofs.Ways.{join_goes}
use Rattle.ov_grow.proofs.growth_in_progress.Growing.join.Goals as goal

pub returns-in_err-comment-clause-refused : goal.returns-in_err-comment-clause-refused
returns-in_err-comment-clause-refused c =
    passes_on (IsNoWay (Join c.args.options.now) c.args.self.now) c.from_residual.result c.in_err-comment.field-0.0
    c.from_residual.ensures.1 (inl c.in_err-comment.ensures.refused)

pub returns-in_err-act-clause-refused : goal.returns-in_err-act-clause-refused
returns-in_err-act-clause-refused c =
    let fault = c.in_err-act.field-0.0 in
    passes_on (IsNoWay (Join c.args.options.now) c.args.self.now) c.from_residual-in_err-act.result fault
    c.from_residual-in_err-act.ensures.1
    (no_way_boot c.args.options.now c.new.result c.args.self.now c.comment.new.self fault c.new.ensures
    c.in_ok-comment.ensures.goes c.in_err-act.ensures.refused)

pub returns-in_err-births-clause-refused : goal.returns-in_err-births-clause-refused
returns-in_err-births-clause-refused c =
    let fault = c.in_err-births.field-0.0 in
    passes_on (IsNoWay (Join c.args.options.now) c.args.self.now) c.from_residual-in_err-births.result fault
    c.from_residual-in_err-births.ensures.1
    (no_way_births c.args.options.now c.joining-rules.result c.turns_between.result c.get.result c.new.result
    c.args.self.now c.comment.new.self c.act.new.self fault c.joining-rules.ensures c.turns_between.ensures
    c.get.ensures.value c.new.ensures c.in_ok-comment.ensures.goes c.in_ok-act.ensures.goes
    c.in_err-births.ensures.refused)

pub returns-in_err-comment-clause-full : goal.returns-in_err-comment-clause-full
returns-in_err-comment-clause-full c =
    passes_on IsFull c.from_residual.result c.in_err-comment.field-0.0 c.from_residual.ensures.1
    (inr (inr c.in_err-comment.ensures.refused))

pub returns-in_err-act-clause-full : goal.returns-in_err-act-clause-full
returns-in_err-act-clause-full c =
    let fault = c.in_err-act.field-0.0 in
    let t = c.comment.new.self in
    passes_on IsFull c.from_residual-in_err-act.result fault c.from_residual-in_err-act.ensures.1
    (first_born_full t c.new.result fault c.new.ensures
    (none_born (growth_of t) (ap (λ g. g.world.net.nodes) c.in_ok-comment.ensures.goes.way ∙ c.requires.unborn))
    c.in_err-act.ensures.judged)

pub births-requires-clause-born : goal.births-requires-clause-born
births-requires-clause-born c =
    let t = c.comment.new.self in
    one_born 0 c.new.result None (growth_of t) (growth_of c.act.new.self)
    (none_born (growth_of t) (ap (λ g. g.world.net.nodes) c.in_ok-comment.ensures.goes.way ∙ c.requires.unborn))
    c.new.ensures c.in_ok-act.ensures.goes.way

pub births-requires-clause-few : goal.births-requires-clause-few
births-requires-clause-few c =
    let o = c.args.options.now in
    let t = c.comment.new.self in
    let same = ap (λ g. g.world.net.params) c.in_ok-comment.ensures.goes.way ∙ c.requires.params in
    let few : o.nodes ≤ most_nodes = omega (arith, c.get.ensures.value, c.get.ensures.most) in
    let first : MayBear o.nodes (growth_of t) =
    subst (λ p. o.nodes ≤ most_world_nodes p) (sym same) (room_for o.nodes few) in
    subst (λ n. MayBear n (growth_of c.act.new.self)) (sym c.get.ensures.value)
    (bear_more o.nodes (growth_of t) (growth_of c.act.new.self) (act.Boot c.new.result None)
    c.in_ok-act.ensures.goes.way first)

pub returns-clause-goes : goal.returns-clause-goes
returns-clause-goes c = on_ok_weaker _ (λ out. join_goes c.args.options.now c.joining-rules.result
    c.turns_between.result c.get.result
    c.new.result c.args.self.now c.comment.new.self c.act.new.self c.births.new.self c.run_out.new.self
    c.joining-rules.ensures c.turns_between.ensures c.get.ensures.value c.new.ensures c.in_ok-comment.ensures.goes
    c.in_ok-act.ensures.goes c.in_ok-births.ensures.goes out) c.run_out.ensures.goes

pub returns-clause-refused : goal.returns-clause-refused
returns-clause-refused c = IfErr-weaker _ _ _ (λ fault none. no_way_joined c.args.options.now c.joining-rules.result
    c.turns_between.result c.get.result
    c.new.result c.args.self.now c.comment.new.self c.act.new.self c.births.new.self fault
    c.joining-rules.ensures c.turns_between.ensures c.get.ensures.value c.new.ensures c.in_ok-comment.ensures.goes
    c.in_ok-act.ensures.goes c.in_ok-births.ensures.goes none) c.run_out.ensures.refused
