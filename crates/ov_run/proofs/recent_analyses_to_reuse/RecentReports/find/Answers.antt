-- What is left of the kept reports, one after another.
use Rattle.std.proofs.Common.{◌∙◌, All, arith, subst, sym}
use Rattle.ov_run.specs.Code.Recent.{HasAnswer}
use Rattle.ov_run.proofs.Recent.{IsLeft, left_begun, left_first, left_more, left_none}
use Rattle.ov_run.proofs.recent_analyses_to_reuse.RecentReports.find.Goals as goal

pub loop-first-init : goal.loop-first-init
loop-first-init c =
    let all = c.args.self.now in
    subst (IsLeft c.args.graph.now c.args.group.now all) (sym (c.as_slice-left.ensures.value ∙ c.self.view_is))
    (left_begun c.args.graph.now c.args.group.now all (subst (All HasAnswer) c.self.view_is c.self.invariant))

pub returns-then-is_about-clause-answer : goal.returns-then-is_about-clause-answer
returns-then-is_about-clause-answer c =
    let all = c.args.self.now in
    left_first c.args.graph.now c.args.group.now all c.in-Some.first.now c.in-Some.rest.now
    (subst (IsLeft c.args.graph.now c.args.group.now all) c.in-Some.ensures.cases.0 c.loop-first.invariant)

pub loop-first-smaller : goal.loop-first-smaller
loop-first-smaller c = let one = c.in-Some.ensures.cases.1 in omega (arith, one)

pub loop-first-preserved : goal.loop-first-preserved
loop-first-preserved c =
    let all = c.args.self.now in
    left_more c.args.graph.now c.args.group.now all c.in-Some.first.now c.in-Some.rest.now
    (λ about. let yes = c.if-is_about.ensures.1 about in absurd cc)
    (subst (IsLeft c.args.graph.now c.args.group.now all) c.in-Some.ensures.cases.0 c.loop-first.invariant)

pub returns-clause-none : goal.returns-clause-none
returns-clause-none c =
    let all = c.args.self.now in
    left_none c.args.graph.now c.args.group.now all c.loop-first.left.now c.in_default.ensures.cases
    c.loop-first.invariant
