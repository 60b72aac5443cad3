-- The flaw of the path is the first of those of its ends, its links and its nodes after the first.
use Rattle.std.proofs.Common.{◌∙◌, sym, ap}
use Rattle.ov_graph.specs.Links.{LinkGraph}
use Rattle.ov_cert.specs.Code.Flaws.{chain_flaw, first_taken}
use Rattle.ov_cert.proofs.PathRules.Ends.{not_false}
use Rattle.ov_cert.proofs.PathRules.FlawTests.{fan_by_ends, wrong_end, after_ends, wrong_step, wrong_id, no_flaw}
use Rattle.ov_cert.proofs.path_judging.take_fan_path.Goals as goal

pub returns-then-not-is_earlier-clause-flaw : goal.returns-then-not-is_earlier-clause-flaw
returns-then-not-is_earlier-clause-flaw g c =
    wrong_end _ _ c.in-Some.ends.first c.in-Some.ends.last _ (not_false _ (sym c.ne.ensures ∙ c.if-ne.false))
    (sym c.is_earlier.ensures ∙ c.if-not-is_earlier.true)
    ∙ sym (fan_by_ends c.args.graph.now c.args.group.now c.args.used.now.members c.args.j c.in-Some.ends.first
    c.in-Some.ends.last c.in-Some.ends.inside.now c.in-Some.ends.rest.now c.args.path.now c.in-Some.ensures.0
    c.in-Some.ensures.1)

pub returns-in-Some-unlinked_step-clause-flaw : goal.returns-in-Some-unlinked_step-clause-flaw
returns-in-Some-unlinked_step-clause-flaw g c =
    after_ends _ _ c.in-Some.ends.first c.in-Some.ends.last _ _ (not_false _ (sym c.ne.ensures ∙ c.if-ne.false))
    (sym c.is_earlier.ensures ∙ c.if-not-is_earlier.false)
    (wrong_step (chain_flaw c.args.graph.now c.args.path.now)
    (first_taken c.args.graph.now c.args.used.now.members c.in-Some.ends.rest.now)
    c.in-Some-unlinked_step.flaw c.in-Some-unlinked_step.ensures)
    ∙ sym (fan_by_ends c.args.graph.now c.args.group.now c.args.used.now.members c.args.j c.in-Some.ends.first
    c.in-Some.ends.last c.in-Some.ends.inside.now c.in-Some.ends.rest.now c.args.path.now c.in-Some.ensures.0
    c.in-Some.ensures.1)

pub returns-in-Some-enter_all-clause-flaw : goal.returns-in-Some-enter_all-clause-flaw
returns-in-Some-enter_all-clause-flaw g c =
    after_ends _ _ c.in-Some.ends.first c.in-Some.ends.last _ _ (not_false _ (sym c.ne.ensures ∙ c.if-ne.false))
    (sym c.is_earlier.ensures ∙ c.if-not-is_earlier.false)
    (wrong_id (chain_flaw c.args.graph.now c.args.path.now)
    (first_taken c.args.graph.now c.args.used.now.members c.in-Some.ends.rest.now)
    c.in-Some-enter_all.id c.in_default-unlinked_step.ensures
    (c.in-Some-enter_all.ensures.taken
    ∙ ap (λ (g : LinkGraph). first_taken g c.args.used.now.members c.in-Some.ends.rest.now) c.requires.graph))
    ∙ sym (fan_by_ends c.args.graph.now c.args.group.now c.args.used.now.members c.args.j c.in-Some.ends.first
    c.in-Some.ends.last c.in-Some.ends.inside.now c.in-Some.ends.rest.now c.args.path.now c.in-Some.ensures.0
    c.in-Some.ensures.1)

pub returns-in-None-clause-flaw : goal.returns-in-None-clause-flaw
returns-in-None-clause-flaw g c =
    after_ends _ _ c.in-Some.ends.first c.in-Some.ends.last _ _ (not_false _ (sym c.ne.ensures ∙ c.if-ne.false))
    (sym c.is_earlier.ensures ∙ c.if-not-is_earlier.false)
    (no_flaw (chain_flaw c.args.graph.now c.args.path.now)
    (first_taken c.args.graph.now c.args.used.now.members c.in-Some.ends.rest.now) c.in_default-unlinked_step.ensures
    (c.in-None.ensures.taken
    ∙ ap (λ (g : LinkGraph). first_taken g c.args.used.now.members c.in-Some.ends.rest.now) c.requires.graph))
    ∙ sym (fan_by_ends c.args.graph.now c.args.group.now c.args.used.now.members c.args.j c.in-Some.ends.first
    c.in-Some.ends.last c.in-Some.ends.inside.now c.in-Some.ends.rest.now c.args.path.now c.in-Some.ensures.0
    c.in-Some.ensures.1)
