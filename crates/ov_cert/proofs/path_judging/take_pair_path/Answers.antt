-- The flaw of the path is the first of those of its ends, its links and its inner nodes.
use Rattle.std.proofs.Common.{◌∙◌, ◌∷◌, refl, sym, ap}
use Rattle.ov_graph.specs.Links.{LinkGraph}
use Rattle.ov_cert.specs.Code.Tests.{entered}
use Rattle.ov_cert.specs.Code.Flaws.{chain_flaw, first_taken}
use Rattle.ov_cert.proofs.PathRules.Ends.{inner_of, not_false, not_true}
use Rattle.ov_cert.proofs.PathRules.FlawTests.{pair_by_ends, wrong_end, after_ends, wrong_step, wrong_id, no_flaw}
use Rattle.ov_cert.proofs.path_judging.take_pair_path.Goals as goal

pub returns-then-ne-2-clause-flaw : goal.returns-then-ne-2-clause-flaw
returns-then-ne-2-clause-flaw g c =
    wrong_end _ _ c.in-Some.ends.first c.in-Some.ends.last _ (not_false _ (sym c.ne.ensures ∙ c.if-ne.false))
    (not_true _ (sym c.ne-2.ensures ∙ c.if-ne-2.true))
    ∙ sym (pair_by_ends c.args.graph.now c.args.used.now.members c.args.i c.args.j c.in-Some.ends.first
    c.in-Some.ends.last c.in-Some.ends.inside.now c.args.path.now
    (c.in-Some.ensures.0 ∙ ap (λ t. c.in-Some.ends.first ∷ t) c.in-Some.ensures.1))

pub returns-in-Some-unlinked_step-clause-flaw : goal.returns-in-Some-unlinked_step-clause-flaw
returns-in-Some-unlinked_step-clause-flaw g c =
    after_ends _ _ c.in-Some.ends.first c.in-Some.ends.last _ _ (not_false _ (sym c.ne.ensures ∙ c.if-ne.false))
    (not_false _ (sym c.ne-2.ensures ∙ c.if-ne-2.false))
    (wrong_step (chain_flaw c.args.graph.now c.args.path.now)
    (first_taken c.args.graph.now c.args.used.now.members c.in-Some.ends.inside.now)
    c.in-Some-unlinked_step.flaw c.in-Some-unlinked_step.ensures)
    ∙ sym (pair_by_ends c.args.graph.now c.args.used.now.members c.args.i c.args.j c.in-Some.ends.first
    c.in-Some.ends.last c.in-Some.ends.inside.now c.args.path.now
    (c.in-Some.ensures.0 ∙ ap (λ t. c.in-Some.ends.first ∷ t) c.in-Some.ensures.1))

pub returns-in-Some-enter_all-clause-flaw : goal.returns-in-Some-enter_all-clause-flaw
returns-in-Some-enter_all-clause-flaw g c =
    after_ends _ _ c.in-Some.ends.first c.in-Some.ends.last _ _ (not_false _ (sym c.ne.ensures ∙ c.if-ne.false))
    (not_false _ (sym c.ne-2.ensures ∙ c.if-ne-2.false))
    (wrong_id (chain_flaw c.args.graph.now c.args.path.now)
    (first_taken c.args.graph.now c.args.used.now.members c.in-Some.ends.inside.now)
    c.in-Some-enter_all.id c.in_default-unlinked_step.ensures
    (c.in-Some-enter_all.ensures.taken
    ∙ ap (λ (g : LinkGraph). first_taken g c.args.used.now.members c.in-Some.ends.inside.now) c.requires))
    ∙ sym (pair_by_ends c.args.graph.now c.args.used.now.members c.args.i c.args.j c.in-Some.ends.first
    c.in-Some.ends.last c.in-Some.ends.inside.now c.args.path.now
    (c.in-Some.ensures.0 ∙ ap (λ t. c.in-Some.ends.first ∷ t) c.in-Some.ensures.1))

pub returns-in-None-clause-flaw : goal.returns-in-None-clause-flaw
returns-in-None-clause-flaw g c =
    after_ends _ _ c.in-Some.ends.first c.in-Some.ends.last _ _ (not_false _ (sym c.ne.ensures ∙ c.if-ne.false))
    (not_false _ (sym c.ne-2.ensures ∙ c.if-ne-2.false))
    (no_flaw (chain_flaw c.args.graph.now c.args.path.now)
    (first_taken c.args.graph.now c.args.used.now.members c.in-Some.ends.inside.now) c.in_default-unlinked_step.ensures
    (c.in-None.ensures.taken
    ∙ ap (λ (g : LinkGraph). first_taken g c.args.used.now.members c.in-Some.ends.inside.now) c.requires))
    ∙ sym (pair_by_ends c.args.graph.now c.args.used.now.members c.args.i c.args.j c.in-Some.ends.first
    c.in-Some.ends.last c.in-Some.ends.inside.now c.args.path.now
    (c.in-Some.ensures.0 ∙ ap (λ t. c.in-Some.ends.first ∷ t) c.in-Some.ensures.1))

pub returns-in-None-clause-used : goal.returns-in-None-clause-used
returns-in-None-clause-used g c = λ t.
    c.in-None.ensures.entered refl ∙ ap (entered c.args.used.now.members)
    (sym (inner_of c.in-Some.ends.first c.in-Some.ends.last c.in-Some.ends.inside.now c.args.path.now
    (c.in-Some.ensures.0 ∙ ap (λ t. c.in-Some.ends.first ∷ t) c.in-Some.ensures.1)))
