-- A level without a cut becomes the good one. A cut in the level just above the good one suffices. Another cut shows
-- that a lower level is not good.
use Rattle.std.proofs.Common.{◌∙◌, ℕ, List, sym, subst}
use Rattle.ov_even.specs.Hauls.{AreRight, SufficeKeeping}
use Rattle.ov_even.specs.Levels.{IsTried, KeepingSearch}
use Rattle.ov_even.specs.Code.Narrowing.{HasCutWithin, HasCutOf}
use Rattle.ov_even.specs.declared.worker_haul.Haul.{Haul}
use Rattle.ov_even.proofs.AnalysisSteps.Failing.{within_splits}
use Rattle.ov_even.proofs.AnalysisSteps.Narrowing.{tried_done, tried_good, tried_suffices, cut_within}
use Rattle.ov_even.proofs.AnalysisSteps.Narrowing.{kept_raised, kept_on}
use Rattle.ov_even.proofs.AnalysisSteps.FirstMembers.{none_first}
use Rattle.ov_even.proofs.level_search.LevelSearch.take.Goals as goal

pub raised-requires : goal.raised-requires
raised-requires c =
    let b = c.self.inside.bounds.search in
    let keeping = c.self.inside.keeping in
    let hauls = c.args.hauls.items in
    let right = subst (λ (t : KeepingSearch). AreRight t.search.graph t.search.members hauls) (sym c.self.view_is)
    c.requires.right in
    let tried = subst (λ (t : KeepingSearch). IsTried t.keeping t.search.graph t.search.members hauls t.search.level)
    (sym c.self.view_is) c.requires.tried in
    let none = subst (λ (n : ℕ). ¬ HasCutWithin hauls n) c.level.ensures.level
    (subst (λ (l : List Haul). ¬ HasCutWithin l c.level.result) c.deref.ensures.value c.in-None.ensures.none) in
    tried_good keeping b.graph b.members hauls b.level c.level.ensures.graph right tried none

pub invariant_of-result : goal.invariant_of-result
invariant_of-result c =
    let b = c.self.inside.bounds.search in
    let keeping = c.self.inside.keeping in
    let hauls = c.args.hauls.items in
    let right = subst (λ (t : KeepingSearch). AreRight t.search.graph t.search.members hauls) (sym c.self.view_is)
    c.requires.right in
    let tried = subst (λ (t : KeepingSearch). IsTried t.keeping t.search.graph t.search.members hauls t.search.level)
    (sym c.self.view_is) c.requires.tried in
    let none = subst (λ (n : ℕ). ¬ HasCutWithin hauls n) c.level.ensures.level
    (subst (λ (l : List Haul). ¬ HasCutWithin l c.level.result) c.deref.ensures.value c.in-None.ensures.none) in
    let next = c.raised.result in (
      kept_raised keeping c.self.inside.bounds next hauls right
          (tried_done keeping b.graph b.members hauls b.level tried none) c.raised.ensures.low c.raised.ensures.on,
      none_first keeping next.search.graph next.search.members next.search.level,
    )

pub returns-in-Some : goal.returns-in-Some
returns-in-Some c =
    let bounds = c.self.inside.bounds in
    let keeping = c.self.inside.keeping in
    let kept = c.self.inside.kept.items in
    let hauls = c.args.hauls.items in
    let level = c.level.result in
    let right = subst (λ (t : KeepingSearch). AreRight t.search.graph t.search.members hauls) (sym c.self.view_is)
    c.requires.right in
    let tried = subst (λ (t : KeepingSearch). IsTried t.keeping t.search.graph t.search.members hauls t.search.level)
    (sym c.self.view_is) c.requires.tried in
    let same = c.level.ensures.level in
    let of = subst (λ (l : List Haul). HasCutOf l level c.in-Some.field-0) c.deref.ensures.value
    c.in-Some.ensures.some in
    let all = tried_suffices keeping bounds kept hauls level c.level.ensures.graph c.level.ensures.group
    c.level.ensures.below (c.self.invariant.0) right
    (subst (IsTried keeping bounds.search.graph bounds.search.members hauls) (sym same) tried)
    (cut_within hauls level c.in-Some.field-0 of)
    (same ∙ c.is_just_above_low.ensures.lowest.0 c.if-is_just_above_low.true) in
    subst (λ (t : KeepingSearch).
    SufficeKeeping t.keeping t.search.graph t.search.members c.in_ok-joined-in-Some.field-0.items) c.self.view_is
    (subst (SufficeKeeping keeping bounds.search.graph bounds.search.members) (sym c.in_ok-joined-in-Some.ensures) all)

pub lowered-requires-clause-split : goal.lowered-requires-clause-split
lowered-requires-clause-split c =
    let b = c.self.inside.bounds.search in
    let hauls = c.args.hauls.items in
    let right = subst (λ (t : KeepingSearch). AreRight t.search.graph t.search.members hauls) (sym c.self.view_is)
    c.requires.right in
    let of = subst (λ (n : ℕ). HasCutOf hauls n c.in-Some.field-0) c.level.ensures.level
    (subst (λ (l : List Haul). HasCutOf l c.level.result c.in-Some.field-0) c.deref.ensures.value
    c.in-Some.ensures.some) in
    within_splits b.graph b.members hauls b.level c.in-Some.field-0 c.level.ensures.group right of

pub invariant_of-result-in-Some-2 : goal.invariant_of-result-in-Some-2
invariant_of-result-in-Some-2 c =
    let keeping = c.self.inside.keeping in
    let next = c.lowered.result in (
      kept_on keeping c.self.inside.bounds next c.self.inside.kept.items (c.self.invariant.0) c.lowered.ensures.low
          c.lowered.ensures.on,
      none_first keeping next.search.graph next.search.members next.search.level,
    )
