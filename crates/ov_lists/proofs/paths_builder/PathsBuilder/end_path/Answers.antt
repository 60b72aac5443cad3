-- The path that was begun is the last one now.
use Rattle.std.proofs.Common.{◌≡◌, List, ℕ, [], ◌∷◌, ◌++◌, drop, subst, sym, arith}
use Rattle.ov_lists.specs.Building.{Building}
use Rattle.ov_lists.specs.Code.Cut.{paths_from, AreEnds}
use Rattle.ov_lists.proofs.Cutting.{end_more, path_ended, built}
use Rattle.ov_lists.proofs.paths_builder.PathsBuilder.end_path.Goals as goal

pub invariant_of-self-2 : goal.invariant_of-self-2
invariant_of-self-2 c =
    let b = c.self.inside in
    let a = c.self.invariant in
    let l = a.1 in
    let m = c.len-end.ensures in (
      subst (λ (es : List ℕ). AreEnds 0 es c.len-end.result) (sym c.in_ok-push.ensures.pushed)
          (end_more 0 b.ends b.last_end c.len-end.result a.0 (omega (arith, l, m))),
      omega (arith, m),
    )

pub returns-clause-ended : goal.returns-clause-ended
returns-clause-ended c =
    let b = c.self.inside in
    let m = c.len-end.ensures in
    subst (λ (v : Building). built (paths_from 0 c.push.new.self b.ids.items) (drop c.len-end.result b.ids.items)
    ≡ built (v.paths ++ v.begun ∷ []) []) c.self.view_is
    (path_ended b.ends b.last_end b.ids.items c.push.new.self c.len-end.result c.self.invariant.0
    c.in_ok-push.ensures.pushed (omega (arith, m)))
