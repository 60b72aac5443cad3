-- The new path ends at the end of all ids.
use Rattle.std.proofs.Common.{◌≡◌, ◌∙◌, ◌+◌, List, ℕ, [], ◌∷◌, ◌++◌, length, ap, subst, arith}
use Rattle.ov_lists.specs.Code.Cut.{paths_from}
use Rattle.ov_lists.proofs.Cutting.{pushed_ends, pushed_paths}
use Rattle.ov_lists.proofs.path_list.Paths.push.Goals as goal

-- the ids of the path come behind those that were there
behind : (c : goal.In-Ok) → c.extend_from_slice.new.self.items ≡ c.self.inside.ids.items ++ c.args.path.now
behind c =
    c.in-Ok.ensures.items ∙ ap (λ (ids : List ℕ). ids ++ c.args.path.now) c.in_ok-reserve.ensures.items

-- the end is the number of ids, those of the path among them
all : (c : goal.In-Ok) → c.len.result + length c.args.path.now ≡ length c.self.inside.ids.items + length c.args.path.now
all c =
    let n = c.len.ensures in
    let i = ap length c.in_ok-reserve.ensures.items in
    omega (arith, n, i)

pub invariant_of-self-2 : goal.invariant_of-self-2
invariant_of-self-2 c =
    let p = c.self.inside in
    pushed_ends p.ends p.ids.items c.args.path.now c.push.new.self c.extend_from_slice.new.self.items
    (c.len.result + length c.args.path.now) c.self.invariant c.in_ok-push.ensures.pushed (behind c) (all c)

pub returns-clause-pushed : goal.returns-clause-pushed
returns-clause-pushed c =
    let p = c.self.inside in
    subst (λ (ps : List (List ℕ)). paths_from 0 c.push.new.self c.extend_from_slice.new.self.items
    ≡ ps ++ c.args.path.now ∷ []) c.self.view_is
    (pushed_paths p.ends p.ids.items c.args.path.now c.push.new.self c.extend_from_slice.new.self.items
    (c.len.result + length c.args.path.now) c.self.invariant c.in_ok-push.ensures.pushed (behind c) (all c))
