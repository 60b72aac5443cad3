-- The list is read from its end to its front.
use Rattle.std.proofs.Common.{◌∙◌, ℕ, [], ◌∷◌, inl, refl, sym, subst, ap, slice_index, List}
use Rattle.std.proofs.lemmas.List.{get_or_read}
use Rattle.ov_ids.specs.Members.{Has}
use Rattle.ov_ids.proofs.Members.{has_append_left, has_append_right}
use Rattle.ov_lists.specs.Building.{Building}
use Rattle.ov_flow.proofs.FlatPaths.{one_more}
use Rattle.ov_flow.proofs.paths_out_of_flat_list.push_by_ids.Goals as goal

pub bounds-nodes-place : goal.bounds-nodes-place
bounds-nodes-place c =
    let parts = c.in-Some.ensures.cases in
    c.loop-place.invariant.below c.in-Some.place.now (subst (λ (l : List ℕ). Has l c.in-Some.place.now) (sym parts.0)
    (has_append_right c.in-Some.before.now (c.in-Some.place.now ∷ []) c.in-Some.place.now (inl refl)))

pub loop-place-preserved : goal.loop-place-preserved
loop-place-preserved c =
    let nodes = c.args.nodes.now in
    let before = c.in-Some.before.now in
    let x = c.in-Some.place.now in
    let parts = c.in-Some.ensures.cases in
    let i = c.loop-place.invariant in
    let there = has_append_right before (x ∷ []) x (inl refl) in
    let l = i.below x (subst (λ (xs : List ℕ). Has xs x) (sym parts.0) there) in
    let new = c.in_ok-push_id.ensures.pushed in
    record {
      below = λ p h. i.below p (subst (λ (xs : List ℕ). Has xs p) (sym parts.0) (has_append_left before (x ∷ []) p h));
      paths = ap (λ (b : Building). b.paths) new ∙ i.paths;
      ids = one_more (λ p. slice_index nodes p) c.loop-place.paths.begun c.push_id.new.self.begun c.args.path.now
          c.loop-place.left.now before x c.index-nodes-place.result i.ids parts.0 (ap (λ (b : Building). b.begun) new)
          (get_or_read nodes x c.index-nodes-place.result l c.index-nodes-place.is 0);
    }
