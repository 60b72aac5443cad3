-- Path by path.
use Rattle.std.proofs.Common.{◌≡◌, ◌∙◌, ℕ, ◌-◌, ◌∷◌, ◌++◌, get_or, List, [], inl, inr, refl, sym, ap, subst, map}
use Rattle.std.proofs.Common.{length, reverse, slice_index}
use Rattle.ov_ids.specs.Members.{Has}
use Rattle.ov_graph.specs.Paths.{node_at}
use Rattle.ov_lists.specs.Building.{Building}
use Rattle.ov_flow.specs.Flow.{ArePlaces, ended_by}
use Rattle.ov_flow.specs.Code.Flat.{paths_after}
use Rattle.ov_flow.proofs.FlatPaths.{in_flat, has_reversed, path_more}
use Rattle.ov_flow.proofs.flat_paths.PlacePaths.by_ids.Goals as goal

pub loop-path-init : goal.loop-path-init
loop-path-init c =
    let s = c.source_in-source.result in
    let g = c.args.graph.now in
    let flat = c.self.inside.flat.items in
    let left = c.as_slice-left.result.now in
    let f = λ (p : List ℕ). ended_by c.args.last (map (node_at g) p) in
    let all : paths_after s [] left ≡ c.args.self.now =
    ap (paths_after s []) c.as_slice-left.ensures.value
    ∙ in_flat flat s (c.source_in-source.ensures ∙ ap (λ (l : List ℕ). get_or l (length l - 1) 0) c.deref.ensures.value)
    ∙ c.self.view_is in
    let none = c.in_ok-paths.ensures in
    record {
      places = subst (ArePlaces g) (sym all) c.requires;
      begun = ap (λ (b : Building). b.begun) none;
      paths = ap (λ (b : Building). b.paths ++ map f (paths_after s [] left)) none ∙ ap (map f) all;
    }

pub push_by_ids-requires-clause-places : goal.push_by_ids-requires-clause-places
push_by_ids-requires-clause-places c p h =
    let s = c.source_in-source.result in
    let path = c.in-Some.path.now in
    rw c.nodes-nodes.ensures.nodes
    (c.loop-path.invariant.places (reverse path) (subst (λ (ps : List (List ℕ)). Has ps (reverse path))
    (sym c.in-Some.ensures.paths) (inl refl)) p (has_reversed path p h))

pub loop-path-preserved : goal.loop-path-preserved
loop-path-preserved c =
    let s = c.source_in-source.result in
    let g = c.args.graph.now in
    let path = c.in-Some.path.now in
    let rest = c.in-Some.rest.now in
    let i = c.loop-path.invariant in
    let first = c.in-Some.ensures.paths in
    let f = λ (p : List ℕ). ended_by c.args.last (map (node_at g) p) in
    let by_nodes = λ (ns : List ℕ). ended_by c.args.last (map (λ p. slice_index ns p) (reverse path)) in
    record {
      places = λ p h. i.places p (subst (λ (ps : List (List ℕ)). Has ps p) (sym first) (inr h));
      begun = c.in_ok-push_by_ids.ensures.ended;
      paths = path_more f c.loop-path.paths.paths c.push_by_ids.new.paths.paths (map f c.args.self.now)
          (paths_after s [] c.loop-path.left.now) (paths_after s [] rest) (reverse path) (f (reverse path)) i.paths
          first
          (c.in_ok-push_by_ids.ensures.pushed
          ∙ ap (λ (ns : List ℕ). c.loop-path.paths.paths ++ by_nodes ns ∷ []) c.nodes-nodes.ensures.nodes) refl;
    }
