-- One id more, and the last one.
use Rattle.std.proofs.Common.{◌≡◌, ◌∙◌, ◌≤◌, ◌*◌, ℕ, ◌+◌, length, List, [], ◌∷◌, ◌++◌, get_or, drop, ap, ap₂, sym}
use Rattle.std.proofs.Common.{subst, arith}
use Rattle.std.proofs.Common.{append_assoc, append-nil}
use Rattle.ov_graph.specs.Row.{picked}
use Rattle.ov_graph.proofs.BitRows.Read.{next_picked, none_picked}
use Rattle.ov_lists.specs.Building.{Building}
use Rattle.ov_components.proofs.components_after_crash.push_component.Goals as goal

pub loop-place-preserved : goal.loop-place-preserved
loop-place-preserved v c =
    let nodes = c.args.graph.now.nodes in
    let row = c.args.row.now in
    let id = c.index-nodes-place.result in
    let place = c.in-Some.place in
    let next = c.loop-place.next in
    let first = c.in-Some.ensures.some in
    let fits = c.in-Some.ensures.fits in
    let pushed = c.in_ok-push_id.ensures.pushed in
    let is : id ≡ get_or nodes place id =
    subst (λ (xs : List ℕ). id ≡ get_or xs place id) c.nodes-nodes.ensures.nodes c.index-nodes-place.is in
    let rest = picked row (place + 1) (drop (place + 1) nodes) in
    let step : picked row next (drop next nodes) ≡ id ∷ rest =
    next_picked row nodes next place id first (c.requires.within place first.set)
    ∙ ap (λ (x : ℕ). x ∷ rest) (sym is) in
    record {
      paths = ap (λ (b : Building). b.paths) pushed ∙ c.loop-place.invariant.paths;
      ids = ap (λ (b : Building). b.begun ++ rest) pushed
          ∙ append_assoc c.loop-place.lists.begun (id ∷ []) rest
          ∙ ap (λ (xs : List ℕ). c.loop-place.lists.begun ++ xs) (sym step) ∙ c.loop-place.invariant.ids;
      fits = omega (arith, fits);
    }

pub returns-clause-pushed : goal.returns-clause-pushed
returns-clause-pushed v c =
    let nodes = c.args.graph.now.nodes in
    let row = c.args.row.now in
    let begun = c.loop-place.lists.begun in
    let next = c.loop-place.next in
    let enough = subst (λ (xs : List ℕ). length xs ≤ 64 * c.words_for-words.result) c.nodes-nodes.ensures.nodes
    c.words_for-words.ensures.words.enough in
    let none : picked row next (drop next nodes) ≡ [] = none_picked row next (drop next nodes)
    (λ q l h. let m = c.requires.within q h in c.in_default.ensures.none q l (omega (arith, m, enough)) h) in
    let all : begun ≡ picked row 0 nodes =
    sym (append-nil begun) ∙ ap (λ (xs : List ℕ). begun ++ xs) (sym none) ∙ c.loop-place.invariant.ids in
    ap (λ (b : Building). b.paths) c.in_ok-end_path.ensures.ended
    ∙ ap₂ (λ (ps : List (List ℕ)) (p : List ℕ). ps ++ p ∷ []) c.loop-place.invariant.paths all
