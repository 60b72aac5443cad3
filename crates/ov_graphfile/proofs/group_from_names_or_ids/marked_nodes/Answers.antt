-- One id more, and the last one.
use Rattle.std.proofs.Common.{◌≡◌, ◌≤◌, ◌∙◌, ℕ, ◌+◌, ◌*◌, length, List, [], ◌∷◌, ◌++◌, get_or, drop, ap, sym, subst}
use Rattle.std.proofs.Common.{arith, append_assoc, append-nil}
use Rattle.ov_graph.specs.Row.{picked}
use Rattle.ov_graph.proofs.BitRows.Read.{next_picked, none_picked}
use Rattle.ov_graphfile.proofs.group_from_names_or_ids.marked_nodes.Goals as goal

pub loop-place-preserved : goal.loop-place-preserved
loop-place-preserved c =
    let nodes = c.args.graph.now.nodes in
    let row = c.args.row.now in
    let id = c.index-nodes-place.result in
    let place = c.in-Some.place in
    let next = c.loop-place.next in
    let first = c.in-Some.ensures.some in
    let fits = c.in-Some.ensures.fits in
    let is : id ≡ get_or nodes place id =
    subst (λ (xs : List ℕ). id ≡ get_or xs place id) c.nodes-nodes.ensures.nodes c.index-nodes-place.is in
    let rest = picked row (place + 1) (drop (place + 1) nodes) in
    let step : picked row next (drop next nodes) ≡ id ∷ rest =
    next_picked row nodes next place id first (c.requires place first.set) ∙ ap (λ (x : ℕ). x ∷ rest) (sym is) in
    record {
      ids = ap (λ (xs : List ℕ). xs ++ rest) c.in_ok-push.ensures.items
          ∙ append_assoc c.loop-place.ids.items (id ∷ []) rest
          ∙ ap (λ (xs : List ℕ). c.loop-place.ids.items ++ xs) (sym step) ∙ c.loop-place.invariant.ids;
      fits = omega (arith, fits);
    }

pub returns-clause-ids : goal.returns-clause-ids
returns-clause-ids c =
    let nodes = c.args.graph.now.nodes in
    let row = c.args.row.now in
    let ids = c.loop-place.ids.items in
    let next = c.loop-place.next in
    let enough = subst (λ (xs : List ℕ). length xs ≤ 64 * c.words_for-words.result) c.nodes-nodes.ensures.nodes
    c.words_for-words.ensures.words.enough in
    let none : picked row next (drop next nodes) ≡ [] = none_picked row next (drop next nodes)
    (λ q l h. let m = c.requires q h in c.in_default.ensures.none q l (omega (arith, m, enough)) h) in
    sym (append-nil ids) ∙ ap (λ (xs : List ℕ). ids ++ xs) (sym none) ∙ c.loop-place.invariant.ids
