-- One more path, and all of them between the brackets.
use Rattle.std.proofs.Common.{◌≡◌, ◌∙◌, ◌+◌, ◌*◌, ◌≤◌, ◌++◌, ℕ, List, false, [], length, map, reverse, inl, inr}
use Rattle.std.proofs.Common.{refl, sym, ap, subst, arith}
use Rattle.std.proofs.lemmas.Grind.{common_steps}
use Rattle.serde_json.specs.Written.{comma_if, compact_text}
use Rattle.ov_ids.specs.Members.{Has}
use Rattle.ov_flow.specs.Flow.{ArePlaces, ended_by}
use Rattle.ov_certfile.specs.DataOf.{ids_data}
use Rattle.ov_certwriter.specs.Code.Blocks.{items_after, texts_room}
use Rattle.ov_certwriter.specs.Code.Placed.{by_ids, ids_back}
use Rattle.ov_certwriter.proofs.PutTexts.{puts_nothing, puts_then, puts_same, item_more, item_short, list_put}
use Rattle.ov_certwriter.proofs.PutTexts.{list_short}
use Rattle.ov_certwriter.proofs.PathTexts.{turned, places_turned}
use Rattle.ov_certwriter.proofs.path_texts.put_paths.Goals as goal

pub loop-path-init : goal.loop-path-init
loop-path-init c =
    let g = c.args.graph.now in
    let last = c.args.last.now in
    let paths = c.args.paths.now in
    let f = λ (path : List ℕ). ended_by last (ids_back g.nodes path) in
    let are : c.into_iter-path-iterator.result ≡ map reverse paths = grind (arith, common_steps) in
    let all = ap (map f) are ∙ turned g last paths in
    record {
      places = subst (ArePlaces g) (sym are) (places_turned g paths c.requires);
      text = ([], puts_nothing _ _, ap (items_after ids_data false) all);
      short = λ h. subst (λ (ps : List (List ℕ)). length (items_after ids_data false ps) ≤ texts_room ps) all h;
    }

pub put_path-end-requires : goal.put_path-end-requires
put_path-end-requires c p h =
    let g = c.args.graph.now in
    let path = c.in-Some.path.now in
    let there = subst (λ (ps : List (List ℕ)). Has ps path) (sym c.in-Some.ensures.steps) (inl refl) in
    rw c.nodes-nodes.ensures.nodes (c.loop-path.invariant.places path there p h)

pub returns-clause-text : goal.returns-clause-text
returns-clause-text c =
    let l = c.loop-path in
    let g = c.args.graph.now in
    let text = l.invariant.text in
    let f = λ (path : List ℕ). ended_by c.args.last.now (ids_back g.nodes path) in
    list_put ids_data (by_ids g c.args.last.now c.args.paths.now) (map f l.path-iterator) l.later text.0 _ _ _ _ _ _ _ _
    (ap (map f) c.in-None.ensures.steps.0) c.put_byte-end.ensures text.1 text.2 c.put_byte.ensures

pub returns-clause-short : goal.returns-clause-short
returns-clause-short c =
    let l = c.loop-path in
    let g = c.args.graph.now in
    let f = λ (path : List ℕ). ended_by c.args.last.now (ids_back g.nodes path) in
    let all = by_ids g c.args.last.now c.args.paths.now in
    let left : length (items_after ids_data l.later (map f l.path-iterator)) ≤ texts_room (map f l.path-iterator) =
    rw c.in-None.ensures.steps.0 (omega arith) in
    list_short ids_data all (texts_room all) (l.invariant.short left)

pub loop-path-preserved : goal.loop-path-preserved
loop-path-preserved c =
    let l = c.loop-path in
    let g = c.args.graph.now in
    let last = c.args.last.now in
    let nodes = c.nodes-nodes.ensures.nodes in
    let path = c.in-Some.path.now in
    let rest = c.next.new.self in
    let f = λ (p : List ℕ). ended_by last (ids_back g.nodes p) in
    let front = ap (map f) c.in-Some.ensures.steps in
    let all = items_after ids_data false (by_ids g last c.args.paths.now) in
    let text = l.invariant.text in
    let own = ap (λ (ns : List ℕ). compact_text (ids_data (ended_by last (ids_back ns path)))) nodes in
    let put = puts_same _ _ _ _ _ _ own c.put_path-end.ensures.text in
    let short = subst (λ (ns : List ℕ). length (compact_text (ids_data (ended_by last (ids_back ns path))))
    ≤ 11 * length (ended_by last (ids_back ns path)) + 2) nodes c.put_path-end.ensures.short in
    record {
      places = λ r h. l.invariant.places r (subst (λ (ps : List (List ℕ)). Has ps r) (sym c.in-Some.ensures.steps)
          (inr h));
      text = (
        text.0 ++ (comma_if l.later ++ compact_text (ids_data (f path))),
        puts_then text.0 _ _ _ _ _ _ _ text.1
            (puts_then (comma_if l.later) (compact_text (ids_data (f path))) _ _ _ _ _ _ c.put_comma-path_at.ensures
            put),
        item_more ids_data (f path) (map f rest) l.later text.0 all
            (subst (λ (ps : List (List ℕ)). text.0 ++ items_after ids_data l.later ps ≡ all) front text.2),
      );
      short = λ h. l.invariant.short
          (subst (λ (ps : List (List ℕ)). length (items_after ids_data l.later ps) ≤ texts_room ps) (sym front)
          (omega (
            arith,
            item_short ids_data (f path) (map f rest) l.later (11 * length (f path) + 2) (texts_room (map f rest))
                short h,
          )));
    }
