-- One more id, and all of them between the brackets.
use Rattle.std.proofs.Common.{◌≡◌, ◌∙◌, ◌*◌, ◌≤◌, ℕ, List, false, [], ◌∷◌, ◌++◌, decimal, inl, length, refl, sym, ap}
use Rattle.std.proofs.Common.{subst, arith, append-nil}
use Rattle.std.proofs.lemmas.List.{get_or_read, nil_from_length}
use Rattle.serde_json.specs.Written.{comma_if}
use Rattle.ov_ids.specs.Members.{Has}
use Rattle.ov_ids.proofs.Members.{has_append_left, has_append_right}
use Rattle.ov_flow.specs.Flow.{ended_by}
use Rattle.ov_certfile.specs.DataOf.{whole_data}
use Rattle.ov_certwriter.specs.Code.Blocks.{items_after}
use Rattle.ov_certwriter.specs.Code.Placed.{ids_back}
use Rattle.ov_certwriter.proofs.PutTexts.{puts_nothing, puts_then, item_more, item_short, list_put, list_short}
use Rattle.ov_certwriter.proofs.PathTexts.{ended_append, none_there, ids_front}
use Rattle.ov_certwriter.proofs.path_texts.put_path.Goals as goal

pub loop-place-init : goal.loop-place-init
loop-place-init c = record {
  below = c.requires;
  text = ([], puts_nothing _ _, λ more. refl);
  short = λ more h. h;
}

pub bounds-nodes-place : goal.bounds-nodes-place
bounds-nodes-place c =
    let parts = c.in-Some.ensures.cases in
    c.loop-place.invariant.below c.in-Some.place.now (subst (λ (l : List ℕ). Has l c.in-Some.place.now) (sym parts.0)
    (has_append_right c.in-Some.before.now (c.in-Some.place.now ∷ []) c.in-Some.place.now (inl refl)))

pub loop-place-preserved : goal.loop-place-preserved
loop-place-preserved c =
    let l = c.loop-place in
    let i = l.invariant in
    let nodes = c.args.nodes.now in
    let before = c.in-Some.before.now in
    let x = c.in-Some.place.now in
    let parts = c.in-Some.ensures.cases in
    let there = has_append_right before (x ∷ []) x (inl refl) in
    let low = i.below x (subst (λ (xs : List ℕ). Has xs x) (sym parts.0) there) in
    let n = c.number.result in
    let node = c.number.ensures ∙ get_or_read nodes x c.index-nodes-place.result low c.index-nodes-place.is 0 in
    let front = ids_front nodes before l.left.now x n parts.0 node in
    let all = ids_back nodes c.args.path.now in
    record {
      below = λ p h. i.below p (subst (λ (xs : List ℕ). Has xs p) (sym parts.0) (has_append_left before (x ∷ []) p h));
      text = (
        i.text.0 ++ (comma_if l.later ++ decimal n),
        puts_then i.text.0 _ _ _ _ _ _ _ i.text.1
            (puts_then (comma_if l.later) (decimal n) _ _ _ _ _ _ c.put_comma-id_at.ensures
            c.put_whole-end.ensures.text),
        λ more. item_more whole_data n (ids_back nodes before ++ more) l.later i.text.0
            (items_after whole_data false (all ++ more))
            (subst (λ (ns : List ℕ). i.text.0 ++ items_after whole_data l.later (ns ++ more)
            ≡ items_after whole_data false (all ++ more)) front (i.text.2 more)),
      );
      short = λ more h.
          let rest = ids_back nodes before ++ more in
          i.short more
          (subst (λ (ns : List ℕ). length (items_after whole_data l.later (ns ++ more)) ≤ 11 * length (ns ++ more))
          (sym front)
          (omega (arith, item_short whole_data n rest l.later 10 (11 * length rest) c.put_whole-end.ensures.short h)));
    }

pub returns-clause-text : goal.returns-clause-text
returns-clause-text c =
    let l = c.loop-place in
    let none = nil_from_length l.left.now (none_there _ _ _ c.split_last.ensures.cases c.in_default.not-Some) in
    let text = l.invariant.text in
    let last = c.args.last.now in
    let ids = ids_back c.args.nodes.now c.args.path.now in
    let tail = ended_by last [] in
    let behind = items_after whole_data l.later tail in
    let whole : text.0 ++ behind ≡ items_after whole_data false (ended_by last ids) =
    ap (λ (left : List ℕ). text.0 ++ items_after whole_data l.later (ids_back c.args.nodes.now left ++ tail))
    (sym none)
    ∙ text.2 tail ∙ ap (items_after whole_data false) (ended_append last ids) in
    list_put whole_data (ended_by last ids) [] l.later (text.0 ++ behind) _ _ _ _ _ _ _ _ refl
    c.put_byte-end.ensures (puts_then text.0 behind _ _ _ _ _ _ text.1 c.put_last-behind.ensures.text)
    (append-nil (text.0 ++ behind) ∙ whole) c.put_byte.ensures

pub returns-clause-short : goal.returns-clause-short
returns-clause-short c =
    let l = c.loop-place in
    let none = nil_from_length l.left.now (none_there _ _ _ c.split_last.ensures.cases c.in_default.not-Some) in
    let last = c.args.last.now in
    let nodes = c.args.nodes.now in
    let ids = ids_back nodes c.args.path.now in
    let tail = ended_by last [] in
    let left = subst (λ (xs : List ℕ). length (items_after whole_data l.later (ids_back nodes xs ++ tail))
    ≤ 11 * length (ids_back nodes xs ++ tail)) (sym none) c.put_last-behind.ensures.short in
    let all = subst (λ (xs : List ℕ). length (items_after whole_data false xs) ≤ 11 * length xs)
    (ended_append last ids) (l.invariant.short tail left) in
    let long = list_short whole_data (ended_by last ids) (11 * length (ended_by last ids)) all in
    omega (arith, long)
