-- One more id, and all of them between the brackets.
use Rattle.std.proofs.Common.{◌≡◌, ◌∙◌, ◌+◌, ◌*◌, ◌≤◌, ℕ, List, false, [], ◌∷◌, ◌++◌, decimal, drop}
use Rattle.std.proofs.Common.{length, refl, sym, ap, subst, arith}
use Rattle.std.proofs.lemmas.List.{drop_all, drop_more}
use Rattle.serde_json.specs.Written.{comma_if}
use Rattle.ov_certfile.specs.DataOf.{whole_data}
use Rattle.ov_certwriter.specs.Code.Blocks.{items_after}
use Rattle.ov_certwriter.proofs.PutTexts.{puts_nothing, puts_then, item_more, item_short, list_put, list_short}
use Rattle.ov_certwriter.proofs.entry_texts.put_ids.Goals as goal

pub loop-id-init : goal.loop-id-init
loop-id-init c = record { text = ([], puts_nothing _ _, refl); short = λ h. h }

pub returns-clause-text : goal.returns-clause-text
returns-clause-text c =
    let l = c.loop-id in
    let text = l.invariant.text in
    list_put whole_data c.args.ids.now (drop l.id-index c.args.ids.now) l.later text.0 _ _ _ _ _ _ _ _
    (drop_all _ _ c.loop-id-test.false) c.put_byte-end.ensures text.1 text.2 c.put_byte.ensures

pub returns-clause-short : goal.returns-clause-short
returns-clause-short c =
    let l = c.loop-id in
    let ids = c.args.ids.now in
    let none = drop_all l.id-index ids c.loop-id-test.false in
    let left : length (items_after whole_data l.later (drop l.id-index ids)) ≤ 11 * length (drop l.id-index ids) =
    rw none (omega arith) in
    let all = list_short whole_data ids (11 * length ids) (l.invariant.short left) in
    omega (arith, all)

pub loop-id-preserved : goal.loop-id-preserved
loop-id-preserved c =
    let l = c.loop-id in
    let ids = c.args.ids.now in
    let n = c.number.result in
    let rest = drop (l.id-index + 1) ids in
    let front : drop l.id-index ids ≡ n ∷ rest =
    drop_more ids l.id-index c.id-item.result c.loop-id-test.true
    ∙ ap (λ (m : ℕ). m ∷ rest) (sym (c.number.ensures ∙ c.id-item.is)) in
    let text = l.invariant.text in
    record {
      text = (
        text.0 ++ (comma_if l.later ++ decimal n),
        puts_then text.0 _ _ _ _ _ _ _ text.1
            (puts_then (comma_if l.later) (decimal n) _ _ _ _ _ _ c.put_comma-id_at.ensures
            c.put_whole-end.ensures.text),
        item_more whole_data n rest l.later text.0 (items_after whole_data false ids)
            (subst (λ (ns : List ℕ). text.0 ++ items_after whole_data l.later ns ≡ items_after whole_data false ids)
            front
            text.2),
      );
      short = λ h. l.invariant.short
          (subst (λ (ns : List ℕ). length (items_after whole_data l.later ns) ≤ 11 * length ns) (sym front)
          (omega (arith, item_short whole_data n rest l.later 10 (11 * length rest) c.put_whole-end.ensures.short h)));
    }
