-- One more path was read.
use Rattle.std.proofs.Common.{◌∙◌, ◌+◌, List, ◌∷◌, drop, ap, sym}
use Rattle.std.proofs.lemmas.List.{drop_more}
use Rattle.serde_json.specs.declared.value.Value.{Value}
use Rattle.serde_json.specs.View.{view, items_view}
use Rattle.ov_certfile.specs.Forms.{ids_in, each_in}
use Rattle.ov_certfile.proofs.Listed.{with_front, item_read}
use Rattle.ov_certfile.proofs.paths_field.each_path.Goals as goal

pub loop-at-preserved : goal.loop-at-preserved
loop-at-preserved c =
    let values = c.args.values.now in
    let at = c.loop-at.at in
    let v = c.index-values-at.result in
    let left = λ (vs : List Value). with_front c.loop-at.paths.paths (each_in ids_in (items_view vs)) in
    let front = drop_more values at v c.loop-at-test.true
    ∙ ap (λ (x : Value). x ∷ drop (at + 1) values) (sym c.index-values-at.is) in
    record {
      begun = c.in-Ok.ensures.ended;
      left = sym (ap left front ∙ item_read c.loop-at.paths.paths c.push_path.new.paths.paths (ids_in (view v))
          (each_in ids_in (items_view (drop (at + 1) values))) c.in-Ok.ensures.read) ∙ c.loop-at.invariant.left;
    }
