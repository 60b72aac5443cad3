-- One more id is written behind those before it.
use Rattle.std.proofs.Common.{rules, ◌≡◌, ◌∙◌, ℕ, List, [], ◌∷◌, ◌++◌, ◌+◌, codes, decimal, flat_map, take, ap, sym}
use Rattle.std.specs.Fmt.{HasWritten}
use Rattle.std.proofs.Output.{has_written_append, has_written_of_eq}
use Rattle.std.proofs.lemmas.List.{flat_map_more, take_more}
use Rattle.ov_ids.proofs.ids_text.IdsTextDisplay.fmt.Goals as goal

pub loop-id-preserved : goal.loop-id-preserved
loop-id-preserved g c plain =
    let text : ℕ → List ℕ = λ id. codes "," ++ decimal id in
    let before = take c.loop-id.id-index c.in-Some.rest.now in
    let written : HasWritten g.W.Write.write_str_gives c.loop-id.f (text c.id-item.result) c.write-in-loop-id.new.self =
    search rules in
    let one_more : before ++ c.id-item.result ∷ [] ≡ take (c.loop-id.id-index + 1) c.in-Some.rest.now =
    ap (λ x. before ++ x ∷ []) c.id-item.is
    ∙ sym (take_more c.in-Some.rest.now c.loop-id.id-index c.id-item.result c.loop-id-test.true) in
    has_written_of_eq _ _ _ _ _
    (flat_map_more text [] before c.id-item.result ∙ ap (flat_map text) one_more)
    (has_written_append _ _ _ _ _ _ (c.loop-id.invariant plain) written)
