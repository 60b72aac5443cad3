use Rattle.std.proofs.Common.{◌∙◌, ℕ, ◌+◌, [], ◌∷◌, ◌++◌, ap, sym, subst, take}
use Rattle.std.proofs.lemmas.List.{take_more}
use Rattle.ov_components.proofs.Surviving.{AreOutside, outside_node, outside_stranger}
use Rattle.ov_components.proofs.bits_of_nodes_outside_cut.row_of_survivors.Goals as goal
use Rattle.ov_components.proofs.bits_of_nodes_outside_cut.row_of_survivors.Goals.{in-Some, in_default}

pub loop-id-preserved : goal.loop-id-preserved
loop-id-preserved v c =
    let g = c.args.graph.now in
    let cut = c.args.cut.now in
    let i = c.loop-id.id-index in
    let id = c.id-item.result in
    let more = take_more cut i id c.loop-id-test.true
    ∙ ap (λ (x : ℕ). take i cut ++ x ∷ []) (sym c.id-item.is) in
    elim c.match-place.branch [
      | in-Some w ↦ subst (AreOutside g (take (i + 1) cut)) (sym w.left-is)
          (outside_node g (take i cut) (take (i + 1) cut) id w.in-Some.place c.loop-id.left w.clear.new.row
          c.place.ensures.graph more c.loop-id.invariant w.in-Some.ensures.some.0 w.in-Some.ensures.some.1
          w.clear.ensures)
      | in_default w ↦ subst (AreOutside g (take (i + 1) cut)) (sym w.left-is)
          (outside_stranger g (take i cut) (take (i + 1) cut) id c.loop-id.left more c.loop-id.invariant
          w.in_default.ensures.none)
    ]
