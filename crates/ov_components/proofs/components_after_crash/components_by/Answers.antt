-- One component more, or a place that is not left; and all components.
use Rattle.std.proofs.Common.{◌≡◌, ◌∙◌, ◌≤◌, ℕ, ◌+◌, List, [], ◌∷◌, ◌++◌, length, ap, sym, subst, arith}
use Rattle.std.proofs.lemmas.Bool.{both_ways}
use Rattle.ov_graph.specs.Row.{picked}
use Rattle.ov_lists.specs.Building.{Building}
use Rattle.ov_components.specs.Components.{AreComponents}
use Rattle.ov_components.proofs.Divided.{IsDivided, divided_whole, divided_past, divided_more, divided_all}
use Rattle.ov_components.proofs.components_after_crash.components_by.Goals as goal
use Rattle.ov_components.proofs.components_after_crash.components_by.Goals.{then-has+in_ok-push_component, else-has}

pub push_component-requires : goal.push_component-requires
push_component-requires v c =
    let g = c.args.graph.now in
    let cut = c.args.cut.now in
    let whole = divided_whole g cut c.loop-start.lists.paths c.loop-start.left c.loop-start.start
    c.loop-start.invariant.divided in
    let taken = c.take_component-component.ensures.taken cut whole in (
      omega arith,
      (c.requires, ((λ p h. ((taken.component p).0 h).0), c.loop-start.invariant.begun)),
    )

pub loop-start-preserved : goal.loop-start-preserved
loop-start-preserved v c =
    let g = c.args.graph.now in
    let cut = c.args.cut.now in
    let start = c.loop-start.start in
    let components = c.loop-start.lists.paths in
    let left = c.loop-start.left in
    let divided = c.loop-start.invariant.divided in
    elim c.if-has.branch [
      | then-has+in_ok-push_component w ↦
          let t = w.take_component-component.ensures.taken cut (divided_whole g cut components left start divided) in
          let more = divided_more g cut components left start w.take_component-component.new.left
          w.take_component-component.result
          c.nodes-count.ensures.graph divided (c.has.ensures.0 w.if-has.true) t in
          let lists : c.if-has.lists.paths ≡ components ++ picked w.take_component-component.result 0 g.nodes ∷ [] =
          ap (λ (b : Building). b.paths) w.lists-is ∙ w.in_ok-push_component.ensures.pushed in
          record {
            divided = subst (λ (ps : List (List ℕ)). IsDivided g cut ps c.if-has.left (start + 1)) (sym lists)
                (subst (λ (r : List ℕ).
                IsDivided g cut (components ++ picked w.take_component-component.result 0 g.nodes ∷ []) r (start + 1))
                (sym w.left-is) more);
            begun = ap (λ (b : Building). b.begun) w.lists-is ∙ w.in_ok-push_component.ensures.ended;
          }
      | else-has w ↦
          let past = divided_past g cut components left start divided
          (λ h. both_ways c.has.result w.if-has.false (c.has.ensures.1 h)) in
          record {
            divided = subst (λ (ps : List (List ℕ)). IsDivided g cut ps c.if-has.left (start + 1))
                (sym (ap (λ (b : Building). b.paths) w.lists-is))
                (subst (λ (r : List ℕ). IsDivided g cut components r (start + 1)) (sym w.left-is) past);
            begun = ap (λ (b : Building). b.begun) w.lists-is ∙ c.loop-start.invariant.begun;
          }
    ]

pub returns : goal.returns
returns v c =
    let g = c.args.graph.now in
    let end : length g.nodes ≤ c.loop-start.start =
    subst (λ (xs : List ℕ). length xs ≤ c.loop-start.start) c.nodes-count.ensures.nodes c.loop-start-test.false in
    subst (AreComponents g c.args.cut.now) (sym (c.new.ensures ∙ c.finish.ensures))
    (divided_all g c.args.cut.now c.loop-start.lists.paths c.loop-start.left c.loop-start.start
    c.loop-start.invariant.divided end)
