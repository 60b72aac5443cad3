-- One more haul is examined.
use Rattle.std.proofs.Common.{◌≡◌, ◌∙◌, ◌+◌, ◌++◌, List, None, refl, take, map, sym, ap, subst}
use Rattle.std.specs.Option.{option_copied}
use Rattle.std.proofs.lemmas.List.{length-map}
use Rattle.ov_ids.specs.Members.{Has}
use Rattle.ov_ids.proofs.Members.{has_place}
use Rattle.ov_fans.specs.declared.piece_result.Settled.{Settled}
use Rattle.ov_even.specs.declared.worker_haul.Haul.{Haul}
use Rattle.ov_even.specs.Code.Cuts.{all_settled}
use Rattle.ov_even.specs.Code.Slots.{AreSlotsOf}
use Rattle.ov_even.proofs.AnalysisSteps.FirstCut.{all_more, among_all}
use Rattle.ov_even.proofs.AnalysisSteps.Slotted.{slots_none, none_filled, none_alone}
use Rattle.ov_even.proofs.level_path_slots.slots_of.Goals as goal

pub loop-haul-init : goal.loop-haul-init
loop-haul-init c =
    let slots = c.in_ok-slots.slots in
    let e = c.in_ok-slots.ensures.items_if_clones_equal
    (none_alone _ (λ z h. h)) in
    let many = c.in_ok-slots.ensures.len in
    slots_none c.args.members c.args.level (map (λ slot. option_copied slot) slots.items)
    (length-map slots.items (λ slot. option_copied slot) ∙ sym slots.ok.0 ∙ many ∙ c.level_size.ensures)
    (rw e (none_filled (λ slot. option_copied slot) None refl c.level_size.result))

pub fill-requires-clause-pieces : goal.fill-requires-clause-pieces
fill-requires-clause-pieces c = λ s h.
    let hauls = c.args.hauls.now in
    let haul = c.haul-item.result in
    let there : Has hauls haul = subst (Has hauls) (sym c.haul-item.is)
    (has_place hauls c.loop-haul.haul-index haul c.loop-haul-test.true) in
    c.requires.pieces s (among_all hauls s (haul, there, subst (λ (l : List Settled). Has l s) c.deref.ensures.value h))

pub loop-haul-preserved : goal.loop-haul-preserved
loop-haul-preserved c =
    let hauls = c.args.hauls.now in
    let i = c.loop-haul.haul-index in
    let h = c.haul-item.result in
    let now = map (λ slot. option_copied slot) c.fill.new.slots.items in
    let e : all_settled (take (i + 1) hauls) ≡ all_settled (take i hauls) ++ c.deref.result.now = all_more hauls i h
    c.loop-haul-test.true ∙ ap (λ (x : Haul). all_settled (take i hauls) ++ x.pieces.items) (sym c.haul-item.is)
    ∙ ap (λ (l : List Settled). all_settled (take i hauls) ++ l) (sym c.deref.ensures.value) in
    subst (λ (l : List Settled). AreSlotsOf c.args.members c.args.level l now) (sym e)
    (c.fill.ensures.filled (all_settled (take i hauls)) c.loop-haul.invariant)
