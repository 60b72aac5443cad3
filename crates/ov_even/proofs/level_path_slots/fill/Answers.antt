-- One more settled piece is examined.
use Rattle.std.proofs.Common.{◌≡◌, ◌∙◌, ◌<◌, List, ◌++◌, ℕ, Some, map, take, take_all, length, sym, ap, subst}
use Rattle.std.specs.Option.{option_copied}
use Rattle.std.proofs.Math.ListN.{set}
use Rattle.std.proofs.lemmas.List.{map-set, length-set}
use Rattle.ov_fans.specs.Pieces.{level_of}
use Rattle.ov_ids.specs.Members.{Has}
use Rattle.ov_ids.proofs.Members.{has_place}
use Rattle.ov_fans.specs.declared.piece_result.Settled.{Settled}
use Rattle.ov_even.specs.Code.Slots.{AreSlotsOf}
use Rattle.ov_even.proofs.AnalysisSteps.FirstCut.{one_more}
use Rattle.ov_even.proofs.AnalysisSteps.Slotted.{slots_put, slots_pass, place_within}
use Rattle.ov_even.proofs.level_path_slots.fill.Goals as goal
use Rattle.ov_even.proofs.level_path_slots.fill.Goals.{in-Paths, in_default}

pub loop-settled-preserved-then-level : goal.loop-settled-preserved-then-level
loop-settled-preserved-then-level c =
    let xs = c.args.pieces.now in
    let i = c.loop-settled.settled-index in
    let t = c.settled-item.result in
    let now = map (λ slot. option_copied slot) c.loop-settled.slots.items in
    record {
      size = c.loop-settled.invariant.size;
      filled = λ seen known.
          subst (λ (l : List Settled). AreSlotsOf c.args.members c.args.level l now)
          (sym (one_more seen xs i t c.loop-settled-test.true c.settled-item.is))
          (slots_pass c.args.members c.args.level (seen ++ take i xs) now t (c.loop-settled.invariant.filled seen known)
          (λ at paths e. c.if-level.true (c.level.ensures ∙ at)));
    }

pub place_in_level-requires : goal.place_in_level-requires
place_in_level-requires c =
    c.requires.pieces c.settled-item.result (subst (Has c.args.pieces.now) (sym c.settled-item.is)
    (has_place c.args.pieces.now c.loop-settled.settled-index c.settled-item.result c.loop-settled-test.true))

pub index_mut-requires : goal.index_mut-requires
index_mut-requires c =
    let slots = c.loop-settled.slots in
    let within : c.place_in_level.result < length slots.items = place_within c.args.members c.args.level slots.items
    c.settled-item.result.piece c.place_in_level.result c.loop-settled.invariant.size
    (sym c.level.ensures ∙ c.if-level.false) c.place_in_level.ensures.place in
    subst (λ (n : ℕ). c.place_in_level.result < n) (sym slots.ok.0) within

pub loop-settled-preserved : goal.loop-settled-preserved
loop-settled-preserved c =
    let xs = c.args.pieces.now in
    let i = c.loop-settled.settled-index in
    let t = c.settled-item.result in
    let m = c.args.members in
    let level = c.args.level in
    let old = map (λ slot. option_copied slot) c.loop-settled.slots.items in
    let new = map (λ slot. option_copied slot) c.match-settled.slots.items in
    let at : level_of t.piece ≡ level = sym c.level.ensures ∙ c.if-level.false in
    elim c.match-settled.branch [
      | in-Paths w ↦
          let place = w.place_in_level.result in
          let e : new ≡ set old place (Some w.in-Paths.paths) =
          ap (λ v. map (λ slot. option_copied slot) v.items) w.slots-is
          ∙ map-set (λ slot. option_copied slot) c.loop-settled.slots.items place _ in
          record {
            size = ap (λ v. length v.items) w.slots-is ∙ length-set c.loop-settled.slots.items place _
                ∙ c.loop-settled.invariant.size;
            filled = λ seen known.
                rw (one_more seen xs i t c.loop-settled-test.true c.settled-item.is, e)
                (slots_put m level (seen ++ take i xs) old t w.in-Paths.paths place
                (c.loop-settled.invariant.filled seen known) at w.in-Paths.is w.place_in_level.ensures.place);
          }
      | in_default w ↦
          let e : new ≡ old = ap (λ v. map (λ slot. option_copied slot) v.items) w.slots-is in
          record {
            size = ap (λ v. length v.items) w.slots-is ∙ c.loop-settled.invariant.size;
            filled = λ seen known.
                rw (one_more seen xs i t c.loop-settled-test.true c.settled-item.is, e)
                (slots_pass m level (seen ++ take i xs) old t (c.loop-settled.invariant.filled seen known)
                (λ same paths f. w.in_default.not-Paths paths f));
          }
    ]

pub returns : goal.returns
returns c = record {
  size = c.loop-settled.invariant.size;
  filled = λ seen known.
      subst (λ (l : List Settled). AreSlotsOf c.args.members c.args.level (seen ++ l)
      (map (λ slot. option_copied slot) c.loop-settled.slots.items))
      (take_all c.loop-settled.settled-index c.args.pieces.now c.loop-settled-test.false)
      (c.loop-settled.invariant.filled seen known);
}
