-- The slot of the piece has its paths.
use Rattle.std.proofs.Common.{◌<◌, ℕ, Some, length, map, refl, subst, arith}
use Rattle.std.specs.Option.{option_copied}
use Rattle.std.proofs.lemmas.Option.{slice_get_within}
use Rattle.std.proofs.lemmas.List.{length-map}
use Rattle.ov_fans.specs.Cuts.{AreRightPaths}
use Rattle.ov_fans.specs.Pieces.{level_of}
use Rattle.ov_even.proofs.AnalysisSteps.Narrowing.{members_few}
use Rattle.ov_even.proofs.AnalysisSteps.Trials.{level_few}
use Rattle.ov_even.proofs.AnalysisSteps.Slotted.{in_slot, not_none}
use Rattle.ov_even.proofs.paths_wanted_by_certificate.paths_in_slot.Goals as goal

pub place_in_level-place-requires : goal.place_in_level-place-requires
place_in_level-place-requires c =
    (length c.args.graph.now.nodes, c.requires.piece)

pub bounds-slots-place : goal.bounds-slots-place
bounds-slots-place c =
    let copied = map (λ slot. option_copied slot) c.args.slots.now in
    let r = c.requires.slots c.args.piece c.place_in_level-place.result c.requires.piece refl c.requires.apart
    c.place_in_level-place.ensures.place in
    subst (λ (n : ℕ). c.place_in_level-place.result < n) (length-map c.args.slots.now (λ slot. option_copied slot))
    (slice_get_within copied c.place_in_level-place.result (Some r.0) r.1)

pub offset_bounds-slots-place : goal.offset_bounds-slots-place
offset_bounds-slots-place c =
    let g = c.args.graph.now in
    let q = c.args.group.now in
    let few = members_few g q c.requires.group in
    let within = c.nodes.ensures.within in
    let small = level_few (length q) (level_of c.args.piece) (omega (arith, few, within)) in
    let below = c.place_in_level-place.ensures.below in
    omega (arith, small, below)

pub returns : goal.returns
returns c =
    let slots = c.args.slots.now in
    let place = c.place_in_level-place.result in
    let r = c.requires.slots c.args.piece place c.requires.piece refl c.requires.apart
    c.place_in_level-place.ensures.place in
    in_slot slots place c.index-slots-place.result c.in-Some.paths r.0 (AreRightPaths c.args.graph.now c.args.group.now
    c.args.piece) r.1 c.index-slots-place.is c.in-Some.is r.2

pub unreachable-requires : goal.unreachable-requires
unreachable-requires c =
    let slots = c.args.slots.now in
    let place = c.place_in_level-place.result in
    let r = c.requires.slots c.args.piece place c.requires.piece refl c.requires.apart
    c.place_in_level-place.ensures.place in
    let slot = c.index-slots-place.result in
    not_none slots place slot r.0 r.1 c.index-slots-place.is c.in_default.is
