use Rattle.std.proofs.Common.{◌≡◌, ◌∙◌, ◌<◌, ℕ, List, [], ◌∷◌, ◌++◌, length, refl, sym, ap, arith}
use Rattle.std.specs.Prelude.{slice_get}
use Rattle.std.proofs.lemmas.List.{length-append, nil_from_length}
use Rattle.std.proofs.lemmas.Option.{slice_get_read}
use Rattle.ov_views.specs.Code.LeftOf.{left_of}
use Rattle.ov_views.proofs.LeftOf.{behind_last, ahead_of_last}
use Rattle.ov_views.proofs.views.left_member.Goals as goal

pub loop-last-preserved-then-last-before : goal.loop-last-preserved-then-last-before
loop-last-preserved-then-last-before c =
    let i = c.loop-last.invariant in
    let last = c.in-Some.last.now in
    let earlier = c.in-Some.earlier.now in
    let parts : c.loop-last.others.now ≡ earlier ++ last ∷ [] = c.in-Some.ensures.cases.0 in
    let long = ap length parts ∙ length-append earlier (last ∷ []) in (
      behind_last c.args.set.now _ earlier last c.loop-last.before _ parts c.if-last-before.true i.0,
      omega (arith, i.1, long),
    )

pub loop-last-preserved : goal.loop-last-preserved
loop-last-preserved c =
    let i = c.loop-last.invariant in
    let last = c.in-Some.last.now in
    let earlier = c.in-Some.earlier.now in
    let parts : c.loop-last.others.now ≡ earlier ++ last ∷ [] = c.in-Some.ensures.cases.0 in
    let long = ap length parts ∙ length-append earlier (last ∷ []) in (
      ahead_of_last c.args.set.now _ earlier last c.loop-last.before _ parts
          (omega (arith, c.if-last-before.false)) i.0,
      omega (arith, i.1, long),
    )

pub returns : goal.returns
returns c =
    let i = c.loop-last.invariant in
    let set = c.args.set.now in
    let before = c.loop-last.before in
    let none : c.loop-last.others.now ≡ [] = nil_from_length _ c.in_default.ensures.cases in
    let within : before < length set = omega (arith, i.1, c.requires) in
    sym i.0 ∙ ap (λ (places : List ℕ). slice_get (left_of set places) before) none
    ∙ slice_get_read set _ before _ refl within c.index-set-before.is
