use Rattle.std.proofs.Common.{◌≡◌, ◌∙◌, ◌<◌, ◌+◌, ◌-◌, ◌++◌, ℕ, List, [], ◌∷◌, length, take, ap, subst, arith}
use Rattle.std.specs.Prelude.{Some, slice_get}
use Rattle.std.proofs.lemmas.List.{length-append}
use Rattle.ov_words.proofs.PickLemmas.{drawn_at}
use Rattle.ov_views.specs.ViewsState.{members}
use Rattle.ov_views.specs.Code.LeftOf.{left_of}
use Rattle.ov_views.proofs.LeftOf.{left_next}
use Rattle.ov_views.proofs.Sampling.{Sampling, sampled_more}
use Rattle.ov_views.proofs.views.Views.sample.Goals as goal

pub loop-i-preserved : goal.loop-i-preserved
loop-i-preserved c =
    let sampling = c.loop-i.invariant.0 in
    let taken = c.loop-i.taken in
    let i = c.loop-i.i in
    let place = c.place-place.result in
    let x = c.left_member.result in
    let set : List ℕ = members c.args.view c.args.self.now in
    let rest : List ℕ = left_of set (take i taken) in
    let whole : c.as_slice.result.now ≡ set = c.as_slice.ensures.value ∙ c.set_of-set.ensures in
    let size : c.len-in-loop-i.result ≡ length set = c.len-in-loop-i.ensures.value ∙ ap length c.set_of-set.ensures in
    let count : length rest ≡ c.len-in-loop-i.result - i =
    omega (arith, sampling.counted, c.loop-i.invariant.1, size) in
    let member : slice_get rest place ≡ Some x =
    subst (λ (ids : List ℕ). slice_get (left_of ids (take i taken)) place ≡ Some x) whole c.left_member.ensures in
    let within : place < length rest = omega (arith, count, c.place-place.ensures.within) in
    let room : i < length taken = omega (arith, c.as_slice.array_long) in
    let next = left_next set taken i place x room sampling.ascends within member in
    let drawn = drawn_at rest _ place x _ _ c.place-place.ensures.drawn count member in
    let more = subst (Sampling set c.args.draws.now c.place-place.new.self (c.loop-i.picked ++ x ∷ [])) next
    (sampled_more set _ _ _ _ rest x sampling drawn) in (
      rw c.push.ensures more,
      rw c.push.ensures (length-append c.loop-i.picked (x ∷ []) ∙ ap (λ (n : ℕ). n + 1) c.loop-i.invariant.1),
      c.loop-i.invariant.2,
    )
