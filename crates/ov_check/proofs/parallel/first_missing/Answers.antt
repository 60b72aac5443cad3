-- What the threads found is the first entry that does not hold.
use Rattle.std.proofs.Common.{◌∙◌, sym, ap, subst}
use Rattle.ov_cert.specs.Entries.{IsExpected, HoldsEntry}
use Rattle.ov_check.proofs.Firsts.{IsAnswer, none_missing, one_missing}
use Rattle.ov_check.proofs.Placed.{expected_at}
use Rattle.ov_check.proofs.parallel.first_missing.Goals as goal

pub position_first-requires-clause-items : goal.position_first-requires-clause-items
position_first-requires-clause-items g c κs within =
    let graph = c.args.graph.now in
    let group = c.args.group.now in
    let split = c.args.split.now in
    rw (c.with_min_len.ensures.base, c.par_iter.ensures) (λ k d l x e. (
      c.requires.frame,
      subst (IsExpected graph group split.k) (sym e)
          (expected_at graph group split c.requires.frame c.args.entries.now c.requires.expected k d l),
    ))

pub returns-in_err-place : goal.returns-in_err-place
returns-in_err-place g c =
    let h = c.position_first.ensures in
    let shown = h.2 ∙ ap (λ it. it.slice.now) c.with_min_len.ensures.base ∙ c.par_iter.ensures in
    let Holds = HoldsEntry c.args.graph.now c.args.group.now c.args.split.now in
    let all = none_missing Holds h.0 h.1 c.args.entries.now shown h.3 c.requires.few (sym h.4 ∙ c.in_err-place.was) in
    subst (IsAnswer Holds c.args.entries.now) (sym c.from_residual.ensures) all

pub returns : goal.returns
returns g c =
    let h = c.position_first.ensures in
    let shown = h.2 ∙ ap (λ it. it.slice.now) c.with_min_len.ensures.base ∙ c.par_iter.ensures in
    let Holds = HoldsEntry c.args.graph.now c.args.group.now c.args.split.now in
    let entries = c.args.entries.now in
    let place = c.in_ok-place.place in
    let one = one_missing Holds h.0 h.1 entries shown h.3 c.requires.few place (sym h.4 ∙ c.in_ok-place.was) in
    subst (IsAnswer Holds entries) (sym c.entry_at.ensures) one
