use Rattle.std.proofs.Common.{◌≡◌, ◌-◌, suc, drop, sym, ap, ◌∙◌, arith}
use Rattle.std.proofs.Math.Seq.{drop-length}
use Rattle.std.specs.FinMap as map
use Rattle.ov_plum.proofs.Maps.{one_more}
use Rattle.ov_plum.proofs.map_by_id.copy_of.Goals as goal

pub loop-i-init : goal.loop-i-init
loop-i-init g c =
    let es = c.args.entries.now.entries in
    let all = c.len-i.ensures.len in (
      omega (arith, all),
      ap map.from_entries
          (c.in_ok-with_capacity.ensures.empty ∙ sym (drop-length es) ∙ ap (λ i. drop i es) (sym all)),
    )

pub loop-i-preserved : goal.loop-i-preserved
loop-i-preserved g c =
    let es = c.args.entries.now.entries in
    let i = c.loop-i.i - 1 in
    let later : suc i ≡ c.loop-i.i = omega (arith, c.loop-i-test.true) in
    let before = c.loop-i.invariant in (
      omega (arith, before.0),
      c.in_ok-insert-in-Some.ensures.ok
          ∙ (λ j. map.insert (before.1 j) c.in-Some.id.now (c.in_ok-try_copy-in-Some.ensures j))
          ∙ ap (λ k. map.insert (map.from_entries (drop k es)) c.in-Some.id.now c.in-Some.value.now) (sym later)
          ∙ sym (one_more es i _ (sym c.in-Some.ensures.entry)),
    )

pub returns : goal.returns
returns g c =
    let none : c.loop-i.i ≡ 0 = omega (arith, c.loop-i-test.false) in
    c.loop-i.invariant.1 ∙ ap (λ i. map.from_entries (drop i c.args.entries.now.entries)) none
