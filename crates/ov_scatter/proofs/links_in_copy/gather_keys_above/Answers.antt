-- One more neighbour that is left.
use Rattle.std.proofs.Common.{◌≡◌, ◌∙◌, ◌+◌, ◌++◌, ◌∷◌, [], arith, get_or, rules, subst, sym}
use Rattle.ov_scatter.specs.Code.Keys.{AreSomeAbove}
use Rattle.ov_scatter.proofs.Above.{above_all, above_more}
use Rattle.ov_scatter.proofs.Keyed.{any_default}
use Rattle.ov_scatter.proofs.links_in_copy.gather_keys_above.Goals as goal

pub loop-other-preserved : goal.loop-other-preserved
loop-other-preserved c =
    let g = c.args.graph.now in
    let keys = c.args.keys.now in
    let p = c.args.place in
    let other = c.in-Some.other in
    let found = c.loop-other.above.items in
    let first = c.in-Some.ensures.some in
    let count = c.requires.places in
    let less = first.holds.0.0 in
    let pushed : c.push.new.self.items ≡ found ++ c.index-keys-other.result ∷ [] = search rules in
    let key : get_or keys other 0 ≡ c.index-keys-other.result =
    any_default keys other 0 c.index-keys-other.result (omega (arith, less, count)) ∙ sym c.index-keys-other.is in
    record {
      within = omega (arith, less);
      found = subst (AreSomeAbove g keys p (other + 1)) (sym pushed)
          (subst (λ k. AreSomeAbove g keys p (other + 1) (found ++ k ∷ [])) key
          (above_more g keys p c.args.left.now c.loop-other.from other found c.requires.left first
          c.loop-other.invariant.found));
    }

pub returns : goal.returns
returns c =
    above_all c.args.graph.now c.args.keys.now c.args.place c.args.left.now c.loop-other.from c.loop-other.above.items
    c.requires.left c.in_default.ensures.none c.loop-other.invariant.found
