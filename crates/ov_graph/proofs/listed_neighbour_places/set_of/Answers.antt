-- The bit of one more place is set.
use Rattle.std.proofs.Common.{List, ℕ, take_all, sym, subst, rules}
use Rattle.ov_ids.specs.Members.{Has}
use Rattle.ov_ids.proofs.Members.{has_place}
use Rattle.ov_graph.proofs.BitRows.Bits.{no_bits}
use Rattle.ov_graph.proofs.PlaceLists.Seeking.{one_put}
use Rattle.ov_graph.proofs.listed_neighbour_places.set_of.Goals as goal

pub loop-place-init : goal.loop-place-init
loop-place-init g c q = ((λ h. absurd (no_bits g.row.W q h)), (λ h. absurd h))

pub put-requires : goal.put-requires
put-requires g c =
    (search rules, c.requires _ (has_place c.args.places.now c.loop-place.place-index 0 c.loop-place-test.true))

pub loop-place-preserved : goal.loop-place-preserved
loop-place-preserved g c =
    one_put c.args.places.now c.loop-place.place-index c.loop-place.set c.put.new.row
    c.loop-place-test.true c.loop-place.invariant c.put.ensures

pub returns : goal.returns
returns g c q =
    let b = c.loop-place.invariant q in
    let all = take_all c.loop-place.place-index c.args.places.now c.loop-place-test.false in (
      (λ h. subst (λ (xs : List ℕ). Has xs q) all (b.0 h)),
      (λ h. b.1 (subst (λ (xs : List ℕ). Has xs q) (sym all) h)),
    )
