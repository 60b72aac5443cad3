-- No place before the first one in the set is in it.
use Rattle.std.proofs.Common.{◌∙◌, List, ℕ, take_all, true≢false, sym, subst, rules}
use Rattle.ov_ids.specs.Members.{Has}
use Rattle.ov_ids.proofs.Members.{has_place}
use Rattle.ov_graph.specs.Row.{HasBit}
use Rattle.ov_graph.proofs.PlaceLists.Seeking.{first_at, one_more}
use Rattle.ov_graph.proofs.listed_neighbour_places.first_within_of.Goals as goal

pub has-requires : goal.has-requires
has-requires g c =
    (search rules, c.requires.fit _ (has_place c.args.places.now c.loop-place.place-index 0 c.loop-place-test.true))

pub returns-then-has-clause-some : goal.returns-then-has-clause-some
returns-then-has-clause-some g c =
    first_at (HasBit c.args.set.now) c.args.places.now c.loop-place.place-index c.requires.ascend
    c.loop-place-test.true c.loop-place.invariant
    (c.has.ensures.0 c.if-has.true)

pub loop-place-preserved : goal.loop-place-preserved
loop-place-preserved g c =
    one_more (λ q. ¬ HasBit c.args.set.now q) c.args.places.now c.loop-place.place-index c.loop-place-test.true
    c.loop-place.invariant (λ bit. absurd (true≢false (sym (c.has.ensures.1 bit) ∙ c.if-has.false)))

pub returns-clause-none : goal.returns-clause-none
returns-clause-none g c q h =
    c.loop-place.invariant q
    (subst (λ (xs : List ℕ). Has xs q)
    (sym (take_all c.loop-place.place-index c.args.places.now c.loop-place-test.false)) h)
