-- One key more, which is that of a place of a name.
use Rattle.std.proofs.Common.{◌≡◌, ◌+◌, ◌<◌, ◌++◌, ◌∷◌, [], rules, sym, subst}
use Rattle.ov_graph.specs.Links.{most_of_any_graph}
use Rattle.ov_dump.specs.Code.Numbering.{AreByKey}
use Rattle.ov_dump.proofs.Keyed.{by_key_more}
use Rattle.ov_dump.proofs.node_numbering.places_by_key.Goals as goal

pub loop-key-preserved : goal.loop-key-preserved
loop-key-preserved c =
    let count = c.args.count in
    let key = c.loop-key.key in
    let place = c.place_of_key-place.result in
    let places = c.loop-key.places.items in
    let own : place < count = search rules in
    let low : key < most_of_any_graph = c.loop-key-test.true in
    let pushed : c.push.new.self.items ≡ places ++ place ∷ [] = search rules in
    subst (AreByKey count (key + 1)) (sym pushed)
    (by_key_more count key place places c.place_of_key-place.ensures c.requires.few low own c.loop-key.invariant)
