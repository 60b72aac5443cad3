-- The degree of one node more.
use Rattle.std.proofs.Common.{◌≡◌, ℕ, List, [], ◌∷◌, length, length-append, ap, arith}
use Rattle.ov_shape.proofs.ShapeOfGraph.Clusters.{degrees_more}
use Rattle.ov_shape.proofs.degree_quartiles.degrees_of.Goals as goal

pub places-preserved : goal.places-preserved
places-preserved g c =
    let i = c.places.invariant in
    let items = c.places.degrees.items in
    let v = c.degree_at.result in
    let is = c.push_reserved.ensures.items in
    let long : length c.push_reserved.new.self.items ≡ _ = ap (λ (xs : List ℕ). length xs) is in
    let one = length-append items (v ∷ []) in
    let count = i.count in
    let room = i.room in
    record {
      count = omega (arith, long, one, count);
      room = omega (arith, room, c.push_reserved.ensures.capacity);
      each = degrees_more c.args.graph.now items c.push_reserved.new.self.items c.places.place v i.count is
          c.degree_at.ensures i.each;
    }
