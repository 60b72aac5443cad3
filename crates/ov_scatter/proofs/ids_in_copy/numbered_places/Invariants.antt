-- the places so far
use Rattle.std.proofs.Common.{◌≤◌, length}
use Rattle.ov_scatter.specs.Code.Keys.{IsOrder}
use Rattle.ov_scatter.proofs.ids_in_copy.numbered_places.Given as goal

abbrev pub invariant-loop-place : goal.invariant-loop-place
invariant-loop-place l = record {
  few : l.place ≤ length l.guide;
  order : IsOrder l.place l.order.items;
}
