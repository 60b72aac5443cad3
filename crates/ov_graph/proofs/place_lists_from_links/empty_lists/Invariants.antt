-- so many lists so far, without places
use Rattle.std.proofs.Common.{◌≡◌, ◌≤◌, ℕ, [], length}
use Rattle.ov_graph.specs.Code.Listed.{listed_at}
use Rattle.ov_graph.proofs.place_lists_from_links.empty_lists.Given as goal

abbrev pub invariant-loop-place : goal.invariant-loop-place
invariant-loop-place l = record {
  few : l._place ≤ l.count;
  many : length l.lists.items ≡ l._place;
  empty : (p : ℕ) → listed_at l.lists.items p ≡ [];
}
