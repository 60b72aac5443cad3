-- The hauls and the seats of the workers so far; there is room for all.
use Rattle.std.proofs.Common.{◌≡◌, ◌≤◌, ◌++◌, length, vec_capacity}
use Rattle.ov_crew.specs.Code.Crews.{outcomes}
use Rattle.ov_crew.proofs.analysis_by_threads.gather.Given as goal

abbrev pub invariant-loop-haul : goal.invariant-loop-haul
invariant-loop-haul l = record {
  hauls : length l.hauls.items ≡ length l.yielded;
  seats : length l.seats.items ≡ length l.yielded;
  hauls_room : length l.fn.done.items ≤ vec_capacity l.hauls;
  seats_room : length l.fn.done.items ≤ vec_capacity l.seats;
  rest : l.yielded ++ l.haul-iterator.rest.items ≡ l.fn.done.items;
  same : l.yielded ≡ outcomes l.hauls.items l.seats.items;
}
