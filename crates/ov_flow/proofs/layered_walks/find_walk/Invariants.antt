use Rattle.std.proofs.Common.{◌≡◌, vec_capacity}
use Rattle.ov_split.specs.Places.{net_by_place}
use Rattle.ov_flow.specs.Code.Walked.{table_of}
use Rattle.ov_flow.proofs.Seeking.{IsSought}
use Rattle.ov_flow.proofs.layered_walks.find_walk.Given as goal

abbrev pub invariant-loop-turn : goal.invariant-loop-turn
invariant-loop-turn g l = record {
  sought : IsSought (net_by_place l.net) (table_of l.from) l.hops.items l.layers.visited;
  room : vec_capacity l.hops ≡ vec_capacity l.fn.hops;
}
