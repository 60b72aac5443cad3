use Rattle.std.proofs.Common.{◌≡◌, ◌+◌, ◌-◌, ◌++◌, length, take, vec_len}
use Rattle.ov_views.specs.JoinRows.{forwards}
use Rattle.ov_views.specs.Room.{HasRoom}
use Rattle.ov_join.proofs.forward.Given as goal

abbrev pub invariant-loop-member : goal.invariant-loop-member
invariant-loop-member l = record {
  sends : l.moves.sends.items ≡ l.initial.moves.sends.items ++ forwards l.me l.node l.ttl
      (take l.member-index l.members);
  len : vec_len l.moves.sends ≡ vec_len l.initial.moves.sends + l.member-index;
  changes : l.moves.changes ≡ l.initial.moves.changes;
  room : HasRoom l.moves (length l.members - l.member-index) 0;
}
