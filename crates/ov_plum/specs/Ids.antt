-- The ids of broadcasts, in order.
use Rattle.std.specs.declared.cmp.Ordering.{Ordering}
use Rattle.std.specs.Ordering.{nat_cmp, ordering_then}
use Rattle.ov_ids.specs.declared.id.MsgId.{MsgId}

-- by the node that made the broadcast, and then by its number: chosen here
abbrev pub id_cmp : MsgId → MsgId → Ordering
id_cmp a b = ordering_then (nat_cmp a.origin b.origin) (nat_cmp a.seq b.seq)
