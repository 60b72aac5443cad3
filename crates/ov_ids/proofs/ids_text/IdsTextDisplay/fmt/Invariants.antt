-- what has been written behind the first id
use Rattle.std.proofs.Common.{◌++◌, codes, decimal, flat_map, take}
use Rattle.std.specs.Fmt.{HasWritten, IsPlainFormatter}
use Rattle.ov_ids.proofs.ids_text.IdsTextDisplay.fmt.Given as goal

abbrev pub invariant-loop-id : goal.invariant-loop-id
invariant-loop-id g l =
    IsPlainFormatter l.initial.f
    → HasWritten g.W.Write.write_str_gives l.initial.f
    (flat_map (λ id. codes "," ++ decimal id) (take l.id-index l.rest)) l.f
