use Rattle.std.proofs.Common.{◌≡◌, ◌^◌, ◌<◌, ◌++◌, drop}
use Rattle.std.specs.Int.{w32, to_be_bytes}
use Rattle.std.specs.List.{flat_map, AllByRecursion}
use Rattle.ov_wire.specs.Fields.{spelled, Ids, Many}
use Rattle.ov_wire.proofs.writing.put_ids.Given as goal

-- the ids that are left complete the list, and the list fits if they do
abbrev pub invariant-loop-id : goal.invariant-loop-id
invariant-loop-id l = record {
  written : l.out.items ++ flat_map (to_be_bytes w32) (drop l.id-index l.ids)
      ≡ l.fn.out.items ++ spelled Ids (Many l.ids);
  fit : AllByRecursion (λ id. id < 2 ^ 32) (drop l.id-index l.ids) → AllByRecursion (λ id. id < 2 ^ 32) l.ids;
}
