-- what is left, behind what was put, is the whole list; if what is left is short, the whole is
use Rattle.std.proofs.Common.{◌≡◌, ◌≤◌, ◌*◌, ◌++◌, ℕ, List, false, drop, length}
use Rattle.ov_certfile.specs.DataOf.{whole_data}
use Rattle.ov_certwriter.specs.Code.Blocks.{Puts, items_after}
use Rattle.ov_certwriter.proofs.entry_texts.put_ids.Given as goal

abbrev pub invariant-loop-id : goal.invariant-loop-id
invariant-loop-id l = record {
  text : (done : List ℕ)
      × Puts done l.initial.out l.initial.end l.out l.end
      × (done ++ items_after whole_data l.later (drop l.id-index l.ids) ≡ items_after whole_data false l.ids);
  short : length (items_after whole_data l.later (drop l.id-index l.ids)) ≤ 11 * length (drop l.id-index l.ids)
      → length (items_after whole_data false l.ids) ≤ 11 * length l.ids;
}
