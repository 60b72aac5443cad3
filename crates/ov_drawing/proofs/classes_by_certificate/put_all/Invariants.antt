-- with the ids that are left put, the map is as with all ids put
use Rattle.std.proofs.Common.{◌≡◌, ℕ, drop, Some, if◌then◌else◌}
use Rattle.std.specs.Ordering.{nat_cmp}
use Rattle.std.specs.BTreeMap.{get}
use Rattle.ov_ids.specs.Sets.{has}
use Rattle.ov_drawing.proofs.classes_by_certificate.put_all.Given as goal

abbrev pub invariant-loop-id : goal.invariant-loop-id
invariant-loop-id l = (n : ℕ)
    → (if has (drop l.id-index l.ids) n then Some l.class else get nat_cmp l.classes n)
    ≡ (if has l.ids n then Some l.class else get nat_cmp l.fn.classes n)
