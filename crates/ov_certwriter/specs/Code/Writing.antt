-- What comes of writing the texts of some of the items of a list.
use Rattle.std.specs.Prelude.{◌≡◌, ◌+◌, ◌++◌, ℕ, Bool, true, List, drop, Option, Result, OnOk}
use Rattle.std.specs.Io.KnownBytes.{Appends}
use Rattle.serde_json.specs.Data.{Data}
use Rattle.ov_io.specs.Device.{SinkState, write_faults, write_number, AppendsPrefixOf}
use Rattle.ov_io.specs.declared.fault.WriteFault.{WriteFault}
use Rattle.ov_certwriter.specs.Code.Blocks.{items_after}

-- The texts of the first items were written, of which there are so many: those of the others would make the texts
-- whole. If the writer failed, it took some prefix of the texts of all.
pub record WritesFirst {X W : Type 0} (as_data : X → Data) (later : Bool) (count : ℕ) (xs : List X)
    (contents : W → Option (List ℕ)) (old new : SinkState W) (result : Result (Unit {0}) WriteFault) : Type 0 where
  pub bytes : OnOk result ((done : List ℕ) × Appends (contents old.writer) (contents new.writer) done
      × (done ++ items_after as_data true (drop count xs) ≡ items_after as_data later xs))
  pub prefix : AppendsPrefixOf (items_after as_data later xs) (contents old.writer) (contents new.writer)
  pub faults : new.faults ≡ old.faults + write_faults write_number result
