-- the names of the entries so far
use Rattle.std.proofs.Common.{◌↔◌, ℕ, List, take}
use Rattle.ov_ids.specs.Members.{Has}
use Rattle.ov_dump.specs.Dumps.{names_of}
use Rattle.ov_dump.proofs.names_without_entry.entry_names.Given as goal

abbrev pub invariant-loop-entry : goal.invariant-loop-entry
invariant-loop-entry l = (n : List ℕ) → Has l.names n ↔ Has (names_of (take l.entry-index l.entries)) n
