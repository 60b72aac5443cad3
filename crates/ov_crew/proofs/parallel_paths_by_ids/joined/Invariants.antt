-- The parts so far are joined.
use Rattle.std.proofs.Common.{◌≡◌, ◌*◌, ℕ, List, ◌++◌, length, take}
use Rattle.ov_even.specs.declared.paths_by_ids.NamedPaths.{NamedPaths}
use Rattle.ov_crew.specs.Code.Parts.{AreParts}
use Rattle.ov_crew.proofs.parallel_paths_by_ids.joined.Given as goal

abbrev pub invariant-loop-part : goal.invariant-loop-part
invariant-loop-part l = record {
  rest : l.yielded ++ l.part-iterator.rest.items ≡ l.fn.parts.items;
  all : (size : ℕ) (named : List NamedPaths) → AreParts size named l.fn.parts.items
      → l.all.items ≡ take (length l.yielded * size) named;
}
