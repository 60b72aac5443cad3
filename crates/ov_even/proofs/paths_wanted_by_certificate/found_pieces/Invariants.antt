-- What was found so far has the pieces yielded so far that are no linked pairs.
use Rattle.std.proofs.Common.{◌≡◌, ◌++◌, length, map}
use Rattle.ov_even.specs.Naming.{AreFound}
use Rattle.ov_even.specs.Order.{ComesBefore}
use Rattle.ov_even.specs.Code.Levels.{pieces_of_level}
use Rattle.ov_even.proofs.AnalysisSteps.Named.{AreNamed, NamesItself}
use Rattle.ov_even.proofs.paths_wanted_by_certificate.found_pieces.Given as goal

abbrev pub invariant-loop-piece : goal.invariant-loop-piece
invariant-loop-piece l = record {
  listed : pieces_of_level (length l.group) l.level ≡ l.yielded ++ l.piece-iterator;
  named : AreNamed ComesBefore (NamesItself l.graph l.group) l.yielded (map (λ f. f.piece) l.found.items);
  found : AreFound l.graph l.group l.found.items;
}
