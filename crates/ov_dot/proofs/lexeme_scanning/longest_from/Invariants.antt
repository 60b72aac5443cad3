-- what is left decides, and no more HTML brackets are open than bytes were read
use Rattle.std.proofs.Common.{◌≡◌, ◌≤◌, Some, None, drop}
use Rattle.ov_dot.specs.Code.Scanning.{longest_from, open_at}
use Rattle.ov_dot.proofs.lexeme_scanning.longest_from.Given as goal

abbrev pub invariant-loop-index : goal.invariant-loop-index
invariant-loop-index l =
    record {
      left :
          longest_from l.index (Some l.place) (drop l.index l.text) l.longest
          ≡ longest_from 0 (Some l.fn.start) l.text None;
      shallow : open_at l.place ≤ l.index;
    }
