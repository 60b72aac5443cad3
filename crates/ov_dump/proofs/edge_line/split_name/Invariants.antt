-- the name so far, and what is left
use Rattle.std.proofs.Common.{◌≡◌, ◌++◌, drop, take}
use Rattle.ov_dump.specs.EdgeLines.{is_name_byte}
use Rattle.ov_dump.specs.Code.Reading.{behind, front_of}
use Rattle.ov_dump.proofs.edge_line.split_name.Given as goal

abbrev pub invariant-loop-i : goal.invariant-loop-i
invariant-loop-i l = record {
  front : front_of is_name_byte l.text ≡ take l.i l.text ++ front_of is_name_byte (drop l.i l.text);
  back : behind is_name_byte l.text ≡ behind is_name_byte (drop l.i l.text);
}
