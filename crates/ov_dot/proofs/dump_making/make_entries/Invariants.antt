-- what is left decides, and the names seen are those that have an entry
use Rattle.std.proofs.Common.{◌≡◌, [], drop, string_bytes, String, Global}
use Rattle.std.specs.Prelude.{string_cmp}
use Rattle.std.specs.BTreeSet.{contains}
use Rattle.ov_dot.specs.Tokens.{lexemes}
use Rattle.ov_dot.specs.Code.Entered.{entries_with, has_entry}
use Rattle.ov_dot.proofs.dump_making.make_entries.Given as goal

abbrev pub invariant-loop-token : goal.invariant-loop-token
invariant-loop-token l =
    record {
      left : entries_with l.entries.items (lexemes (drop l.token-index l.names)) ≡ entries_with [] (lexemes l.names);
      seen : (q : String Global) → contains string_cmp l.seen q ≡ has_entry (string_bytes q) l.entries.items;
    }
