-- what is left decides, and no more braces are open than tokens were read
use Rattle.std.proofs.Common.{◌≡◌, ◌≤◌, drop, Ok}
use Rattle.ov_dot.specs.Tokens.{lexemes}
use Rattle.ov_dot.specs.Code.Statements.{read_on, statements_of}
use Rattle.ov_dot.specs.Code.Seen.{reading, said_in}
use Rattle.ov_dot.proofs.statement_reading.read_all.Given as goal

abbrev pub invariant-loop-token : goal.invariant-loop-token
invariant-loop-token l =
    record {
      left :
          read_on (Ok (reading l.reader)) (said_in l.said) (lexemes (drop l.token-index l.tokens))
          ≡ statements_of (lexemes l.tokens);
      shallow : l.reader.depth ≤ l.token-index;
    }
