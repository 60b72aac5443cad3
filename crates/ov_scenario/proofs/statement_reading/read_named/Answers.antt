-- A name that is too short is none.
use Rattle.std.proofs.Common.{arith, refl}
use Rattle.ov_lines.specs.Lines.{words_of}
use Rattle.ov_scenario.specs.Statements.{line_rows}
use Rattle.ov_scenario.proofs.Lines.Short.{unnamed}
use Rattle.ov_scenario.proofs.statement_reading.read_named.Goals as goal

pub returns-then-name-lt-SHORTEST_NAME : goal.returns-then-name-lt-SHORTEST_NAME
returns-then-name-lt-SHORTEST_NAME c =
    let text = c.args.cursor.now in
    unnamed c.args.name.now (line_rows text (words_of text)) (omega (arith, c.if-name-lt-SHORTEST_NAME.true)) refl
