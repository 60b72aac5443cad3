-- The tokens that are left of a text.
use Rattle.std.specs.Prelude.{ℕ, List}
use Rattle.json.specs.Token.{Token}
use Rattle.json.specs.Lex.{fresh, after_value, after_comma, between, lex, punctuate}
use Rattle.json.specs.Lex as lexer
use Rattle.ov_tokens.specs.declared.token_cursor.CursorPlace.{CursorPlace}
use Rattle.ov_tokens.specs.declared.token_cursor.CursorPlace.TheVariants.{Fresh, AfterValue, AfterComma}

-- where a cursor stands among commas and colons
abbrev pub place_in : CursorPlace → lexer.Place
place_in Fresh = fresh
place_in AfterValue = after_value
place_in AfterComma = after_comma

-- the tokens of a text that is left
abbrev pub tokens_at : CursorPlace → List ℕ → List Token
tokens_at place text = punctuate (place_in place) (lex between text)
