-- What is read of a DOT text: a dump, or why there is none.
use Rattle.std.specs.Prelude.{◌≡◌, ℕ, List, [], ◌∷◌, ◌++◌, ◌⊎◌}
use Rattle.ov_dump.specs.declared.dump_and_graph_types.Dump.{Dump}
use Rattle.ov_dot.specs.Tokens.{Lexeme, HasTokens, HasNoTokensFrom, HasTornName}
use Rattle.ov_dot.specs.declared.fault.DotFault.{DotFault}
use Rattle.ov_dot.specs.declared.fault.DotFault.TheVariants.{UnreadLine, OutOfMemory}
use Rattle.ov_dot.specs.declared.fault.Why.{Why}
use Rattle.ov_dot.specs.declared.fault.Why.TheVariants.{NoToken, TornName, NotUtf8, Unclosed}
use Rattle.ov_dot.specs.Dumps.{IsDumpOf, HasBadName}
use Rattle.ov_dot.specs.Grammar.{AreFile, BeginFile, File, Spells, said_by}
use Rattle.ov_dot.specs.Reasons.{IsReason}

-- the text has tokens, and they are those of a file of the grammar
pub record IsTextOf (file : File) (text : List ℕ) : Type 0 where
  pub tokens : List Lexeme
  pub are_tokens : HasTokens text tokens
  pub spells : Spells file tokens

-- the text is a file in DOT, and its statements say this dump
pub record SaysDump (text : List ℕ) (dump : Dump) : Type 0 where
  pub file : File
  pub is_text : IsTextOf file text
  pub is_dump : IsDumpOf (said_by file) dump

-- the text has no tokens from this line on
pub record LacksToken (text : List ℕ) (line : ℕ) : Type 0 where
  pub tokenless : HasNoTokensFrom text line

-- a file begins with the tokens before one in this line, and no file goes on with this one, for this reason
pub record HasMisplaced (tokens : List Lexeme) (line : ℕ) (why : Why) : Type 0 where
  pub before : List Lexeme
  pub misplaced : Lexeme
  pub later : List Lexeme
  pub parts : tokens ≡ before ++ misplaced ∷ later
  pub begin : BeginFile before
  pub no_further : ¬ BeginFile (before ++ misplaced ∷ [])
  pub is_line : line ≡ misplaced.line
  pub reason : IsReason before misplaced.kind why

-- the line of the last of these tokens; without one this line
abbrev pub last_line : ℕ → List Lexeme → ℕ
last_line line [] = line
last_line line (t ∷ ts) = last_line t.line ts

-- a file begins with all these tokens, and the last of them is in this line; without one it is line 1
pub record EndEarly (tokens : List Lexeme) (line : ℕ) (why : Why) : Type 0 where
  pub begin : BeginFile tokens
  pub is_line : line ≡ last_line 1 tokens
  pub reason : why ≡ Unclosed

-- the text has tokens, and they are no file: one of them can't stand where it does, or they end too early
pub record LacksStatement (text : List ℕ) (line : ℕ) (why : Why) : Type 0 where
  pub tokens : List Lexeme
  pub are_tokens : HasTokens text tokens
  pub no_file : ¬ AreFile tokens
  pub in_line : HasMisplaced tokens line why ⊎ EndEarly tokens line why

-- the text is a file in DOT, and a name in this line is not in UTF-8
pub record LacksName (text : List ℕ) (line : ℕ) : Type 0 where
  pub file : File
  pub is_text : IsTextOf file text
  pub bad : HasBadName (said_by file) line

-- why there is no dump; out of memory says nothing of the text
abbrev pub IsRefused : List ℕ → DotFault → Type 0
IsRefused text (UnreadLine line why) =
    ((why ≡ NoToken) × LacksToken text line)
    ⊎ (((why ≡ TornName) × HasTornName text line)
    ⊎ (LacksStatement text line why
    ⊎ ((why ≡ NotUtf8) × LacksName text line)))
IsRefused text OutOfMemory = Unit {0}
