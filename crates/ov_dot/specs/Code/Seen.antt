-- Values of the code, without where they lie in memory.
use Rattle.std.specs.Prelude.{◌≡◌, List, map, Result, Ok, Err}
use Rattle.std.specs.Str.{IsUtf8}
use Rattle.ov_ids.specs.Members.{Has}
use Rattle.ov_dot.specs.Tokens.{Lexeme, lexeme, lexemes}
use Rattle.ov_dot.specs.declared.fault.DotFault.{DotFault}
use Rattle.ov_dot.specs.declared.fault.DotFault.TheVariants.{UnreadLine, OutOfMemory}
use Rattle.ov_dot.specs.declared.statement_reading.Reader.{Reader}
use Rattle.ov_dot.specs.declared.statement_reading.Link.{Link}
use Rattle.ov_dot.specs.declared.statement_reading.Statements.{Statements}
use Rattle.ov_dot.specs.declared.fault.Why.TheVariants.{NotUtf8}
use Rattle.ov_dot.specs.Names.{text_of}
use Rattle.ov_dot.specs.Sayings.{Said}
use Rattle.ov_dot.specs.Code.Statements.{Reading}
use Rattle.ov_dot.specs.Dumps.{HasBadName}

-- how far the code has read
abbrev pub reading : Reader → Reading
reading r = record {
  directed = r.directed;
  depth = r.depth;
  place = r.place;
  name = lexeme r.name;
  line = r.line;
}

-- the two ends of a listing
abbrev pub ends : Link → Lexeme × Lexeme
ends link = (lexeme link.from, lexeme link.to)

-- what statements say
abbrev pub said_in : Statements → Said
said_in s = record { entries = lexemes s.entries.items; listings = map ends s.listings.items }

-- what a function returned, seen by `view`, is what reading gives, unless memory ran out
abbrev pub Fails : {Y : Type 0} → DotFault → Result Y DotFault → Type 0
Fails OutOfMemory read = Unit {0}
Fails (UnreadLine line why) read = read ≡ Err (UnreadLine line why)

abbrev pub Gives : {X Y : Type 0} → (X → Y) → Result X DotFault → Result Y DotFault → Type 0
Gives view (Ok x) read = read ≡ Ok (view x)
Gives view (Err e) read = Fails e read

-- what a name that can't be read is refused for: it is not in UTF-8, or memory ran out
abbrev pub IsBadName : Lexeme → DotFault → Type 0
IsBadName t (UnreadLine line why) = (line ≡ t.line) × (why ≡ NotUtf8) × ¬ IsUtf8 (text_of t)
IsBadName t OutOfMemory = Unit {0}

-- why names can't be read: one of them is not in UTF-8, or memory ran out
abbrev pub AreBadNames : List Lexeme → DotFault → Type 0
AreBadNames ts (UnreadLine line why) =
    (why ≡ NotUtf8) × (t : Lexeme) × Has ts t × (line ≡ t.line) × ¬ IsUtf8 (text_of t)
AreBadNames ts OutOfMemory = Unit {0}

-- why no dump can be made of what was said
abbrev pub IsNameless : Said → DotFault → Type 0
IsNameless said (UnreadLine line why) = (why ≡ NotUtf8) × HasBadName said line
IsNameless said OutOfMemory = Unit {0}
