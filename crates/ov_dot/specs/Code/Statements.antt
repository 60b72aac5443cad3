-- How the code reads a DOT file: by the diagram, token by token. That what is read so are the files of the grammar is
-- proved.
use Rattle.std.specs.Prelude.{ℕ, ◌+◌, ◌-◌, Bool, true, false, not, nat_le, List, [], ◌∷◌, ◌++◌, Option, Some}
use Rattle.std.specs.Prelude.{None, Result, Ok, Err}
use Rattle.std.specs.Prelude.{if◌then◌else◌}
use Rattle.ov_dot.specs.Tokens.{Lexeme}
use Rattle.ov_dot.specs.declared.token.Kind.{Kind}
use Rattle.ov_dot.specs.declared.token.Kind.TheVariants.{Digraph, OpenBrace, CloseBrace, Equals, Line, Arrow}
use Rattle.ov_dot.specs.declared.grammar_state.GrammarPlace.{GrammarPlace}
use Rattle.ov_dot.specs.declared.grammar_state.GrammarPlace.TheVariants.{Beginning, Named, Member, EndNext, Over}
use Rattle.ov_dot.specs.declared.fault.DotFault.{DotFault}
use Rattle.ov_dot.specs.declared.fault.DotFault.TheVariants.{UnreadLine}
use Rattle.ov_dot.specs.declared.fault.Why.TheVariants.{WrongEdge, Unclosed}
use Rattle.ov_dot.specs.Code.Diagram.{follows}
use Rattle.ov_dot.specs.Code.PlaceReasons.{why_not}
use Rattle.ov_dot.specs.Sayings.{Said, nothing_said, with_edge}

-- how far a file was read
pub record Reading : Type 0 where
  -- it is a digraph
  pub directed : Bool
  -- how many braces are open
  pub depth : ℕ
  -- the place in the diagram
  pub place : GrammarPlace
  -- the last name of a node; before the first one, the first token
  pub name : Lexeme
  -- the line of the last token
  pub line : ℕ

-- at the beginning of the text, before its first token
abbrev pub at_beginning : Lexeme → Reading
at_beginning first = record { directed = false; depth = 0; place = Beginning; name = first; line = 1 }

-- the kind of graph, behind one token more
abbrev pub directed_behind : Bool → Kind → Bool
directed_behind directed Digraph = true
directed_behind directed kind = directed

-- how many braces are open, behind one token more
abbrev pub depth_behind : ℕ → Kind → ℕ
depth_behind depth OpenBrace = depth + 1
depth_behind depth CloseBrace = depth - 1
depth_behind depth kind = depth

-- the place behind one token more, where the diagram leads to this place: the brace that closes the first one ends the
-- file
abbrev pub place_behind : ℕ → Kind → GrammarPlace → GrammarPlace
place_behind depth CloseBrace place = if nat_le depth 1 then Over else place
place_behind depth kind place = place

-- a token at this place is the name of a node
abbrev pub name_behind : GrammarPlace → Lexeme → Lexeme → Lexeme
name_behind Named name token = token
name_behind Member name token = token
name_behind place name token = name

-- an edge of the other kind of graph
abbrev pub is_wrong_edge : Bool → Kind → Bool
is_wrong_edge directed Line = directed
is_wrong_edge directed Arrow = not directed
is_wrong_edge directed kind = false

-- behind one token more, where the diagram leads to this place
abbrev pub moved : Reading → Lexeme → GrammarPlace → Reading
moved r t place = record {
  directed = directed_behind r.directed t.kind;
  depth = depth_behind r.depth t.kind;
  place = place_behind r.depth t.kind place;
  name = name_behind place r.name t;
  line = t.line;
}

-- one token more, where the diagram leads to a place, or nowhere
abbrev pub step_to : Reading → Lexeme → Option GrammarPlace → Result Reading DotFault
step_to r t None = Err (UnreadLine t.line (why_not r.place t.kind))
step_to r t (Some place) =
    if is_wrong_edge r.directed t.kind then Err (UnreadLine t.line WrongEdge) else Ok (moved r t place)

-- one token more
abbrev pub step : Reading → Lexeme → Result Reading DotFault
step r t = step_to r t (follows r.place t.kind)

-- the name with which a statement begins is that of a node, and has an entry, unless `=` follows it
abbrev pub with_first : Lexeme → Kind → Said → Said
with_first name Equals said = said
with_first name kind said = record { entries = said.entries ++ name ∷ []; listings = said.listings }

-- what was said, and what one token more says at a place: that the last name is one of a node, or an edge to this token
abbrev pub said_at : Bool → GrammarPlace → Lexeme → Lexeme → Said → Said
said_at directed Named name t said = with_first name t.kind said
said_at directed EndNext name t said = with_edge directed name t said
said_at directed place name t said = said

-- what was said, and what one token more says
abbrev pub said_behind : Reading → Lexeme → Said → Said
said_behind r t said = said_at r.directed r.place r.name t said

-- the text ends: behind its last brace, with what was said, or before it
abbrev pub ended : Reading → GrammarPlace → Said → Result Said DotFault
ended r Over said = Ok said
ended r place said = Err (UnreadLine r.line Unclosed)

-- what these tokens say behind what was said before, or the first of them that can't stand where it does
unfoldable pub read_on : Result Reading DotFault → Said → List Lexeme → Result Said DotFault
read_on (Err fault) said ts = Err fault
read_on (Ok r) said [] = ended r r.place said
read_on (Ok r) said (t ∷ ts) = read_on (step r t) (said_behind r t said) ts

-- what the tokens of a file say, or why they are no file in DOT; without a token the text ends in line 1
abbrev pub statements_of : List Lexeme → Result Said DotFault
statements_of [] = Err (UnreadLine 1 Unclosed)
statements_of (t ∷ ts) = read_on (Ok (at_beginning t)) nothing_said (t ∷ ts)
