-- The tokens of a DOT text, and the lines in which they stand.
use Rattle.std.specs.Prelude.{◌≡◌, ℕ, ◌+◌, ◌<◌, Bool, true, false, ◌==◌, ◌||◌, nat_eq, List, [], ◌∷◌, ◌++◌, map, codes}
use Rattle.std.specs.Prelude.{Option, Some, None}
use Rattle.std.specs.Prelude.{length, if◌then◌else◌}
use Rattle.std.specs.Cmp.Lexicographic.{pointwise}
use Rattle.std.specs.Char.{to_ascii_lowercase}
use Rattle.ov_dot.specs.declared.token.Kind.{Kind}
use Rattle.ov_dot.specs.declared.token.Kind.TheVariants.{Strict, Graph, Digraph, Node, Edge, Subgraph, Bare}
use Rattle.ov_dot.specs.declared.token.Kind.TheVariants.{Quoted, Html, OpenBrace, CloseBrace, OpenBracket}
use Rattle.ov_dot.specs.declared.token.Kind.TheVariants.{CloseBracket, Semicolon, Comma, Equals, Colon, Line}
use Rattle.ov_dot.specs.declared.token.Kind.TheVariants.{Arrow}
use Rattle.ov_dot.specs.declared.token.Token.{Token}
use Rattle.ov_dot.specs.Parts.{line_feed, is_blank, IsCut, HasNoPrefix, is_part}

-- a token without where it lies in memory: the line where it begins, its kind, and its bytes
pub record Lexeme : Type 0 where
  pub line : ℕ
  pub kind : Kind
  pub text : List ℕ

-- what a token of the code says
abbrev pub lexeme : Token → Lexeme
lexeme t = record { line = t.line; kind = t.kind; text = t.text.now }

-- what tokens of the code say
abbrev pub lexemes : List Token → List Lexeme
lexemes ts = map lexeme ts

-- a word is this keyword, in any case
abbrev pub is_keyword : List ℕ → List ℕ → Bool
is_keyword keyword word = pointwise nat_eq (map to_ascii_lowercase word) keyword

-- an identifier is a keyword, or else a bare text
abbrev pub word_kind : List ℕ → Kind
word_kind word =
    if is_keyword (codes "node") word then Node
    else (if is_keyword (codes "edge") word then Edge
    else (if is_keyword (codes "graph") word then Graph
    else (if is_keyword (codes "digraph") word then Digraph
    else (if is_keyword (codes "subgraph") word then Subgraph
    else (if is_keyword (codes "strict") word then Strict
    else Bare)))))

-- the kind of a token behind `-`: one of `--` and `->`, or a numeral, which is a bare text
abbrev pub dash_kind : List ℕ → Kind
dash_kind [] = Bare
dash_kind (b ∷ bs) = if b == 45 then Line else (if b == 62 then Arrow else Bare)

-- the kind of the token that a part is; None if it stands between tokens, as white space and comments do
abbrev pub kind_of : List ℕ → Option Kind
kind_of [] = None
kind_of (b ∷ bs) =
    if is_blank b || (b == line_feed || b == 47) then None
    else (if b == 123 then Some OpenBrace
    else (if b == 125 then Some CloseBrace
    else (if b == 91 then Some OpenBracket
    else (if b == 93 then Some CloseBracket
    else (if b == 59 then Some Semicolon
    else (if b == 44 then Some Comma
    else (if b == 61 then Some Equals
    else (if b == 58 then Some Colon
    else (if b == 34 then Some Quoted
    else (if b == 60 then Some Html
    else (if b == 45 then Some (dash_kind bs)
    else Some (word_kind (b ∷ bs)))))))))))))

-- a part is a word or a numeral, by what kind of token it is: a keyword, or a bare text
abbrev pub is_word : Option Kind → Bool
is_word (Some Strict) = true
is_word (Some Graph) = true
is_word (Some Digraph) = true
is_word (Some Node) = true
is_word (Some Edge) = true
is_word (Some Subgraph) = true
is_word (Some Bare) = true
is_word kind = false

-- a part that can't stand right behind a word or a numeral, by what kind of token it is: it is one too, or a colon
abbrev pub sticks : Option Kind → Bool
sticks (Some Colon) = true
sticks kind = is_word kind

-- how many line feeds these bytes have
abbrev pub feeds : List ℕ → ℕ
feeds [] = 0
feeds (b ∷ bs) = if b == line_feed then 1 + feeds bs else feeds bs

-- the token that a part is, in a line
abbrev pub token_at : ℕ → List ℕ → Option Kind → List Lexeme
token_at line part None = []
token_at line part (Some kind) = record { line = line; kind = kind; text = part } ∷ []

-- the tokens among parts, of which the first begins in this line
unfoldable pub tokens_from : ℕ → List (List ℕ) → List Lexeme
tokens_from line [] = []
tokens_from line (part ∷ parts) = token_at line part (kind_of part) ++ tokens_from (line + feeds part) parts

-- the line behind parts, of which the first begins in this line
unfoldable pub line_behind : ℕ → List (List ℕ) → ℕ
line_behind line [] = line
line_behind line (part ∷ parts) = line_behind (line + feeds part) parts

-- a text as it is cut: behind a line feed in line 0. So its lines are counted from 1, and a `#` in front begins a line
abbrev pub behind_feed : List ℕ → List ℕ
behind_feed text = line_feed ∷ text

-- two neighbouring parts are torn: the first is a word or a numeral, and with nothing between them another one
-- follows, or a colon. So `10.0.0.1` is cut into the three numerals `10.0`, `.0` and `.1`, `oslo-1` into `oslo` and
-- `-1`, and `oslo:7946` into `oslo`, `:` and `7946`, of which DOT takes the last for a port of a node `oslo`
abbrev pub AreTorn : List ℕ → List ℕ → Type 0
AreTorn first second = (is_word (kind_of first) ≡ true) × (sticks (kind_of second) ≡ true)

-- no two neighbours among these parts are torn
abbrev pub HasNoneTorn : List (List ℕ) → Type 0
HasNoneTorn parts =
    (before : List (List ℕ)) (first second : List ℕ) (later : List (List ℕ))
    → parts ≡ before ++ first ∷ second ∷ later → ¬ AreTorn first second

-- a text has these tokens: it is cut into parts, each as long as it can be, no two of them are torn, and these are the
-- tokens among them
abbrev pub HasTokens : List ℕ → List Lexeme → Type 0
HasTokens text tokens =
    (parts : List (List ℕ)) × IsCut parts (behind_feed text) [] × HasNoneTorn parts
    × (tokens ≡ tokens_from 0 parts)

-- a text has no tokens from this line on: behind its first parts, of which no two are torn, some bytes are left, in
-- this line, and no prefix of them is a part
abbrev pub HasNoTokensFrom : List ℕ → ℕ → Type 0
HasNoTokensFrom text line =
    (parts : List (List ℕ)) × (rest : List ℕ)
    × IsCut parts (behind_feed text) rest × (0 < length rest) × HasNoPrefix is_part rest × HasNoneTorn parts
    × (line ≡ line_behind 0 parts)

-- a text has a torn name, which goes on in this line: its first parts end with two that are torn, and no two before are
pub record HasTornName (text : List ℕ) (line : ℕ) : Type 0 where
  pub before : List (List ℕ)
  pub first : List ℕ
  pub second : List ℕ
  pub rest : List ℕ
  pub cut : IsCut (before ++ first ∷ second ∷ []) (behind_feed text) rest
  pub none_before : HasNoneTorn (before ++ first ∷ [])
  pub torn : AreTorn first second
  pub is_line : line ≡ line_behind 0 (before ++ first ∷ [])
