-- Files in DOT as trees, by the grammar of the page "The DOT Language" of Graphviz: the tokens that spell each part,
-- and what it says. Statements of subgraphs stand in one list with those outside, between the opening and the closing
-- brace. The page is https://graphviz.org/doc/info/lang.html. Chosen here: there may be semicolons without a statement,
-- an attribute in a list without a value, an HTML text as a value alone, and no subgraph as the end of an edge.
use Rattle.std.specs.Prelude.{◌≡◌, ◌<◌, ℕ, ◌+◌, ◌-◌, Bool, true, false, List, [], ◌∷◌, ◌++◌}
use Rattle.ov_dot.specs.Tokens.{Lexeme}
use Rattle.ov_dot.specs.declared.token.Kind.{Kind}
use Rattle.ov_dot.specs.declared.token.Kind.TheVariants.{Strict, Graph, Digraph, Node, Edge, Subgraph, Bare}
use Rattle.ov_dot.specs.declared.token.Kind.TheVariants.{Quoted}
use Rattle.ov_dot.specs.declared.token.Kind.TheVariants.{Html, OpenBrace, CloseBrace, OpenBracket, CloseBracket}
use Rattle.ov_dot.specs.declared.token.Kind.TheVariants.{Semicolon, Comma, Equals, Colon, Line, Arrow}
use Rattle.ov_dot.specs.Sayings.{Said, nothing_said, with_edge}

-- where a token stands, and its bytes
pub record Spot : Type 0 where
  pub line : ℕ
  pub text : List ℕ

-- the token of a kind that stands there
abbrev pub token : Kind → Spot → Lexeme
token kind spot = record { line = spot.line; kind = kind; text = spot.text }

-- a name: an identifier or a numeral, or a quoted text
pub data NodeName : Type 0 where
  Word : (spot : Spot) → NodeName
  Text : (spot : Spot) → NodeName

-- the token of a name
abbrev pub named : NodeName → Lexeme
named (Word spot) = token Bare spot
named (Text spot) = token Quoted spot

-- the value of an attribute: a name, or an HTML text
pub data Value : Type 0 where
  NameValue : (name : NodeName) → Value
  HtmlValue : (html : Spot) → Value

-- the token of a value
abbrev pub valued : Value → Lexeme
valued (NameValue name) = named name
valued (HtmlValue html) = token Html html

-- what stands behind the name of an attribute in a list: nothing, or `=` and a value
pub data Setting : Type 0 where
  NoValue : Setting
  HasValue : (equals : Spot) (value : Value) → Setting

-- the tokens of `=` and a value, if there is one
abbrev pub spell_setting : Setting → List Lexeme
spell_setting NoValue = []
spell_setting (HasValue equals value) = token Equals equals ∷ valued value ∷ []

-- what ends an attribute: nothing, a comma or a semicolon
pub data Ending : Type 0 where
  NoEnding : Ending
  CommaEnding : (spot : Spot) → Ending
  SemicolonEnding : (spot : Spot) → Ending

-- the tokens of an ending
abbrev pub spell_ending : Ending → List Lexeme
spell_ending NoEnding = []
spell_ending (CommaEnding spot) = token Comma spot ∷ []
spell_ending (SemicolonEnding spot) = token Semicolon spot ∷ []

-- an attribute in a list
pub record Item : Type 0 where
  pub name : NodeName
  pub setting : Setting
  pub ending : Ending

-- the tokens of an attribute in a list
abbrev pub spell_item : Item → List Lexeme
spell_item item = named item.name ∷ (spell_setting item.setting ++ spell_ending item.ending)

-- the tokens of attributes, one behind the other
abbrev pub spell_items : List Item → List Lexeme
spell_items [] = []
spell_items (item ∷ items) = spell_item item ++ spell_items items

-- attributes in brackets
pub record Attributes : Type 0 where
  pub opening : Spot
  pub items : List Item
  pub closing : Spot

-- the tokens of attributes in brackets
abbrev pub spell_attributes : Attributes → List Lexeme
spell_attributes list =
    token OpenBracket list.opening ∷ (spell_items list.items ++ token CloseBracket list.closing ∷ [])

-- the tokens of lists of attributes, one behind the other
abbrev pub spell_lists : List Attributes → List Lexeme
spell_lists [] = []
spell_lists (list ∷ lists) = spell_attributes list ++ spell_lists lists

-- the port of a node, and its side
pub data Port : Type 0 where
  NoPort : Port
  AtPort : (colon : Spot) (port : NodeName) → Port
  AtSide : (colon : Spot) (port : NodeName) (second : Spot) (side : NodeName) → Port

-- the tokens of a port
abbrev pub spell_port : Port → List Lexeme
spell_port NoPort = []
spell_port (AtPort colon port) = token Colon colon ∷ named port ∷ []
spell_port (AtSide colon port second side) = token Colon colon ∷ named port ∷ token Colon second ∷ named side ∷ []

-- another end of an edge: `--` in a graph and `->` in a digraph, and a node
pub record End : Type 0 where
  pub edge : Spot
  pub name : NodeName
  pub port : Port

-- the kind of an edge's token: `->` in a digraph, `--` in a graph
abbrev pub edge_kind : Bool → Kind
edge_kind true = Arrow
edge_kind false = Line

-- the tokens of further ends of an edge
abbrev pub spell_ends : Bool → List End → List Lexeme
spell_ends directed [] = []
spell_ends directed (end ∷ ends) =
    token (edge_kind directed) end.edge ∷ named end.name ∷ (spell_port end.port ++ spell_ends directed ends)

-- whose attributes a statement gives: of the graph, of all nodes or of all edges
pub data Whose : Type 0 where
  OfGraph : Whose
  OfNodes : Whose
  OfEdges : Whose

-- the keyword for whose attributes these are
abbrev pub whose_kind : Whose → Kind
whose_kind OfGraph = Graph
whose_kind OfNodes = Node
whose_kind OfEdges = Edge

-- how a subgraph begins
pub data Title : Type 0 where
  NoTitle : Title
  Untitled : (subgraph : Spot) → Title
  Titled : (subgraph : Spot) (name : NodeName) → Title

-- the tokens with which a subgraph begins
abbrev pub spell_title : Title → List Lexeme
spell_title NoTitle = []
spell_title (Untitled subgraph) = token Subgraph subgraph ∷ []
spell_title (Titled subgraph name) = token Subgraph subgraph ∷ named name ∷ []

-- a statement, or a semicolon, or the beginning or the end of a subgraph. An assignment gives an attribute of the graph
-- itself its value
pub data Statement : Type 0 where
  Nothing : (semicolon : Spot) → Statement
  Chain : (first : NodeName) (port : Port) (ends : List End) (lists : List Attributes) → Statement
  Defaults : (whose : Whose) (spot : Spot) (list : Attributes) (lists : List Attributes) → Statement
  Assignment : (name : NodeName) (equals : Spot) (value : Value) → Statement
  Opening : (title : Title) (brace : Spot) → Statement
  Closing : (brace : Spot) → Statement

-- the tokens of a statement
abbrev pub spell_statement : Bool → Statement → List Lexeme
spell_statement directed (Nothing semicolon) = token Semicolon semicolon ∷ []
spell_statement directed (Chain first port ends lists) =
    named first ∷ (spell_port port ++ (spell_ends directed ends ++ spell_lists lists))
spell_statement directed (Defaults whose spot list lists) =
    token (whose_kind whose) spot ∷ (spell_attributes list ++ spell_lists lists)
spell_statement directed (Assignment name equals value) = named name ∷ token Equals equals ∷ valued value ∷ []
spell_statement directed (Opening title brace) = spell_title title ++ token OpenBrace brace ∷ []
spell_statement directed (Closing brace) = token CloseBrace brace ∷ []

-- the tokens of statements, one behind the other
abbrev pub spell_statements : Bool → List Statement → List Lexeme
spell_statements directed [] = []
spell_statements directed (statement ∷ statements) =
    spell_statement directed statement ++ spell_statements directed statements

-- each closing brace closes one that was opened, and in the end none of them is open, where so many are open before
abbrev pub IsBalanced : ℕ → List Statement → Type 0
IsBalanced depth [] = depth ≡ 0
IsBalanced depth (Opening title brace ∷ statements) = IsBalanced (depth + 1) statements
IsBalanced depth (Closing brace ∷ statements) = (0 < depth) × IsBalanced (depth - 1) statements
IsBalanced depth (Nothing semicolon ∷ statements) = IsBalanced depth statements
IsBalanced depth (Chain first port ends lists ∷ statements) = IsBalanced depth statements
IsBalanced depth (Defaults whose spot list lists ∷ statements) = IsBalanced depth statements
IsBalanced depth (Assignment name equals value ∷ statements) = IsBalanced depth statements

-- the name of a statement has an entry
abbrev pub with_entry : NodeName → Said → Said
with_entry name said = record { entries = said.entries ++ named name ∷ []; listings = said.listings }

-- the edges from one node to the next one
abbrev pub with_ends : Bool → NodeName → List End → Said → Said
with_ends directed from [] said = said
with_ends directed from (end ∷ ends) said =
    with_ends directed end.name ends (with_edge directed (named from) (named end.name) said)

-- what a statement says, behind what was said before it: a node has an entry, and then come its edges
abbrev pub with_statement : Bool → Statement → Said → Said
with_statement directed (Chain first port ends lists) said = with_ends directed first ends (with_entry first said)
with_statement directed (Nothing semicolon) said = said
with_statement directed (Defaults whose spot list lists) said = said
with_statement directed (Assignment name equals value) said = said
with_statement directed (Opening title brace) said = said
with_statement directed (Closing brace) said = said

-- what statements say, one after the other, behind what was said before them
abbrev pub with_statements : Bool → List Statement → Said → Said
with_statements directed [] said = said
with_statements directed (statement ∷ statements) said =
    with_statements directed statements (with_statement directed statement said)

-- whether a file begins with `strict`
pub data Strictness : Type 0 where
  Lax : Strictness
  IsStrict : (spot : Spot) → Strictness

-- the name of a graph, if it has one
pub data GraphName : Type 0 where
  Unnamed : GraphName
  IsNamed : (name : NodeName) → GraphName

-- a file: a graph or a digraph with its statements
pub record File : Type 0 where
  pub strictness : Strictness
  pub directed : Bool
  pub spot : Spot
  pub name : GraphName
  pub opening : Spot
  pub statements : List Statement
  pub closing : Spot

-- the tokens of `strict`
abbrev pub spell_strictness : Strictness → List Lexeme
spell_strictness Lax = []
spell_strictness (IsStrict spot) = token Strict spot ∷ []

-- the tokens of the name of a graph
abbrev pub spell_name : GraphName → List Lexeme
spell_name Unnamed = []
spell_name (IsNamed name) = named name ∷ []

-- the keyword of a graph, or of a digraph
abbrev pub graph_kind : Bool → Kind
graph_kind true = Digraph
graph_kind false = Graph

-- the tokens of a file
abbrev pub spell_file : File → List Lexeme
spell_file file =
    spell_strictness file.strictness
    ++ (token (graph_kind file.directed) file.spot
    ∷ (spell_name file.name
    ++ (token OpenBrace file.opening ∷
    (spell_statements file.directed file.statements ++ token CloseBrace file.closing ∷ []))))

-- what a file says
abbrev pub said_by : File → Said
said_by file = with_statements file.directed file.statements nothing_said

-- the tokens are those of the file, and its braces are balanced
pub record Spells (file : File) (tokens : List Lexeme) : Type 0 where
  pub balanced : IsBalanced 0 file.statements
  pub spelled : spell_file file ≡ tokens

-- the tokens are those of a file
abbrev pub AreFile : List Lexeme → Type 0
AreFile tokens = (file : File) × Spells file tokens

-- some file begins with these tokens
pub record BeginFile (tokens : List Lexeme) : Type 0 where
  pub file : File
  pub rest : List Lexeme
  pub spells : Spells file (tokens ++ rest)
