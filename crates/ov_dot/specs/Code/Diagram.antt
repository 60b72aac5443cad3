-- The grammar of DOT as a diagram: at each place of a file, which kinds of tokens may come next, and where they lead.
-- A file is a way through the diagram from its beginning to its last brace. That the grammar has the same files is
-- proved.
use Rattle.std.specs.Prelude.{Option, Some, None}
use Rattle.ov_dot.specs.declared.token.Kind.{Kind}
use Rattle.ov_dot.specs.declared.token.Kind.TheVariants.{Strict, Graph, Digraph, Node, Edge, Subgraph, Bare}
use Rattle.ov_dot.specs.declared.token.Kind.TheVariants.{Quoted}
use Rattle.ov_dot.specs.declared.token.Kind.TheVariants.{Html, OpenBrace, CloseBrace, OpenBracket, CloseBracket}
use Rattle.ov_dot.specs.declared.token.Kind.TheVariants.{Semicolon, Comma, Equals, Colon, Line, Arrow}
use Rattle.ov_dot.specs.declared.grammar_state.GrammarPlace.{GrammarPlace}
use Rattle.ov_dot.specs.declared.grammar_state.GrammarPlace.TheVariants.{Beginning, BehindStrict, BehindKind, BehindTitle}
use Rattle.ov_dot.specs.declared.grammar_state.GrammarPlace.TheVariants.{Body, Named}
use Rattle.ov_dot.specs.declared.grammar_state.GrammarPlace.TheVariants.{Member, PortNext, Ported, CompassNext, Directed}
use Rattle.ov_dot.specs.declared.grammar_state.GrammarPlace.TheVariants.{EndNext}
use Rattle.ov_dot.specs.declared.grammar_state.GrammarPlace.TheVariants.{ListNext, InList, Attribute, ValueNext, Valued}
use Rattle.ov_dot.specs.declared.grammar_state.GrammarPlace.TheVariants.{Listed}
use Rattle.ov_dot.specs.declared.grammar_state.GrammarPlace.TheVariants.{AssignedNext}
use Rattle.ov_dot.specs.declared.grammar_state.GrammarPlace.TheVariants.{SubgraphNext, SubgraphTitled, Over}

-- a name is an identifier that is no keyword, a numeral or a quoted text; it leads here
abbrev pub name_to : GrammarPlace → Kind → Option GrammarPlace
name_to place Bare = Some place
name_to place Quoted = Some place
name_to place kind = None

-- [ strict ] (graph | digraph) [ name ] '{' statements '}'
abbrev pub heading : Kind → Option GrammarPlace
heading Graph = Some BehindKind
heading Digraph = Some BehindKind
heading kind = None

-- '{', and then statements
abbrev pub opening : Kind → Option GrammarPlace
opening OpenBrace = Some Body
opening kind = None

-- [ name ] '{', and then statements; the name leads here
abbrev pub title_to : GrammarPlace → Kind → Option GrammarPlace
title_to place OpenBrace = Some Body
title_to place kind = name_to place kind

-- a statement: a node or an edge; attributes of all graphs, nodes or edges; a subgraph. Or the end of a statement or of
-- a subgraph
abbrev pub statement : Kind → Option GrammarPlace
statement Graph = Some ListNext
statement Node = Some ListNext
statement Edge = Some ListNext
statement Subgraph = Some SubgraphNext
statement OpenBrace = Some Body
statement CloseBrace = Some Body
statement Semicolon = Some Body
statement kind = name_to Named kind

-- '[' of a list of attributes
abbrev pub list_opening : Kind → Option GrammarPlace
list_opening OpenBracket = Some InList
list_opening kind = None

-- behind a list of attributes: another one, or a statement
abbrev pub behind_list : Kind → Option GrammarPlace
behind_list OpenBracket = Some InList
behind_list kind = statement kind

-- behind a node: an edge from it; a list of attributes; a statement
abbrev pub behind_node : Kind → Option GrammarPlace
behind_node Line = Some EndNext
behind_node Arrow = Some EndNext
behind_node kind = behind_list kind

-- behind a node without a port: a port; or as behind each node
abbrev pub behind_name : Kind → Option GrammarPlace
behind_name Colon = Some PortNext
behind_name kind = behind_node kind

-- behind the name with which a statement begins: an assignment; or as behind each node
abbrev pub behind_first : Kind → Option GrammarPlace
behind_first Equals = Some AssignedNext
behind_first kind = behind_name kind

-- behind a node and its port: the side of the port; or as behind each node
abbrev pub behind_port : Kind → Option GrammarPlace
behind_port Colon = Some CompassNext
behind_port kind = behind_node kind

-- an attribute, or the end of their list
abbrev pub attribute : Kind → Option GrammarPlace
attribute CloseBracket = Some Listed
attribute kind = name_to Attribute kind

-- behind an attribute: a comma or a semicolon, or none, and then as where one begins
abbrev pub behind_value : Kind → Option GrammarPlace
behind_value Comma = Some InList
behind_value Semicolon = Some InList
behind_value kind = attribute kind

-- behind the name of an attribute: its value, or none
abbrev pub behind_attribute : Kind → Option GrammarPlace
behind_attribute Equals = Some ValueNext
behind_attribute kind = behind_value kind

-- a value: a name or an HTML text; it leads here
abbrev pub value_to : GrammarPlace → Kind → Option GrammarPlace
value_to place Html = Some place
value_to place kind = name_to place kind

-- strict, or a heading
abbrev pub beginning : Kind → Option GrammarPlace
beginning Strict = Some BehindStrict
beginning kind = heading kind

-- the place behind one token more
abbrev pub follows : GrammarPlace → Kind → Option GrammarPlace
follows Beginning kind = beginning kind
follows BehindStrict kind = heading kind
follows BehindKind kind = title_to BehindTitle kind
follows BehindTitle kind = opening kind
follows Body kind = statement kind
follows Named kind = behind_first kind
follows Member kind = behind_name kind
follows PortNext kind = name_to Ported kind
follows Ported kind = behind_port kind
follows CompassNext kind = name_to Directed kind
follows Directed kind = behind_node kind
follows EndNext kind = name_to Member kind
follows ListNext kind = list_opening kind
follows InList kind = attribute kind
follows Attribute kind = behind_attribute kind
follows ValueNext kind = value_to Valued kind
follows Valued kind = behind_value kind
follows Listed kind = behind_list kind
follows AssignedNext kind = value_to Body kind
follows SubgraphNext kind = title_to SubgraphTitled kind
follows SubgraphTitled kind = opening kind
follows Over kind = None
