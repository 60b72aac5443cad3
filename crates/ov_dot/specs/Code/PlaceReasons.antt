-- Why a token can't stand at a place of the diagram.
use Rattle.ov_dot.specs.declared.token.Kind.{Kind}
use Rattle.ov_dot.specs.declared.token.Kind.TheVariants.{Subgraph, Html, OpenBrace, Line, Arrow}
use Rattle.ov_dot.specs.declared.grammar_state.GrammarPlace.{GrammarPlace}
use Rattle.ov_dot.specs.declared.grammar_state.GrammarPlace.TheVariants.{Beginning, BehindStrict, BehindKind, BehindTitle}
use Rattle.ov_dot.specs.declared.grammar_state.GrammarPlace.TheVariants.{Body, Named}
use Rattle.ov_dot.specs.declared.grammar_state.GrammarPlace.TheVariants.{Member, PortNext, Ported, CompassNext, Directed}
use Rattle.ov_dot.specs.declared.grammar_state.GrammarPlace.TheVariants.{EndNext}
use Rattle.ov_dot.specs.declared.grammar_state.GrammarPlace.TheVariants.{ListNext, InList, Attribute, ValueNext, Valued}
use Rattle.ov_dot.specs.declared.grammar_state.GrammarPlace.TheVariants.{Listed}
use Rattle.ov_dot.specs.declared.grammar_state.GrammarPlace.TheVariants.{AssignedNext}
use Rattle.ov_dot.specs.declared.grammar_state.GrammarPlace.TheVariants.{SubgraphNext, SubgraphTitled, Over}
use Rattle.ov_dot.specs.declared.fault.Why.{Why}
use Rattle.ov_dot.specs.declared.fault.Why.TheVariants.{NoGraph, NoBrace, NoName, NoStatement, BadAttributes}
use Rattle.ov_dot.specs.declared.fault.Why.TheVariants.{SubgraphAsEnd}
use Rattle.ov_dot.specs.declared.fault.Why.TheVariants.{HtmlText, BehindGraph}

-- what was wanted at a place
abbrev pub lacking : GrammarPlace → Why
lacking Beginning = NoGraph
lacking BehindStrict = NoGraph
lacking BehindKind = NoBrace
lacking BehindTitle = NoBrace
lacking SubgraphNext = NoBrace
lacking SubgraphTitled = NoBrace
lacking PortNext = NoName
lacking CompassNext = NoName
lacking EndNext = NoName
lacking AssignedNext = BadAttributes
lacking ListNext = BadAttributes
lacking InList = BadAttributes
lacking Attribute = BadAttributes
lacking ValueNext = BadAttributes
lacking Valued = BadAttributes
lacking Body = NoStatement
lacking Named = NoStatement
lacking Member = NoStatement
lacking Ported = NoStatement
lacking Directed = NoStatement
lacking Listed = NoStatement
lacking Over = BehindGraph

-- at the end of an edge a subgraph stands, or an HTML text, or else no name
abbrev pub no_end : Kind → Why
no_end Subgraph = SubgraphAsEnd
no_end OpenBrace = SubgraphAsEnd
no_end Html = HtmlText
no_end kind = NoName

-- where a statement may begin, an edge begins behind a subgraph, or an HTML text stands, or else something that is none
abbrev pub no_statement : Kind → Why
no_statement Line = SubgraphAsEnd
no_statement Arrow = SubgraphAsEnd
no_statement Html = HtmlText
no_statement kind = NoStatement

-- elsewhere an HTML text stands, or else not what was wanted
abbrev pub not_wanted : Why → Kind → Why
not_wanted why Html = HtmlText
not_wanted why kind = why

-- why a token of this kind can't stand at a place
abbrev pub why_not : GrammarPlace → Kind → Why
why_not EndNext kind = no_end kind
why_not Body kind = no_statement kind
why_not Over kind = BehindGraph
why_not place kind = not_wanted (lacking place) kind
