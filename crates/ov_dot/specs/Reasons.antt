-- Why tokens are no file in DOT, where a file begins with those before: by what may come there, and what came.
use Rattle.std.specs.Prelude.{◌≡◌, ◌⊎◌, List, [], ◌∷◌, ◌++◌}
use Rattle.ov_dot.specs.Tokens.{Lexeme}
use Rattle.ov_dot.specs.declared.token.Kind.{Kind}
use Rattle.ov_dot.specs.declared.token.Kind.TheVariants.{Graph, Subgraph, Bare, Html, OpenBrace, CloseBrace}
use Rattle.ov_dot.specs.declared.token.Kind.TheVariants.{OpenBracket, CloseBracket, Line, Arrow}
use Rattle.ov_dot.specs.declared.fault.Why.{Why}
use Rattle.ov_dot.specs.declared.fault.Why.TheVariants.{NoGraph, NoBrace, NoName, NoStatement, BadAttributes, WrongEdge}
use Rattle.ov_dot.specs.declared.fault.Why.TheVariants.{SubgraphAsEnd, HtmlText, BehindGraph}
use Rattle.ov_dot.specs.Grammar.{AreFile, BeginFile, Spot, token}

-- some file begins with these tokens and one of this kind behind them
abbrev pub MayCome : List Lexeme → Kind → Type 0
MayCome before kind = (spot : Spot) × BeginFile (before ++ token kind spot ∷ [])

-- the kind of an edge, in a graph or in a digraph
abbrev pub IsEdge : Kind → Type 0
IsEdge kind = (kind ≡ Line) ⊎ (kind ≡ Arrow)

-- the last of these tokens is an edge
pub record EndInEdge (tokens : List Lexeme) : Type 0 where
  pub first : List Lexeme
  pub edge : Lexeme
  pub parts : tokens ≡ first ++ edge ∷ []
  pub is_edge : IsEdge edge.kind

-- what a token of this kind is refused for behind these tokens, whatever is lacking there. BehindGraph: they are a
-- whole file. HtmlText: it is an HTML text, and they are no whole file. WrongEdge: it is an edge where one may come, so
-- one of the other kind of graph. SubgraphAsEnd: it begins a subgraph right behind an edge; or it is an edge with which
-- a statement would begin: where a brace may close, and no list of attributes may begin
abbrev pub HasReason : List Lexeme → Kind → Why → Type 0
HasReason before kind BehindGraph = AreFile before
HasReason before kind HtmlText = (kind ≡ Html) × ¬ AreFile before
HasReason before kind WrongEdge = IsEdge kind × (MayCome before Line ⊎ MayCome before Arrow)
HasReason before kind SubgraphAsEnd =
    (((kind ≡ Subgraph) ⊎ (kind ≡ OpenBrace)) × EndInEdge before)
    ⊎ (IsEdge kind × MayCome before CloseBrace × ¬ MayCome before OpenBracket)
HasReason before kind why = ⊥

-- what is lacking behind these tokens. A statement, where a brace may close. The beginning of a graph, or an opening
-- brace, where one may come and no brace may close. Attributes, where their list may end, where an HTML text may be a
-- value, or where a list is to begin. A name, where one may come, and no opening brace, end of a list or HTML text
abbrev pub Lack : List Lexeme → Why → Type 0
Lack before NoStatement = MayCome before CloseBrace
Lack before NoGraph = MayCome before Graph × ¬ MayCome before CloseBrace
Lack before NoBrace = MayCome before OpenBrace × ¬ MayCome before CloseBrace
Lack before BadAttributes =
    MayCome before CloseBracket
    ⊎ (MayCome before Html ⊎ (MayCome before OpenBracket × ¬ MayCome before CloseBrace))
Lack before NoName =
    MayCome before Bare × (¬ MayCome before OpenBrace) × (¬ MayCome before CloseBracket) × ¬ MayCome before Html
Lack before why = ⊥

-- why a token of this kind can't stand behind these tokens: for a reason of its own; without one, for what is lacking
abbrev pub IsReason : List Lexeme → Kind → Why → Type 0
IsReason before kind why =
    HasReason before kind why ⊎ (((other : Why) → ¬ HasReason before kind other) × Lack before why)
