-- Tokens that are read to their end are those of a file of the grammar. For each place of the diagram there is a word
-- for what is left of a file from there on; it is found token by token, from the last one to the first.
use Rattle.std.proofs.Common.{◌≡◌, ◌∙◌, ◌⊎◌, ◌+◌, ◌-◌, ◌<◌, ◌++◌, ℕ, Bool, true, false, nat_le, cond, List, [], ◌∷◌}
use Rattle.std.proofs.Common.{Option, Some, None, Result, Ok, Err, inl, inr, refl, sym, ap, subst, arith, append_assoc}
use Rattle.std.proofs.lemmas.Bool.{true≢false}
use Rattle.std.proofs.lemmas.Bool.Decides.{nat_tests}
use Rattle.ov_dot.specs.Tokens.{Lexeme}
use Rattle.ov_dot.specs.declared.token.Kind.{Kind}
use Rattle.ov_dot.specs.declared.token.Kind.TheVariants.{Strict, Graph, Digraph, Node, Edge, Subgraph, Bare}
use Rattle.ov_dot.specs.declared.token.Kind.TheVariants.{Quoted, Html, OpenBrace, CloseBrace, OpenBracket}
use Rattle.ov_dot.specs.declared.token.Kind.TheVariants.{CloseBracket, Semicolon, Comma, Equals, Colon, Line}
use Rattle.ov_dot.specs.declared.token.Kind.TheVariants.{Arrow}
use Rattle.ov_dot.specs.declared.grammar_state.GrammarPlace.{GrammarPlace}
use Rattle.ov_dot.specs.declared.grammar_state.GrammarPlace.TheVariants.{Beginning, BehindStrict, BehindKind, BehindTitle}
use Rattle.ov_dot.specs.declared.grammar_state.GrammarPlace.TheVariants.{Body, Named}
use Rattle.ov_dot.specs.declared.grammar_state.GrammarPlace.TheVariants.{Member, PortNext, Ported, CompassNext, Directed}
use Rattle.ov_dot.specs.declared.grammar_state.GrammarPlace.TheVariants.{EndNext}
use Rattle.ov_dot.specs.declared.grammar_state.GrammarPlace.TheVariants.{ListNext, InList, Attribute, ValueNext, Valued}
use Rattle.ov_dot.specs.declared.grammar_state.GrammarPlace.TheVariants.{Listed}
use Rattle.ov_dot.specs.declared.grammar_state.GrammarPlace.TheVariants.{AssignedNext, SubgraphNext, SubgraphTitled, Over}
use Rattle.ov_dot.specs.declared.fault.DotFault.{DotFault}
use Rattle.ov_dot.specs.declared.fault.DotFault.TheVariants.{UnreadLine}
use Rattle.ov_dot.specs.declared.fault.Why.TheVariants.{WrongEdge}
use Rattle.ov_dot.specs.Code.Diagram.{attribute, beginning, behind_attribute, behind_first, behind_list, behind_name}
use Rattle.ov_dot.specs.Code.Diagram.{behind_node, behind_port, behind_value, follows, heading, list_opening}
use Rattle.ov_dot.specs.Code.Diagram.{name_to, opening, statement, title_to, value_to}
use Rattle.ov_dot.specs.Sayings.{Said, nothing_said}
use Rattle.ov_dot.specs.Code.Statements.{Reading, at_beginning, depth_behind, directed_behind, ended, is_wrong_edge}
use Rattle.ov_dot.specs.Code.Statements.{moved, place_behind, read_on, said_behind, statements_of, step_to}
use Rattle.ov_dot.specs.Grammar.{Spot, token, NodeName, Word, Text, named, NameValue, HtmlValue, valued, NoValue}
use Rattle.ov_dot.specs.Grammar.{HasValue, spell_setting, NoEnding, CommaEnding, SemicolonEnding, spell_ending}
use Rattle.ov_dot.specs.Grammar.{spell_item, spell_items, spell_attributes, spell_lists, NoPort}
use Rattle.ov_dot.specs.Grammar.{AtPort, AtSide, spell_port, edge_kind, spell_ends, Whose, OfGraph, OfNodes}
use Rattle.ov_dot.specs.Grammar.{OfEdges, whose_kind, NoTitle, Untitled, Titled, Statement, Nothing, Chain, Defaults}
use Rattle.ov_dot.specs.Grammar.{Assignment, Opening, Closing, spell_statement, spell_statements, IsBalanced}
use Rattle.ov_dot.specs.Grammar.{Lax, IsStrict, GraphName, Unnamed, IsNamed, spell_strictness}
use Rattle.ov_dot.proofs.Parsing.{begun_by}
use Rattle.ov_dot.specs.Grammar.{AreFile, spell_name, graph_kind}

-- ---- parts of a file, and what is left behind them

-- a part that is spelled so, and then what is left
abbrev Then : {X : Type 0} → (X → List Lexeme) → (List Lexeme → Type 0) → List Lexeme → Type 0
Then {X} spell Rest tokens =
    (x : X) × (rest : List Lexeme) × Rest rest × (spell x ++ rest ≡ tokens)

-- one token of a kind, and then what is left
abbrev TokenThen : Kind → (List Lexeme → Type 0) → List Lexeme → Type 0
TokenThen kind Rest = Then (λ spot. token kind spot ∷ []) Rest

-- a name, and then what is left
abbrev NameThen : (List Lexeme → Type 0) → List Lexeme → Type 0
NameThen Rest = Then (λ name. named name ∷ []) Rest

-- the value of an attribute, and then what is left
abbrev ValueThen : (List Lexeme → Type 0) → List Lexeme → Type 0
ValueThen Rest = Then (λ value. valued value ∷ []) Rest

-- two parts, one behind the other
glue :
    (a b c us ts : List Lexeme) → b ++ c ≡ us → a ++ us ≡ ts → (a ++ b) ++ c ≡ ts
glue a b c us ts inner outer = append_assoc a b c ∙ ap (λ l. a ++ l) inner ∙ outer

-- one part more of a list of parts
one_more :
    {X : Type 0} (one : X → List Lexeme) (all : List X → List Lexeme) (Rest : List Lexeme → Type 0) (ts : List Lexeme)
    → ((x : X) (xs : List X) → all (x ∷ xs) ≡ one x ++ all xs) → Then one (Then all Rest) ts → Then all Rest ts
one_more one all Rest ts is left =
    let later = left.2 in (
      left.0 ∷ later.0,
      later.1,
      later.2,
      ap (λ l. l ++ later.1) (is left.0 later.0) ∙ glue (one left.0) (all later.0) later.1 left.1 ts later.3 left.3,
    )

-- ---- what is left at each place

-- each closing brace but the last one of these statements, and the brace behind them, closes one of so many that are
-- open
abbrev CloseAll : ℕ → List Statement → Type 0
CloseAll n [] = nat_le n 1 ≡ true
CloseAll n (Opening title brace ∷ statements) = CloseAll (n + 1) statements
CloseAll n (Closing brace ∷ statements) = (nat_le n 1 ≡ false) × CloseAll (n - 1) statements
CloseAll n (Nothing semicolon ∷ statements) = CloseAll n statements
CloseAll n (Chain first port ends lists ∷ statements) = CloseAll n statements
CloseAll n (Defaults whose spot list lists ∷ statements) = CloseAll n statements
CloseAll n (Assignment name equals value ∷ statements) = CloseAll n statements

-- statements, and the brace that closes the file
abbrev BodyLeft : Bool → ℕ → List Lexeme → Type 0
BodyLeft d n ts =
    (statements : List Statement) × (closing : Spot) × CloseAll n statements
    × (spell_statements d statements ++ token CloseBrace closing ∷ [] ≡ ts)

-- further lists of attributes
abbrev ListsLeft : Bool → ℕ → List Lexeme → Type 0
ListsLeft d n = Then spell_lists (BodyLeft d n)

-- a list of attributes, and further ones
abbrev ListNextLeft : Bool → ℕ → List Lexeme → Type 0
ListNextLeft d n = Then spell_attributes (ListsLeft d n)

-- further attributes of a list
abbrev InListLeft : Bool → ℕ → List Lexeme → Type 0
InListLeft d n = Then spell_items (TokenThen CloseBracket (ListsLeft d n))

-- the end of an attribute
abbrev ValuedLeft : Bool → ℕ → List Lexeme → Type 0
ValuedLeft d n = Then spell_ending (InListLeft d n)

-- `=` and the value of an attribute, or none, and its end
abbrev AttributeLeft : Bool → ℕ → List Lexeme → Type 0
AttributeLeft d n = Then spell_setting (ValuedLeft d n)

-- further ends of an edge
abbrev EndsLeft : Bool → ℕ → List Lexeme → Type 0
EndsLeft d n = Then (spell_ends d) (ListsLeft d n)

-- the side of a port
abbrev PortedLeft : Bool → ℕ → List Lexeme → Type 0
PortedLeft d n ts = EndsLeft d n ts ⊎ TokenThen Colon (NameThen (EndsLeft d n)) ts

-- the port of a node
abbrev MemberLeft : Bool → ℕ → List Lexeme → Type 0
MemberLeft d n = Then spell_port (EndsLeft d n)

-- behind the name with which a statement begins
abbrev NamedLeft : Bool → ℕ → List Lexeme → Type 0
NamedLeft d n ts = MemberLeft d n ts ⊎ TokenThen Equals (ValueThen (BodyLeft d n)) ts

-- an opening brace, and statements
abbrev BraceLeft : Bool → ℕ → List Lexeme → Type 0
BraceLeft d n = TokenThen OpenBrace (BodyLeft d (n + 1))

-- a name, or none, and an opening brace
abbrev TitleLeft : Bool → ℕ → List Lexeme → Type 0
TitleLeft d n = Then spell_name (BraceLeft d n)

-- the keyword of a graph
abbrev HeadingLeft : Bool → ℕ → List Lexeme → Type 0
HeadingLeft d n ts = d ≡ false → (directed : Bool) × TokenThen (graph_kind directed) (TitleLeft directed n) ts

-- what is left of a file at a place
abbrev Left : Bool → ℕ → GrammarPlace → List Lexeme → Type 0
Left d n Beginning ts = Then spell_strictness (HeadingLeft d n) ts
Left d n BehindStrict ts = HeadingLeft d n ts
Left d n BehindKind ts = TitleLeft d n ts
Left d n BehindTitle ts = BraceLeft d n ts
Left d n Body ts = BodyLeft d n ts
Left d n Named ts = NamedLeft d n ts
Left d n Member ts = MemberLeft d n ts
Left d n PortNext ts = NameThen (PortedLeft d n) ts
Left d n Ported ts = PortedLeft d n ts
Left d n CompassNext ts = NameThen (EndsLeft d n) ts
Left d n Directed ts = EndsLeft d n ts
Left d n EndNext ts = NameThen (MemberLeft d n) ts
Left d n ListNext ts = ListNextLeft d n ts
Left d n InList ts = InListLeft d n ts
Left d n Attribute ts = AttributeLeft d n ts
Left d n ValueNext ts = ValueThen (ValuedLeft d n) ts
Left d n Valued ts = ValuedLeft d n ts
Left d n Listed ts = ListsLeft d n ts
Left d n AssignedNext ts = ValueThen (BodyLeft d n) ts
Left d n SubgraphNext ts = TitleLeft d n ts
Left d n SubgraphTitled ts = BraceLeft d n ts
Left d n Over ts = ts ≡ []

-- what is left behind a token of a kind, where the diagram leads to a place, or nowhere
abbrev Goes : Bool → ℕ → Kind → List Lexeme → Option GrammarPlace → Type 0
Goes d n kind ts None = ⊥
Goes d n kind ts (Some place) =
    (is_wrong_edge d kind ≡ false) × Left (directed_behind d kind) (depth_behind n kind) (place_behind n kind place) ts

-- ---- one token more, in front

by_name :
    (kind : Kind) (s : Spot) (d : Bool) (n : ℕ) (ts : List Lexeme) (place : GrammarPlace)
    → Goes d n kind ts (name_to place kind) → NameThen (Left d n place) (token kind s ∷ ts)
by_name Bare s d n ts place goes = (Word s, ts, goes.1, refl)
by_name Quoted s d n ts place goes = (Text s, ts, goes.1, refl)
by_name kind s d n ts place goes = absurd goes

by_text :
    (kind : Kind) (s : Spot) (d : Bool) (n : ℕ) (ts : List Lexeme) (place : GrammarPlace)
    → Goes d n kind ts (value_to place kind) → ValueThen (Left d n place) (token kind s ∷ ts)
by_text Html s d n ts place goes = (HtmlValue s, ts, goes.1, refl)
by_text Bare s d n ts place goes = (NameValue (Word s), ts, goes.1, refl)
by_text Quoted s d n ts place goes = (NameValue (Text s), ts, goes.1, refl)
by_text kind s d n ts place goes = absurd goes

-- a statement, and those behind it
statement_more :
    (d : Bool) (n m : ℕ) (st : Statement) (us ts : List Lexeme)
    → ((statements : List Statement) → CloseAll m statements → CloseAll n (st ∷ statements))
    → BodyLeft d m us → spell_statement d st ++ us ≡ ts → BodyLeft d n ts
statement_more d n m st us ts closes body spelled = (
  st ∷ body.0,
  body.1,
  closes body.0 body.2,
  glue (spell_statement d st) (spell_statements d body.0) (token CloseBrace body.1 ∷ []) us ts body.3 spelled,
)

-- attributes of graphs, nodes or edges
defaults :
    (d : Bool) (n : ℕ) (whose : Whose) (s : Spot) (ts : List Lexeme) → ListNextLeft d n ts
    → BodyLeft d n (token (whose_kind whose) s ∷ ts)
defaults d n whose s ts left =
    let lists = left.2 in
    statement_more d n n (Defaults whose s left.0 lists.0) lists.1 (token (whose_kind whose) s ∷ ts) (λ ss k. k)
    lists.2
    (ap (λ l. token (whose_kind whose) s ∷ l)
    (glue (spell_attributes left.0) (spell_lists lists.0) lists.1 left.1 ts lists.3 left.3))

-- a node, edges from it, or an assignment
started :
    (d : Bool) (n : ℕ) (name : NodeName) (ts : List Lexeme) → NamedLeft d n ts → BodyLeft d n (named name ∷ ts)
started d n name ts (inl left) =
    let ends = left.2 in
    let lists = ends.2 in
    statement_more d n n (Chain name left.0 ends.0 lists.0) lists.1 (named name ∷ ts) (λ ss k. k) lists.2
    (ap (λ l. named name ∷ l)
    (glue (spell_port left.0) (spell_ends d ends.0 ++ spell_lists lists.0) lists.1 left.1 ts
    (glue (spell_ends d ends.0) (spell_lists lists.0) lists.1 ends.1 left.1 lists.3 ends.3) left.3))
started d n name ts (inr left) =
    let assigned = left.2 in
    statement_more d n n (Assignment name left.0 assigned.0) assigned.1 (named name ∷ ts) (λ ss k. k) assigned.2
    (ap (λ l. named name ∷ l) (ap (λ l. token Equals left.0 ∷ l) assigned.3 ∙ left.3))

-- a subgraph with its keyword
subgraph :
    (d : Bool) (n : ℕ) (s : Spot) (ts : List Lexeme) (name : GraphName) (us : List Lexeme) → BraceLeft d n us
    → spell_name name ++ us ≡ ts → BodyLeft d n (token Subgraph s ∷ ts)
subgraph d n s ts Unnamed us brace spelled =
    statement_more d n (n + 1) (Opening (Untitled s) brace.0) brace.1 (token Subgraph s ∷ ts) (λ ss k. k) brace.2
    (ap (λ l. token Subgraph s ∷ l) (brace.3 ∙ spelled))
subgraph d n s ts (IsNamed name) us brace spelled =
    statement_more d n (n + 1) (Opening (Titled s name) brace.0) brace.1 (token Subgraph s ∷ ts) (λ ss k. k) brace.2
    (ap (λ l. token Subgraph s ∷ l) (ap (λ l. named name ∷ l) brace.3 ∙ spelled))

-- a closing brace: that of the file, or of a subgraph
closed :
    (v : Bool) (d : Bool) (n : ℕ) (s : Spot) (ts : List Lexeme) → nat_le n 1 ≡ v → Left d (n - 1) (cond v Over Body) ts
    → BodyLeft d n (token CloseBrace s ∷ ts)
closed true d n s ts is left = ([], s, is, ap (λ l. token CloseBrace s ∷ l) (sym left))
closed false d n s ts is left =
    statement_more d n (n - 1) (Closing s) ts (token CloseBrace s ∷ ts) (λ ss k. (is, k)) left refl

by_statement :
    (kind : Kind) (s : Spot) (d : Bool) (n : ℕ) (ts : List Lexeme) → Goes d n kind ts (statement kind)
    → BodyLeft d n (token kind s ∷ ts)
by_statement Graph s d n ts goes = defaults d n OfGraph s ts goes.1
by_statement Node s d n ts goes = defaults d n OfNodes s ts goes.1
by_statement Edge s d n ts goes = defaults d n OfEdges s ts goes.1
by_statement Subgraph s d n ts goes =
    let title = goes.1 in subgraph d n s ts title.0 title.1 title.2 title.3
by_statement OpenBrace s d n ts goes =
    statement_more d n (n + 1) (Opening NoTitle s) ts (token OpenBrace s ∷ ts) (λ ss k. k) goes.1 refl
by_statement CloseBrace s d n ts goes = closed (nat_le n 1) d n s ts refl goes.1
by_statement Semicolon s d n ts goes =
    statement_more d n n (Nothing s) ts (token Semicolon s ∷ ts) (λ ss k. k) goes.1 refl
by_statement Bare s d n ts goes = started d n (Word s) ts goes.1
by_statement Quoted s d n ts goes = started d n (Text s) ts goes.1
by_statement kind s d n ts goes = absurd goes

-- the opening bracket of a list
bracket :
    (d : Bool) (n : ℕ) (s : Spot) (ts : List Lexeme) → InListLeft d n ts
    → ListNextLeft d n (token OpenBracket s ∷ ts)
bracket d n s ts left =
    let closing = left.2 in (
      record { opening = s; items = left.0; closing = closing.0 },
      closing.1,
      closing.2,
      ap (λ l. token OpenBracket s ∷ l)
          (glue (spell_items left.0) (token CloseBracket closing.0 ∷ []) closing.1 left.1 ts closing.3 left.3),
    )

by_bracket :
    (kind : Kind) (s : Spot) (d : Bool) (n : ℕ) (ts : List Lexeme) → Goes d n kind ts (list_opening kind)
    → ListNextLeft d n (token kind s ∷ ts)
by_bracket OpenBracket s d n ts goes = bracket d n s ts goes.1
by_bracket kind s d n ts goes = absurd goes

by_list :
    (kind : Kind) (s : Spot) (d : Bool) (n : ℕ) (ts : List Lexeme) → Goes d n kind ts (behind_list kind)
    → ListsLeft d n (token kind s ∷ ts)
by_list OpenBracket s d n ts goes =
    one_more spell_attributes spell_lists (BodyLeft d n) (token OpenBracket s ∷ ts) (λ x xs. refl)
    (bracket d n s ts goes.1)
by_list kind s d n ts goes = ([], token kind s ∷ ts, by_statement kind s d n ts goes, refl)

-- another end of an edge
edge :
    (d : Bool) (n : ℕ) (s : Spot) (ts : List Lexeme) → NameThen (MemberLeft d n) ts
    → EndsLeft d n (token (edge_kind d) s ∷ ts)
edge d n s ts left =
    let port = left.2 in
    let ends = port.2 in (
      record { edge = s; name = left.0; port = port.0 } ∷ ends.0,
      ends.1,
      ends.2,
      ap (λ l. token (edge_kind d) s ∷ l)
          (ap (λ l. named left.0 ∷ l)
          (glue (spell_port port.0) (spell_ends d ends.0) ends.1 port.1 left.1 ends.3 port.3)
          ∙ left.3),
    )

by_node :
    (kind : Kind) (s : Spot) (d : Bool) (n : ℕ) (ts : List Lexeme) → Goes d n kind ts (behind_node kind)
    → EndsLeft d n (token kind s ∷ ts)
by_node Line s true n ts goes = absurd (true≢false goes.0)
by_node Line s false n ts goes = edge false n s ts goes.1
by_node Arrow s true n ts goes = edge true n s ts goes.1
by_node Arrow s false n ts goes = absurd (true≢false goes.0)
by_node kind s d n ts goes = ([], token kind s ∷ ts, by_list kind s d n ts goes, refl)

-- a port, and its side
ported :
    (d : Bool) (n : ℕ) (s : Spot) (name : NodeName) (us ts : List Lexeme) → PortedLeft d n us → named name ∷ us ≡ ts
    → MemberLeft d n (token Colon s ∷ ts)
ported d n s name us ts (inl ends) spelled = (AtPort s name, us, ends, ap (λ l. token Colon s ∷ l) spelled)
ported d n s name us ts (inr left) spelled =
    let side = left.2 in (
      AtSide s name left.0 side.0,
      side.1,
      side.2,
      ap (λ l. token Colon s ∷ l)
          (ap (λ l. named name ∷ l) (ap (λ l. token Colon left.0 ∷ l) side.3 ∙ left.3) ∙ spelled),
    )

by_member :
    (kind : Kind) (s : Spot) (d : Bool) (n : ℕ) (ts : List Lexeme) → Goes d n kind ts (behind_name kind)
    → MemberLeft d n (token kind s ∷ ts)
by_member Colon s d n ts goes = let port = goes.1 in ported d n s port.0 port.1 ts port.2 port.3
by_member kind s d n ts goes = (NoPort, token kind s ∷ ts, by_node kind s d n ts goes, refl)

by_first :
    (kind : Kind) (s : Spot) (d : Bool) (n : ℕ) (ts : List Lexeme) → Goes d n kind ts (behind_first kind)
    → NamedLeft d n (token kind s ∷ ts)
by_first Equals s d n ts goes = inr (s, ts, goes.1, refl)
by_first kind s d n ts goes = inl (by_member kind s d n ts goes)

by_port :
    (kind : Kind) (s : Spot) (d : Bool) (n : ℕ) (ts : List Lexeme) → Goes d n kind ts (behind_port kind)
    → PortedLeft d n (token kind s ∷ ts)
by_port Colon s d n ts goes = inr (s, ts, goes.1, refl)
by_port kind s d n ts goes = inl (by_node kind s d n ts goes)

-- an attribute, from its name on
item :
    (d : Bool) (n : ℕ) (name : NodeName) (ts : List Lexeme) → AttributeLeft d n ts → InListLeft d n (named name ∷ ts)
item d n name ts left =
    let ending = left.2 in
    one_more spell_item spell_items (TokenThen CloseBracket (ListsLeft d n)) (named name ∷ ts) (λ x xs. refl) (
      record { name = name; setting = left.0; ending = ending.0 },
      ending.1,
      ending.2,
      ap (λ l. named name ∷ l)
          (glue (spell_setting left.0) (spell_ending ending.0) ending.1 left.1 ts ending.3 left.3),
    )

by_attribute :
    (kind : Kind) (s : Spot) (d : Bool) (n : ℕ) (ts : List Lexeme) → Goes d n kind ts (attribute kind)
    → InListLeft d n (token kind s ∷ ts)
by_attribute CloseBracket s d n ts goes = ([], token CloseBracket s ∷ ts, (s, ts, goes.1, refl), refl)
by_attribute Bare s d n ts goes = item d n (Word s) ts goes.1
by_attribute Quoted s d n ts goes = item d n (Text s) ts goes.1
by_attribute kind s d n ts goes = absurd goes

by_value :
    (kind : Kind) (s : Spot) (d : Bool) (n : ℕ) (ts : List Lexeme) → Goes d n kind ts (behind_value kind)
    → ValuedLeft d n (token kind s ∷ ts)
by_value Comma s d n ts goes = (CommaEnding s, ts, goes.1, refl)
by_value Semicolon s d n ts goes = (SemicolonEnding s, ts, goes.1, refl)
by_value kind s d n ts goes = (NoEnding, token kind s ∷ ts, by_attribute kind s d n ts goes, refl)

by_equals :
    (kind : Kind) (s : Spot) (d : Bool) (n : ℕ) (ts : List Lexeme) → Goes d n kind ts (behind_attribute kind)
    → AttributeLeft d n (token kind s ∷ ts)
by_equals Equals s d n ts goes =
    let left = goes.1 in (HasValue s left.0, left.1, left.2, ap (λ l. token Equals s ∷ l) left.3)
by_equals kind s d n ts goes = (NoValue, token kind s ∷ ts, by_value kind s d n ts goes, refl)

by_brace :
    (kind : Kind) (s : Spot) (d : Bool) (n : ℕ) (ts : List Lexeme) → Goes d n kind ts (opening kind)
    → BraceLeft d n (token kind s ∷ ts)
by_brace OpenBrace s d n ts goes = (s, ts, goes.1, refl)
by_brace kind s d n ts goes = absurd goes

by_title :
    (kind : Kind) (s : Spot) (d : Bool) (n : ℕ) (ts : List Lexeme) (place : GrammarPlace)
    → (Left d n place ts → BraceLeft d n ts) → Goes d n kind ts (title_to place kind)
    → TitleLeft d n (token kind s ∷ ts)
by_title OpenBrace s d n ts place brace goes = (Unnamed, token OpenBrace s ∷ ts, (s, ts, goes.1, refl), refl)
by_title Bare s d n ts place brace goes = (IsNamed (Word s), ts, brace goes.1, refl)
by_title Quoted s d n ts place brace goes = (IsNamed (Text s), ts, brace goes.1, refl)
by_title kind s d n ts place brace goes = absurd goes

by_heading :
    (kind : Kind) (s : Spot) (d : Bool) (n : ℕ) (ts : List Lexeme) → Goes d n kind ts (heading kind)
    → HeadingLeft d n (token kind s ∷ ts)
by_heading Graph s d n ts goes = λ is. (false, (s, ts, subst (λ (e : Bool). TitleLeft e n ts) is goes.1, refl))
by_heading Digraph s d n ts goes = λ is. (true, (s, ts, goes.1, refl))
by_heading kind s d n ts goes = absurd goes

by_strict :
    (kind : Kind) (s : Spot) (d : Bool) (n : ℕ) (ts : List Lexeme) → Goes d n kind ts (beginning kind)
    → Left d n Beginning (token kind s ∷ ts)
by_strict Strict s d n ts goes = (IsStrict s, ts, goes.1, refl)
by_strict kind s d n ts goes = (Lax, token kind s ∷ ts, by_heading kind s d n ts goes, refl)

by_place :
    (place : GrammarPlace) (kind : Kind) (s : Spot) (d : Bool) (n : ℕ) (ts : List Lexeme)
    → Goes d n kind ts (follows place kind) → Left d n place (token kind s ∷ ts)
by_place Beginning kind s d n ts goes = by_strict kind s d n ts goes
by_place BehindStrict kind s d n ts goes = by_heading kind s d n ts goes
by_place BehindKind kind s d n ts goes = by_title kind s d n ts BehindTitle (λ left. left) goes
by_place BehindTitle kind s d n ts goes = by_brace kind s d n ts goes
by_place Body kind s d n ts goes = by_statement kind s d n ts goes
by_place Named kind s d n ts goes = by_first kind s d n ts goes
by_place Member kind s d n ts goes = by_member kind s d n ts goes
by_place PortNext kind s d n ts goes = by_name kind s d n ts Ported goes
by_place Ported kind s d n ts goes = by_port kind s d n ts goes
by_place CompassNext kind s d n ts goes = by_name kind s d n ts Directed goes
by_place Directed kind s d n ts goes = by_node kind s d n ts goes
by_place EndNext kind s d n ts goes = by_name kind s d n ts Member goes
by_place ListNext kind s d n ts goes = by_bracket kind s d n ts goes
by_place InList kind s d n ts goes = by_attribute kind s d n ts goes
by_place Attribute kind s d n ts goes = by_equals kind s d n ts goes
by_place ValueNext kind s d n ts goes = by_text kind s d n ts Valued goes
by_place Valued kind s d n ts goes = by_value kind s d n ts goes
by_place Listed kind s d n ts goes = by_list kind s d n ts goes
by_place AssignedNext kind s d n ts goes = by_text kind s d n ts Body goes
by_place SubgraphNext kind s d n ts goes = by_title kind s d n ts SubgraphTitled (λ left. left) goes
by_place SubgraphTitled kind s d n ts goes = by_brace kind s d n ts goes
by_place Over kind s d n ts goes = absurd goes

-- ---- all tokens

abbrev Fails : {X : Type 0} → Result X DotFault → Type 0
Fails (Ok x) = ⊥
Fails (Err fault) = Unit {0}

pub not_ok : {X : Type 0} (fault : DotFault) (x : X) → Err fault ≡ Ok x → ⊥
not_ok {X} fault x is = subst (λ (r : Result X DotFault). Fails r) is tt

-- the end of the text
none_left :
    (place : GrammarPlace) (r : Reading) (d : Bool) (n : ℕ) (said now : Said) → ended r place said ≡ Ok now → Left d n place []
none_left Over r d n said now is = refl
none_left place r d n said now is = absurd (not_ok _ now is)

-- the next token, if all that are left are read
edge_fits :
    (wrong : Bool) (r : Reading) (t : Lexeme) (place : GrammarPlace) (said now : Said) (ts : List Lexeme)
    → ((next : Reading) → read_on (Ok next) said ts ≡ Ok now → Left next.directed next.depth next.place ts)
    → is_wrong_edge r.directed t.kind ≡ wrong
    → read_on (cond wrong (Err (UnreadLine t.line WrongEdge)) (Ok (moved r t place))) said ts ≡ Ok now
    → Goes r.directed r.depth t.kind ts (Some place)
unfolding read_on
edge_fits true r t place said now ts later is reads = absurd (not_ok _ now reads)
edge_fits false r t place said now ts later is reads = (is, later (moved r t place) reads)

goes_on :
    (place : Option GrammarPlace) (r : Reading) (t : Lexeme) (said now : Said) (ts : List Lexeme)
    → ((next : Reading) → read_on (Ok next) said ts ≡ Ok now → Left next.directed next.depth next.place ts)
    → read_on (step_to r t place) said ts ≡ Ok now → Goes r.directed r.depth t.kind ts place
unfolding read_on
goes_on None r t said now ts later reads = absurd (not_ok _ now reads)
goes_on (Some place) r t said now ts later reads =
    edge_fits (is_wrong_edge r.directed t.kind) r t place said now ts later refl reads

left_by :
    (ts : List Lexeme) (r : Reading) (said now : Said) → read_on (Ok r) said ts ≡ Ok now
    → Left r.directed r.depth r.place ts
unfolding read_on
left_by [] r said now reads = none_left r.place r r.directed r.depth said now reads
left_by (t ∷ ts) r said now reads =
    by_place r.place t.kind (record { line = t.line; text = t.text }) r.directed r.depth ts
    (goes_on (follows r.place t.kind) r t (said_behind r t said) now ts
    (λ next is. left_by ts next (said_behind r t said) now is) reads)

-- ---- files

at_most_one : (depth : ℕ) → nat_le (depth + 1) 1 ≡ true → depth ≡ 0
at_most_one depth is = grind (arith, nat_tests)

some_open : (depth : ℕ) → nat_le (depth + 1) 1 ≡ false → 0 < depth
some_open depth is = grind (arith, nat_tests)

balanced : (depth : ℕ) (statements : List Statement) → CloseAll (depth + 1) statements → IsBalanced depth statements
balanced depth [] is = at_most_one depth is
balanced depth (Opening title brace ∷ statements) is = balanced (depth + 1) statements is
balanced depth (Closing brace ∷ statements) is =
    let some = some_open depth is.0 in
    let shallower : depth + 1 - 1 ≡ depth - 1 + 1 = omega arith in
    (some, balanced (depth - 1) statements (subst (λ (n : ℕ). CloseAll n statements) shallower is.1))
balanced depth (Nothing semicolon ∷ statements) is = balanced depth statements is
balanced depth (Chain first port ends lists ∷ statements) is = balanced depth statements is
balanced depth (Defaults whose spot list lists ∷ statements) is = balanced depth statements is
balanced depth (Assignment name equals value ∷ statements) is = balanced depth statements is

-- tokens that are read to their end are those of a file
pub file_from :
    (o : Lexeme) (tokens : List Lexeme) (said : Said) → read_on (Ok (at_beginning o)) nothing_said tokens ≡ Ok said
    → AreFile tokens
file_from o tokens said reads =
    let strict = left_by tokens (at_beginning o) nothing_said said reads in
    let graph = strict.2 refl in
    let heading = graph.1 in
    let title = heading.2 in
    let brace = title.2 in
    let body = brace.2 in (
      record {
        strictness = strict.0;
        directed = graph.0;
        spot = heading.0;
        name = title.0;
        opening = brace.0;
        statements = body.0;
        closing = body.1;
      },
      record {
        balanced = balanced 0 body.0 body.2;
        spelled =
            ap (λ l. spell_strictness strict.0 ++ l)
            (ap (λ l. token (graph_kind graph.0) heading.0 ∷ l)
            (ap (λ l. spell_name title.0 ++ l) (ap (λ l. token OpenBrace brace.0 ∷ l) body.3 ∙ brace.3) ∙ title.3)
            ∙ heading.3)
            ∙ strict.3;
      },
    )

pub file_of : (tokens : List Lexeme) (said : Said) → statements_of tokens ≡ Ok said → AreFile tokens
file_of tokens said reads =
    let begun = begun_by tokens in file_from begun.0 tokens said (sym begun.1 ∙ reads)
