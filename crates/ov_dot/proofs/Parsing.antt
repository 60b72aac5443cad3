-- A file that the grammar has is read, and says what its statements say.
use Rattle.std.proofs.Common.{◌≡◌, ◌∙◌, ◌+◌, ◌-◌, ◌<◌, ◌++◌, ℕ, Bool, true, false, nat_le, cond, List}
use Rattle.std.proofs.Common.{[], ◌∷◌}
use Rattle.std.proofs.lemmas.Bool.Decides.{nat_tests}
use Rattle.std.proofs.Common.{Ok, refl, sym, ap, subst, arith, append_assoc}
use Rattle.ov_dot.specs.Tokens.{Lexeme}
use Rattle.ov_dot.specs.declared.token.Kind.{Kind}
use Rattle.ov_dot.specs.declared.token.Kind.TheVariants.{Graph, Node, Edge, Subgraph, Bare}
use Rattle.ov_dot.specs.declared.token.Kind.TheVariants.{Quoted, OpenBrace}
use Rattle.ov_dot.specs.declared.token.Kind.TheVariants.{CloseBrace, CloseBracket, Semicolon}
use Rattle.ov_dot.specs.declared.grammar_state.GrammarPlace.{GrammarPlace}
use Rattle.ov_dot.specs.declared.grammar_state.GrammarPlace.TheVariants.{Body, Named, Member, Ported, Directed}
use Rattle.ov_dot.specs.declared.grammar_state.GrammarPlace.TheVariants.{InList}
use Rattle.ov_dot.specs.declared.grammar_state.GrammarPlace.TheVariants.{Attribute, Valued, Listed, Over}
use Rattle.ov_dot.specs.Sayings.{Said, nothing_said, with_edge}
use Rattle.ov_dot.specs.Code.Statements.{Reading, at_beginning, read_on, statements_of}
use Rattle.ov_dot.specs.Grammar.{Spot, token, NodeName, Word, Text, named, Value, NameValue, HtmlValue}
use Rattle.ov_dot.specs.Grammar.{Setting, NoValue, HasValue, spell_setting}
use Rattle.ov_dot.specs.Grammar.{Ending, NoEnding, CommaEnding, SemicolonEnding, spell_ending, Item, spell_item}
use Rattle.ov_dot.specs.Grammar.{spell_items}
use Rattle.ov_dot.specs.Grammar.{Attributes, spell_attributes, spell_lists, Port, NoPort, AtPort, AtSide, spell_port}
use Rattle.ov_dot.specs.Grammar.{End, edge_kind, spell_ends, Whose, OfGraph, OfNodes, OfEdges, whose_kind}
use Rattle.ov_dot.specs.Grammar.{Title, NoTitle, Untitled, Titled, Statement, Nothing, Chain, Defaults}
use Rattle.ov_dot.specs.Grammar.{Assignment, Opening, Closing, spell_statement, spell_statements, IsBalanced}
use Rattle.ov_dot.specs.Grammar.{with_entry, with_ends, with_statement, with_statements, Strictness, Lax, IsStrict}
use Rattle.ov_dot.specs.Grammar.{GraphName, Unnamed, IsNamed, File, spell_strictness, spell_name, graph_kind}
use Rattle.ov_dot.specs.Grammar.{spell_file, said_by}

-- where a reading stands
abbrev pub here : Bool → ℕ → GrammarPlace → Lexeme → ℕ → Reading
here d n p o l = record { directed = d; depth = n; place = p; name = o; line = l }

-- ---- attributes

data Inside : Type 0 where
  AtStart : Inside
  BehindName : Inside
  BehindValue : Inside

abbrev inside_place : Inside → GrammarPlace
inside_place AtStart = InList
inside_place BehindName = Attribute
inside_place BehindValue = Valued

-- these tokens lead from a place to a place in a list
abbrev LeadsInside : Bool → ℕ → Lexeme → GrammarPlace → ℕ → List Lexeme → Type 0
LeadsInside d n o p l tokens =
    (j : Inside) × (m : ℕ)
    × ((said : Said) (rest : List Lexeme) →
    read_on (Ok (here d n p o l)) said (tokens ++ rest) ≡ read_on (Ok (here d n (inside_place j) o m)) said rest)

setting_read :
    (d : Bool) (n : ℕ) (o : Lexeme) (v : Setting) (e : Ending) (l : ℕ)
    → LeadsInside d n o Attribute l (spell_setting v ++ spell_ending e)
unfolding read_on
setting_read d n o NoValue NoEnding l = (BehindName, l, λ said rest. refl)
setting_read d n o NoValue (CommaEnding s) l = (AtStart, s.line, λ said rest. refl)
setting_read d n o NoValue (SemicolonEnding s) l = (AtStart, s.line, λ said rest. refl)
setting_read d n o (HasValue q (NameValue (Word t))) NoEnding l = (BehindValue, t.line, λ said rest. refl)
setting_read d n o (HasValue q (NameValue (Word t))) (CommaEnding s) l = (AtStart, s.line, λ said rest. refl)
setting_read d n o (HasValue q (NameValue (Word t))) (SemicolonEnding s) l = (AtStart, s.line, λ said rest. refl)
setting_read d n o (HasValue q (NameValue (Text t))) NoEnding l = (BehindValue, t.line, λ said rest. refl)
setting_read d n o (HasValue q (NameValue (Text t))) (CommaEnding s) l = (AtStart, s.line, λ said rest. refl)
setting_read d n o (HasValue q (NameValue (Text t))) (SemicolonEnding s) l = (AtStart, s.line, λ said rest. refl)
setting_read d n o (HasValue q (HtmlValue t)) NoEnding l = (BehindValue, t.line, λ said rest. refl)
setting_read d n o (HasValue q (HtmlValue t)) (CommaEnding s) l = (AtStart, s.line, λ said rest. refl)
setting_read d n o (HasValue q (HtmlValue t)) (SemicolonEnding s) l = (AtStart, s.line, λ said rest. refl)

item_named :
    (d : Bool) (n : ℕ) (o : Lexeme) (i : Inside) (name : NodeName) (l : ℕ) (said : Said) (rest : List Lexeme)
    → read_on (Ok (here d n (inside_place i) o l)) said (named name ∷ rest) ≡ read_on (Ok (here d n Attribute o
    (named name).line)) said rest
unfolding read_on
item_named d n o AtStart (Word s) l said rest = refl
item_named d n o AtStart (Text s) l said rest = refl
item_named d n o BehindName (Word s) l said rest = refl
item_named d n o BehindName (Text s) l said rest = refl
item_named d n o BehindValue (Word s) l said rest = refl
item_named d n o BehindValue (Text s) l said rest = refl

items_read :
    (d : Bool) (n : ℕ) (o : Lexeme) (i : Inside) (items : List Item) (l : ℕ)
    → LeadsInside d n o (inside_place i) l (spell_items items)
items_read d n o i [] l = (i, l, λ said rest. refl)
items_read d n o i (item ∷ items) l =
    let first = setting_read d n o item.setting item.ending (named item.name).line in
    let later = items_read d n o first.0 items first.1 in (
      later.0,
      later.1,
      λ said rest.
          ap (read_on (Ok (here d n (inside_place i) o l)) said)
          (append_assoc (spell_item item) (spell_items items) rest)
          ∙ item_named d n o i item.name l said ((spell_setting item.setting ++ spell_ending item.ending) ++
          (spell_items items ++ rest))
          ∙ first.2 said (spell_items items ++ rest)
          ∙ later.2 said rest,
    )

closing_read :
    (d : Bool) (n : ℕ) (o : Lexeme) (i : Inside) (s : Spot) (l : ℕ) (said : Said) (rest : List Lexeme)
    → read_on (Ok (here d n (inside_place i) o l)) said (token CloseBracket s ∷ rest) ≡ read_on (Ok
    (here d n Listed o s.line)) said rest
unfolding read_on
closing_read d n o AtStart s l said rest = refl
closing_read d n o BehindName s l said rest = refl
closing_read d n o BehindValue s l said rest = refl

-- behind the opening bracket of a list
bracket_read :
    (d : Bool) (n : ℕ) (o : Lexeme) (list : Attributes) (l : ℕ) (said : Said) (rest : List Lexeme)
    → read_on (Ok (here d n InList o l)) said ((spell_items list.items ++ token CloseBracket list.closing ∷ []) ++ rest)
    ≡ read_on (Ok (here d n Listed o list.closing.line)) said rest
bracket_read d n o list l said rest =
    let items = items_read d n o AtStart list.items l in
    ap (read_on (Ok (here d n InList o l)) said) (append_assoc (spell_items list.items)
    (token CloseBracket list.closing ∷ []) rest)
    ∙ items.2 said (token CloseBracket list.closing ∷ rest)
    ∙ closing_read d n o items.0 list.closing items.1 said rest

another_list :
    (d : Bool) (n : ℕ) (o : Lexeme) (list : Attributes) (l : ℕ) (said : Said) (rest : List Lexeme)
    → read_on (Ok (here d n Listed o l)) said (spell_attributes list ++ rest) ≡ read_on (Ok
    (here d n Listed o list.closing.line)) said rest
unfolding read_on
another_list d n o list l said rest = bracket_read d n o list list.opening.line said rest

lists_read :
    (d : Bool) (n : ℕ) (o : Lexeme) (lists : List Attributes) (l : ℕ)
    → (m : ℕ) × ((said : Said) (rest : List Lexeme) →
    read_on (Ok (here d n Listed o l)) said (spell_lists lists ++ rest) ≡ read_on (Ok
    (here d n Listed o m)) said rest)
lists_read d n o [] l = (l, λ said rest. refl)
lists_read d n o (list ∷ lists) l =
    let later = lists_read d n o lists list.closing.line in (
      later.0,
      λ said rest.
          ap (read_on (Ok (here d n Listed o l)) said) (append_assoc (spell_attributes list) (spell_lists lists) rest)
          ∙ another_list d n o list l said (spell_lists lists ++ rest)
          ∙ later.1 said rest,
    )

-- ---- nodes and edges

data Stop : Type 0 where
  AtNamed : Stop
  AtMember : Stop
  AtPorted : Stop
  AtDirected : Stop

abbrev stop_place : Stop → GrammarPlace
stop_place AtNamed = Named
stop_place AtMember = Member
stop_place AtPorted = Ported
stop_place AtDirected = Directed

-- what is said once it is known that the last name is one of a node
abbrev full : Stop → NodeName → Said → Said
full AtNamed name said = with_entry name said
full AtMember name said = said
full AtPorted name said = said
full AtDirected name said = said

-- the port of the first node of a statement
first_port :
    (d : Bool) (n : ℕ) (name : NodeName) (port : Port) (l : ℕ) (said : Said)
    → (s : Stop) × (m : ℕ) × (now : Said) × (full s name now ≡ with_entry name said)
    × ((rest : List Lexeme) →
    read_on (Ok (here d n Named (named name) l)) said (spell_port port ++ rest)
    ≡ read_on (Ok (here d n (stop_place s) (named name) m)) now rest)
unfolding read_on
first_port d n name NoPort l said = (AtNamed, l, said, refl, λ rest. refl)
first_port d n name (AtPort c (Word p)) l said = (AtPorted, p.line, with_entry name said, refl, λ rest. refl)
first_port d n name (AtPort c (Text p)) l said = (AtPorted, p.line, with_entry name said, refl, λ rest. refl)
first_port d n name (AtSide c (Word p) e (Word q)) l said =
    (AtDirected, q.line, with_entry name said, refl, λ rest. refl)
first_port d n name (AtSide c (Word p) e (Text q)) l said =
    (AtDirected, q.line, with_entry name said, refl, λ rest. refl)
first_port d n name (AtSide c (Text p) e (Word q)) l said =
    (AtDirected, q.line, with_entry name said, refl, λ rest. refl)
first_port d n name (AtSide c (Text p) e (Text q)) l said =
    (AtDirected, q.line, with_entry name said, refl, λ rest. refl)

-- the port of another end of an edge
next_port :
    (d : Bool) (n : ℕ) (name : NodeName) (port : Port) (l : ℕ) (said : Said)
    → (s : Stop) × (m : ℕ) × (full s name said ≡ said)
    × ((rest : List Lexeme) →
    read_on (Ok (here d n Member (named name) l)) said (spell_port port ++ rest)
    ≡ read_on (Ok (here d n (stop_place s) (named name) m)) said rest)
unfolding read_on
next_port d n name NoPort l said = (AtMember, l, refl, λ rest. refl)
next_port d n name (AtPort c (Word p)) l said = (AtPorted, p.line, refl, λ rest. refl)
next_port d n name (AtPort c (Text p)) l said = (AtPorted, p.line, refl, λ rest. refl)
next_port d n name (AtSide c (Word p) e (Word q)) l said = (AtDirected, q.line, refl, λ rest. refl)
next_port d n name (AtSide c (Word p) e (Text q)) l said = (AtDirected, q.line, refl, λ rest. refl)
next_port d n name (AtSide c (Text p) e (Word q)) l said = (AtDirected, q.line, refl, λ rest. refl)
next_port d n name (AtSide c (Text p) e (Text q)) l said = (AtDirected, q.line, refl, λ rest. refl)

-- an edge and the name at its other end
edge_read :
    (d : Bool) (n : ℕ) (from to : NodeName) (s : Stop) (e : Spot) (l : ℕ) (said : Said) (rest : List Lexeme)
    → read_on (Ok (here d n (stop_place s) (named from) l)) said (token (edge_kind d) e ∷ named to ∷ rest)
    ≡ read_on (Ok (here d n Member (named to) (named to).line)) (with_edge d (named from) (named to)
    (full s from said)) rest
unfolding read_on
edge_read true n from (Word t) AtNamed e l said rest = refl
edge_read true n from (Text t) AtNamed e l said rest = refl
edge_read false n from (Word t) AtNamed e l said rest = refl
edge_read false n from (Text t) AtNamed e l said rest = refl
edge_read true n from (Word t) AtMember e l said rest = refl
edge_read true n from (Text t) AtMember e l said rest = refl
edge_read false n from (Word t) AtMember e l said rest = refl
edge_read false n from (Text t) AtMember e l said rest = refl
edge_read true n from (Word t) AtPorted e l said rest = refl
edge_read true n from (Text t) AtPorted e l said rest = refl
edge_read false n from (Word t) AtPorted e l said rest = refl
edge_read false n from (Text t) AtPorted e l said rest = refl
edge_read true n from (Word t) AtDirected e l said rest = refl
edge_read true n from (Text t) AtDirected e l said rest = refl
edge_read false n from (Word t) AtDirected e l said rest = refl
edge_read false n from (Text t) AtDirected e l said rest = refl

ends_read :
    (d : Bool) (n : ℕ) (from : NodeName) (ends : List End) (s : Stop) (l : ℕ) (said : Said)
    → (t : Stop) × (to : NodeName) × (m : ℕ) × (now : Said) × (full t to now ≡ with_ends d from ends (full s from said))
    × ((rest : List Lexeme) →
    read_on (Ok (here d n (stop_place s) (named from) l)) said (spell_ends d ends ++ rest)
    ≡ read_on (Ok (here d n (stop_place t) (named to) m)) now rest)
ends_read d n from [] s l said = (s, from, l, said, refl, λ rest. refl)
ends_read d n from (end ∷ ends) s l said =
    let one = with_edge d (named from) (named end.name) (full s from said) in
    let port = next_port d n end.name end.port (named end.name).line one in
    let later = ends_read d n end.name ends port.0 port.1 one in (
      later.0,
      later.1,
      later.2,
      later.3,
      later.4 ∙ ap (with_ends d end.name ends) port.2,
      λ rest.
          edge_read d n from end.name s end.edge l said ((spell_port end.port ++ spell_ends d ends) ++ rest)
          ∙ ap (read_on (Ok (here d n Member (named end.name) (named end.name).line)) one) (append_assoc
          (spell_port end.port) (spell_ends d ends) rest)
          ∙ port.3 (spell_ends d ends ++ rest)
          ∙ later.5 rest,
    )

-- ---- statements

-- kinds of tokens with which a statement, or what follows the last one, may begin
data Starter : Type 0 where
  BySemicolon : Starter
  ByWord : Starter
  ByText : Starter
  ByGraph : Starter
  ByNode : Starter
  ByEdge : Starter
  BySubgraph : Starter
  ByOpening : Starter
  ByClosing : Starter

abbrev starter_kind : Starter → Kind
starter_kind BySemicolon = Semicolon
starter_kind ByWord = Bare
starter_kind ByText = Quoted
starter_kind ByGraph = Graph
starter_kind ByNode = Node
starter_kind ByEdge = Edge
starter_kind BySubgraph = Subgraph
starter_kind ByOpening = OpenBrace
starter_kind ByClosing = CloseBrace

-- tokens begin so
abbrev Begins : List Lexeme → Type 0
Begins tokens = (k : Starter) × (s : Spot) × (rest : List Lexeme) × (tokens ≡ token (starter_kind k) s ∷ rest)

-- behind a node a statement may begin
node_ends :
    (d : Bool) (n : ℕ) (name : NodeName) (s : Stop) (k : Starter) (spot : Spot) (l : ℕ) (said : Said)
    (rest : List Lexeme)
    → read_on (Ok (here d n (stop_place s) (named name) l)) said (token (starter_kind k) spot ∷ rest)
    ≡ read_on (Ok (here d n Body (named name) l)) (full s name said) (token (starter_kind k) spot ∷ rest)
unfolding read_on
node_ends d n name AtNamed BySemicolon spot l said rest = refl
node_ends d n name AtNamed k spot l said rest = refl
node_ends d n name AtMember BySemicolon spot l said rest = refl
node_ends d n name AtMember k spot l said rest = refl
node_ends d n name AtPorted BySemicolon spot l said rest = refl
node_ends d n name AtPorted k spot l said rest = refl
node_ends d n name AtDirected BySemicolon spot l said rest = refl
node_ends d n name AtDirected k spot l said rest = refl

-- and behind a list of attributes
list_ends :
    (d : Bool) (n : ℕ) (o : Lexeme) (k : Starter) (spot : Spot) (l : ℕ) (said : Said) (rest : List Lexeme)
    → read_on (Ok (here d n Listed o l)) said (token (starter_kind k) spot ∷ rest)
    ≡ read_on (Ok (here d n Body o l)) said (token (starter_kind k) spot ∷ rest)
unfolding read_on
list_ends d n o BySemicolon spot l said rest = refl
list_ends d n o k spot l said rest = refl

lists_end :
    (d : Bool) (n : ℕ) (o : Lexeme) (lists : List Attributes) (l : ℕ)
    → (m : ℕ) × ((said : Said) (rest : List Lexeme) → Begins rest →
    read_on (Ok (here d n Listed o l)) said (spell_lists lists ++ rest) ≡ read_on (Ok
    (here d n Body o m)) said rest)
lists_end d n o lists l =
    let lists_are = lists_read d n o lists l in (
      lists_are.0,
      λ said rest begins.
          lists_are.1 said rest
          ∙ ap (read_on (Ok (here d n Listed o lists_are.0)) said) begins.3
          ∙ list_ends d n o begins.0 begins.1 lists_are.0 said begins.2
          ∙ ap (read_on (Ok (here d n Body o lists_are.0)) said) (sym begins.3),
    )

first_list :
    (d : Bool) (n : ℕ) (name : NodeName) (s : Stop) (list : Attributes) (l : ℕ) (said : Said) (rest : List Lexeme)
    → read_on (Ok (here d n (stop_place s) (named name) l)) said (spell_attributes list ++ rest)
    ≡ read_on (Ok (here d n Listed (named name) list.closing.line)) (full s name said) rest
unfolding read_on
first_list d n name AtNamed list l said rest =
    bracket_read d n (named name) list list.opening.line (with_entry name said) rest
first_list d n name AtMember list l said rest = bracket_read d n (named name) list list.opening.line said rest
first_list d n name AtPorted list l said rest = bracket_read d n (named name) list list.opening.line said rest
first_list d n name AtDirected list l said rest = bracket_read d n (named name) list list.opening.line said rest

-- behind a node: its lists, and then a statement may begin
node_lists :
    (d : Bool) (n : ℕ) (name : NodeName) (s : Stop) (lists : List Attributes) (l : ℕ)
    → (m : ℕ) × ((said : Said) (rest : List Lexeme) → Begins rest →
    read_on (Ok (here d n (stop_place s) (named name) l)) said (spell_lists lists ++ rest)
    ≡ read_on (Ok (here d n Body (named name) m)) (full s name said) rest)
node_lists d n name s [] l = (
  l,
  λ said rest begins.
      ap (read_on (Ok (here d n (stop_place s) (named name) l)) said) begins.3
      ∙ node_ends d n name s begins.0 begins.1 l said begins.2
      ∙ ap (read_on (Ok (here d n Body (named name) l)) (full s name said)) (sym begins.3),
)
node_lists d n name s (list ∷ lists) l =
    let later = lists_end d n (named name) lists list.closing.line in (
      later.0,
      λ said rest begins.
          ap (read_on (Ok (here d n (stop_place s) (named name) l)) said) (append_assoc (spell_attributes list)
          (spell_lists lists) rest)
          ∙ first_list d n name s list l said (spell_lists lists ++ rest)
          ∙ later.1 (full s name said) rest begins,
    )

-- these tokens are read where a statement may begin, and then one may begin again
abbrev IsRead : Bool → ℕ → ℕ → Lexeme → ℕ → List Lexeme → Said → Said → Type 0
IsRead d n k o l tokens said now =
    (p : Lexeme) × (m : ℕ)
    × ((rest : List Lexeme) → Begins rest →
    read_on (Ok (here d n Body o l)) said (tokens ++ rest) ≡ read_on (Ok (here d k Body p m)) now rest)

first_named :
    (d : Bool) (n : ℕ) (o : Lexeme) (name : NodeName) (l : ℕ) (said : Said) (rest : List Lexeme)
    → read_on (Ok (here d n Body o l)) said (named name ∷ rest) ≡ read_on (Ok (here d n Named (named name)
    (named name).line)) said rest
unfolding read_on
first_named d n o (Word s) l said rest = refl
first_named d n o (Text s) l said rest = refl

chain_read :
    (d : Bool) (n : ℕ) (o : Lexeme) (l : ℕ) (first : NodeName) (port : Port) (ends : List End)
    (lists : List Attributes) (said : Said)
    → IsRead d n n o l (spell_statement d (Chain first port ends lists)) said (with_ends d first ends
    (with_entry first said))
chain_read d n o l first port ends lists said =
    let at_port = first_port d n first port (named first).line said in
    let at_ends = ends_read d n first ends at_port.0 at_port.1 at_port.2 in
    let at_lists = node_lists d n at_ends.1 at_ends.0 lists at_ends.2 in (
      named at_ends.1,
      at_lists.0,
      λ rest begins.
          first_named d n o first l said ((spell_port port ++ (spell_ends d ends ++ spell_lists lists)) ++ rest)
          ∙ ap (read_on (Ok (here d n Named (named first) (named first).line)) said)
          (append_assoc (spell_port port) (spell_ends d ends ++ spell_lists lists) rest)
          ∙ at_port.4 ((spell_ends d ends ++ spell_lists lists) ++ rest)
          ∙ ap (read_on (Ok (here d n (stop_place at_port.0) (named first) at_port.1)) at_port.2)
          (append_assoc (spell_ends d ends) (spell_lists lists) rest)
          ∙ at_ends.5 (spell_lists lists ++ rest)
          ∙ at_lists.1 at_ends.3 rest begins
          ∙ ap (λ s. read_on (Ok (here d n Body (named at_ends.1) at_lists.0)) s rest)
          (at_ends.4 ∙ ap (with_ends d first ends) at_port.3),
    )

defaults_begin :
    (d : Bool) (n : ℕ) (o : Lexeme) (whose : Whose) (spot : Spot) (list : Attributes) (l : ℕ) (said : Said)
    (rest : List Lexeme)
    → read_on (Ok (here d n Body o l)) said (token (whose_kind whose) spot ∷ (spell_attributes list ++ rest))
    ≡ read_on (Ok (here d n Listed o list.closing.line)) said rest
unfolding read_on
defaults_begin d n o OfGraph spot list l said rest = bracket_read d n o list list.opening.line said rest
defaults_begin d n o OfNodes spot list l said rest = bracket_read d n o list list.opening.line said rest
defaults_begin d n o OfEdges spot list l said rest = bracket_read d n o list list.opening.line said rest

defaults_read :
    (d : Bool) (n : ℕ) (o : Lexeme) (l : ℕ) (whose : Whose) (spot : Spot) (list : Attributes)
    (lists : List Attributes) (said : Said)
    → IsRead d n n o l (spell_statement d (Defaults whose spot list lists)) said said
defaults_read d n o l whose spot list lists said =
    let later = lists_end d n o lists list.closing.line in (
      o,
      later.0,
      λ rest begins.
          ap (λ ts. read_on (Ok (here d n Body o l)) said (token (whose_kind whose) spot ∷ ts)) (append_assoc
          (spell_attributes list) (spell_lists lists) rest)
          ∙ defaults_begin d n o whose spot list l said (spell_lists lists ++ rest)
          ∙ later.1 said rest begins,
    )

assignment_read :
    (d : Bool) (n : ℕ) (o : Lexeme) (l : ℕ) (name : NodeName) (equals : Spot) (value : Value) (said : Said)
    → IsRead d n n o l (spell_statement d (Assignment name equals value)) said said
unfolding read_on
assignment_read d n o l (Word s) equals (NameValue (Word t)) said = (token Bare s, t.line, λ rest begins. refl)
assignment_read d n o l (Word s) equals (NameValue (Text t)) said = (token Bare s, t.line, λ rest begins. refl)
assignment_read d n o l (Word s) equals (HtmlValue t) said = (token Bare s, t.line, λ rest begins. refl)
assignment_read d n o l (Text s) equals (NameValue (Word t)) said = (token Quoted s, t.line, λ rest begins. refl)
assignment_read d n o l (Text s) equals (NameValue (Text t)) said = (token Quoted s, t.line, λ rest begins. refl)
assignment_read d n o l (Text s) equals (HtmlValue t) said = (token Quoted s, t.line, λ rest begins. refl)

opening_read :
    (d : Bool) (n : ℕ) (o : Lexeme) (l : ℕ) (title : Title) (brace : Spot) (said : Said)
    → IsRead d n (n + 1) o l (spell_statement d (Opening title brace)) said said
unfolding read_on
opening_read d n o l NoTitle brace said = (o, brace.line, λ rest begins. refl)
opening_read d n o l (Untitled subgraph) brace said = (o, brace.line, λ rest begins. refl)
opening_read d n o l (Titled subgraph (Word s)) brace said = (o, brace.line, λ rest begins. refl)
opening_read d n o l (Titled subgraph (Text s)) brace said = (o, brace.line, λ rest begins. refl)

-- the brace that ends a subgraph
closing_inner :
    (d : Bool) (n : ℕ) (o : Lexeme) (l : ℕ) (brace : Spot) (said : Said) → nat_le n 1 ≡ false
    → IsRead d n (n - 1) o l (spell_statement d (Closing brace)) said said
unfolding read_on
closing_inner d n o l brace said inner = (
  o,
  brace.line,
  λ rest begins.
      ap (λ v. read_on (Ok (here d (n - 1) (cond v Over Body) o brace.line)) said rest) inner,
)

-- ---- files

-- behind the statements one begins, or a brace closes the file
begin_statements :
    (d : Bool) (statements : List Statement) (closing : Spot)
    → Begins (spell_statements d statements ++ token CloseBrace closing ∷ [])
begin_statements d [] closing = (ByClosing, closing, [], refl)
begin_statements d (Nothing s ∷ statements) closing = (BySemicolon, s, _, refl)
begin_statements d (Chain (Word s) port ends lists ∷ statements) closing = (ByWord, s, _, refl)
begin_statements d (Chain (Text s) port ends lists ∷ statements) closing = (ByText, s, _, refl)
begin_statements d (Defaults OfGraph s list lists ∷ statements) closing = (ByGraph, s, _, refl)
begin_statements d (Defaults OfNodes s list lists ∷ statements) closing = (ByNode, s, _, refl)
begin_statements d (Defaults OfEdges s list lists ∷ statements) closing = (ByEdge, s, _, refl)
begin_statements d (Assignment (Word s) equals value ∷ statements) closing = (ByWord, s, _, refl)
begin_statements d (Assignment (Text s) equals value ∷ statements) closing = (ByText, s, _, refl)
begin_statements d (Opening NoTitle s ∷ statements) closing = (ByOpening, s, _, refl)
begin_statements d (Opening (Untitled s) brace ∷ statements) closing = (BySubgraph, s, _, refl)
begin_statements d (Opening (Titled s name) brace ∷ statements) closing = (BySubgraph, s, _, refl)
begin_statements d (Closing s ∷ statements) closing = (ByClosing, s, _, refl)

-- all statements, in a file whose outer brace is open, and the brace that closes it
abbrev AreRead : Bool → ℕ → Lexeme → ℕ → List Statement → Spot → Said → Type 0
AreRead d n o l statements closing said =
    read_on (Ok (here d n Body o l)) said (spell_statements d statements ++ token CloseBrace closing ∷ [])
    ≡ Ok (with_statements d statements said)

one_more :
    (d : Bool) (n k : ℕ) (o : Lexeme) (l : ℕ) (statement : Statement) (statements : List Statement) (closing : Spot)
    (said : Said)
    → IsRead d n k o l (spell_statement d statement) said (with_statement d statement said)
    → ((p : Lexeme) (m : ℕ) → AreRead d k p m statements closing (with_statement d statement said))
    → AreRead d n o l (statement ∷ statements) closing said
one_more d n k o l statement statements closing said first later =
    let rest = spell_statements d statements ++ token CloseBrace closing ∷ [] in
    ap (read_on (Ok (here d n Body o l)) said) (append_assoc (spell_statement d statement)
    (spell_statements d statements) (token CloseBrace closing ∷ []))
    ∙ first.2 rest (begin_statements d statements closing)
    ∙ later first.0 first.1

nothing_read :
    (d : Bool) (n : ℕ) (o : Lexeme) (l : ℕ) (s : Spot) (said : Said)
    → IsRead d n n o l (spell_statement d (Nothing s)) said said
unfolding read_on
nothing_read d n o l s said = (o, s.line, λ rest begins. refl)

-- the brace that closes the file
last_brace :
    (d : Bool) (n : ℕ) (o : Lexeme) (l : ℕ) (closing : Spot) (said : Said) → n ≡ 1 → AreRead d n o l [] closing said
unfolding read_on
last_brace d n o l closing said is =
    subst (λ k. AreRead d k o l [] closing said) (sym is) refl

more_than_one : (depth : ℕ) → 0 < depth → nat_le (depth + 1) 1 ≡ false
more_than_one depth some = grind (arith, nat_tests)

statements_read :
    (d : Bool) (depth n : ℕ) (o : Lexeme) (l : ℕ) (statements : List Statement) (closing : Spot) (said : Said)
    → n ≡ depth + 1 → IsBalanced depth statements → AreRead d n o l statements closing said
statements_read d depth n o l [] closing said is balanced =
    let zero_is : depth ≡ 0 = balanced in
    last_brace d n o l closing said (omega arith)
statements_read d depth n o l (Nothing s ∷ statements) closing said is balanced =
    one_more d n n o l (Nothing s) statements closing said (nothing_read d n o l s said)
    (λ p m. statements_read d depth n p m statements closing said is balanced)
statements_read d depth n o l (Chain first port ends lists ∷ statements) closing said is balanced =
    one_more d n n o l (Chain first port ends lists) statements closing said
    (chain_read d n o l first port ends lists said)
    (λ p m. statements_read d depth n p m statements closing (with_ends d first ends
    (with_entry first said)) is balanced)
statements_read d depth n o l (Defaults whose spot list lists ∷ statements) closing said is balanced =
    one_more d n n o l (Defaults whose spot list lists) statements closing said
    (defaults_read d n o l whose spot list lists said)
    (λ p m. statements_read d depth n p m statements closing said is balanced)
statements_read d depth n o l (Assignment name equals value ∷ statements) closing said is balanced =
    one_more d n n o l (Assignment name equals value) statements closing said
    (assignment_read d n o l name equals value said)
    (λ p m. statements_read d depth n p m statements closing said is balanced)
statements_read d depth n o l (Opening title brace ∷ statements) closing said is balanced =
    let deeper : n + 1 ≡ depth + 1 + 1 = omega arith in
    one_more d n (n + 1) o l (Opening title brace) statements closing said (opening_read d n o l title brace said)
    (λ p m. statements_read d (depth + 1) (n + 1) p m statements closing said deeper balanced)
statements_read d depth n o l (Closing brace ∷ statements) closing said is balanced =
    let some = balanced.0 in
    let inner : nat_le n 1 ≡ false = ap (λ k. nat_le k 1) is ∙ more_than_one depth some in
    let shallower : n - 1 ≡ depth - 1 + 1 = omega arith in
    one_more d n (n - 1) o l (Closing brace) statements closing said (closing_inner d n o l brace said inner)
    (λ p m. statements_read d (depth - 1) (n - 1) p m statements closing said shallower balanced.1)

-- a file, from its beginning to its outer brace
heading_read :
    (d : Bool) (strictness : Strictness) (spot : Spot) (name : GraphName) (opening : Spot) (o : Lexeme)
    (rest : List Lexeme)
    → read_on (Ok (at_beginning o)) nothing_said (spell_strictness strictness ++ (token (graph_kind d) spot ∷
    (spell_name name ++ (token OpenBrace opening ∷ rest))))
    ≡ read_on (Ok (here d (0 + 1) Body o opening.line)) nothing_said rest
unfolding read_on
heading_read true Lax spot Unnamed opening o rest = refl
heading_read true Lax spot (IsNamed (Word s)) opening o rest = refl
heading_read true Lax spot (IsNamed (Text s)) opening o rest = refl
heading_read true (IsStrict t) spot Unnamed opening o rest = refl
heading_read true (IsStrict t) spot (IsNamed (Word s)) opening o rest = refl
heading_read true (IsStrict t) spot (IsNamed (Text s)) opening o rest = refl
heading_read false Lax spot Unnamed opening o rest = refl
heading_read false Lax spot (IsNamed (Word s)) opening o rest = refl
heading_read false Lax spot (IsNamed (Text s)) opening o rest = refl
heading_read false (IsStrict t) spot Unnamed opening o rest = refl
heading_read false (IsStrict t) spot (IsNamed (Word s)) opening o rest = refl
heading_read false (IsStrict t) spot (IsNamed (Text s)) opening o rest = refl

-- a file, from any token that is remembered before its first name
pub file_read_from :
    (o : Lexeme) (file : File) → IsBalanced 0 file.statements
    → read_on (Ok (at_beginning o)) nothing_said (spell_file file) ≡ Ok (said_by file)
file_read_from o file balanced =
    let all = spell_statements file.directed file.statements ++ token CloseBrace file.closing ∷ [] in
    heading_read file.directed file.strictness file.spot file.name file.opening o all
    ∙ statements_read file.directed 0
    (0 + 1) o file.opening.line file.statements file.closing nothing_said refl balanced

-- tokens are read from some token that is remembered
pub begun_by :
    (tokens : List Lexeme) → (o : Lexeme) × (statements_of tokens ≡ read_on (Ok (at_beginning o)) nothing_said tokens)
unfolding read_on
begun_by [] = (token Graph (record { line = 1; text = [] }), refl)
begun_by (t ∷ ts) = (t, refl)

-- the theorem
pub file_read : (file : File) → IsBalanced 0 file.statements → statements_of (spell_file file) ≡ Ok (said_by file)
file_read file balanced =
    let begun = begun_by (spell_file file) in begun.1 ∙ file_read_from begun.0 file balanced
