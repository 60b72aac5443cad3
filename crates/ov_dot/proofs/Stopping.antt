-- Where the reading of tokens stops, and which files begin with the tokens before.
use Rattle.std.proofs.Common.{◌≡◌, ◌∙◌, ◌⊎◌, ◌+◌, ◌-◌, ◌++◌, ℕ, zero, suc, Bool, true, false, nat_le, cond, List, []}
use Rattle.std.proofs.Common.{◌∷◌, Option, Some, None, Result, Ok, Err, inl, inr, refl, sym, ap, arith}
use Rattle.std.proofs.Common.{append_assoc}
use Rattle.std.proofs.lemmas.Bool.Decides.{nat_tests}
use Rattle.ov_dot.specs.Tokens.{Lexeme}
use Rattle.ov_dot.specs.declared.token.Kind.{Kind}
use Rattle.ov_dot.specs.declared.token.Kind.TheVariants.{Strict, Graph, Bare, OpenBrace, CloseBrace}
use Rattle.ov_dot.specs.declared.token.Kind.TheVariants.{OpenBracket, CloseBracket, Semicolon, Line, Arrow}
use Rattle.ov_dot.specs.declared.grammar_state.GrammarPlace.{GrammarPlace}
use Rattle.ov_dot.specs.declared.grammar_state.GrammarPlace.TheVariants.{Beginning, BehindStrict, BehindKind, BehindTitle}
use Rattle.ov_dot.specs.declared.grammar_state.GrammarPlace.TheVariants.{Body, Named}
use Rattle.ov_dot.specs.declared.grammar_state.GrammarPlace.TheVariants.{Member, PortNext, Ported, CompassNext, Directed}
use Rattle.ov_dot.specs.declared.grammar_state.GrammarPlace.TheVariants.{EndNext}
use Rattle.ov_dot.specs.declared.grammar_state.GrammarPlace.TheVariants.{ListNext, InList, Attribute, ValueNext, Valued}
use Rattle.ov_dot.specs.declared.grammar_state.GrammarPlace.TheVariants.{Listed}
use Rattle.ov_dot.specs.declared.grammar_state.GrammarPlace.TheVariants.{AssignedNext, SubgraphNext, SubgraphTitled, Over}
use Rattle.ov_dot.specs.declared.fault.DotFault.{DotFault}
use Rattle.ov_dot.specs.declared.fault.DotFault.TheVariants.{UnreadLine}
use Rattle.ov_dot.specs.declared.fault.Why.{Why}
use Rattle.ov_dot.specs.declared.fault.Why.TheVariants.{WrongEdge}
use Rattle.ov_dot.specs.Code.Diagram.{follows}
use Rattle.ov_dot.specs.Sayings.{Said, nothing_said, with_edge}
use Rattle.ov_dot.specs.Code.Statements.{Reading, at_beginning, ended, is_wrong_edge, moved, read_on, said_behind}
use Rattle.ov_dot.specs.Code.Statements.{place_behind, step, step_to, with_first}
use Rattle.ov_dot.specs.Grammar.{AreFile, BeginFile, Spot, token}
use Rattle.ov_dot.specs.Readings.{last_line}
use Rattle.ov_dot.proofs.Completing.{file_from, not_ok}
use Rattle.ov_dot.proofs.Parsing.{file_read_from, here}

-- ---- at each place a file can be completed

-- anywhere
abbrev spot : Spot
spot = record { line = 1; text = [] }

-- so many braces, and one more
abbrev braces : ℕ → List Lexeme
braces zero = token CloseBrace spot ∷ []
braces (suc n) = token CloseBrace spot ∷ braces n

some_open : (n : ℕ) → nat_le (suc n + 1) 1 ≡ false
some_open n = grind (arith, nat_tests)

braces_read :
    (m : ℕ) (d : Bool) (o : Lexeme) (l : ℕ) (said : Said)
    → read_on (Ok (here d (m + 1) Body o l)) said (braces m) ≡ Ok said
unfolding read_on
braces_read zero d o l said = refl
braces_read (suc n) d o l said =
    let shallower : suc n + 1 - 1 ≡ n + 1 = omega arith in
    ap (λ v. read_on (Ok (here d (suc n + 1 - 1) (cond v Over Body) o 1)) said (braces n)) (some_open n)
    ∙ ap (λ k. read_on (Ok (here d k Body o 1)) said (braces n)) shallower
    ∙ braces_read n d o 1 said

-- some tokens complete what was read
abbrev Completed : Reading → Said → Type 0
Completed r said = (rest : List Lexeme) × (now : Said) × (read_on (Ok r) said rest ≡ Ok now)

in_body : (n : ℕ) (d : Bool) (o : Lexeme) (l : ℕ) (said : Said) → Completed (here d n Body o l) said
unfolding read_on
in_body zero d o l said = (braces zero, said, refl)
in_body (suc n) d o l said =
    let deeper : suc n ≡ n + 1 = omega arith in (
      braces n,
      said,
      ap (λ k. read_on (Ok (here d k Body o l)) said (braces n)) deeper ∙ braces_read n d o l said,
    )

-- these tokens lead to where a statement may begin
via :
    (r : Reading) (said : Said) (tokens : List Lexeme) (d : Bool) (n : ℕ) (o : Lexeme) (l : ℕ) (now : Said)
    → ((rest : List Lexeme) → read_on (Ok r) said (tokens ++ rest) ≡ read_on (Ok (here d n Body o l)) now rest)
    → Completed r said
via r said tokens d n o l now leads =
    let body = in_body n d o l now in (tokens ++ body.0, body.1, leads body.0 ∙ body.2)

abbrev graph : Lexeme
graph = token Graph spot

abbrev name : Lexeme
name = token Bare spot

abbrev opening : Lexeme
opening = token OpenBrace spot

abbrev bracket : Lexeme
bracket = token OpenBracket spot

abbrev closing : Lexeme
closing = token CloseBracket spot

abbrev semicolon : Lexeme
semicolon = token Semicolon spot

completed :
    (place : GrammarPlace) (d : Bool) (n : ℕ) (o : Lexeme) (l : ℕ) (said : Said) → Completed (here d n place o l) said
unfolding read_on
completed Beginning d n o l said =
    via (here d n Beginning o l) said (graph ∷ opening ∷ []) d (n + 1) o 1 said (λ rest. refl)
completed BehindStrict d n o l said =
    via (here d n BehindStrict o l) said (graph ∷ opening ∷ []) d (n + 1) o 1 said (λ rest. refl)
completed BehindKind d n o l said =
    via (here d n BehindKind o l) said (opening ∷ []) d (n + 1) o 1 said (λ rest. refl)
completed BehindTitle d n o l said =
    via (here d n BehindTitle o l) said (opening ∷ []) d (n + 1) o 1 said (λ rest. refl)
completed Body d n o l said = in_body n d o l said
completed Named d n o l said =
    via (here d n Named o l) said (semicolon ∷ []) d n o 1 (with_first o Semicolon said) (λ rest. refl)
completed Member d n o l said =
    via (here d n Member o l) said (semicolon ∷ []) d n o 1 said (λ rest. refl)
completed PortNext d n o l said =
    via (here d n PortNext o l) said (name ∷ semicolon ∷ []) d n o 1 said (λ rest. refl)
completed Ported d n o l said =
    via (here d n Ported o l) said (semicolon ∷ []) d n o 1 said (λ rest. refl)
completed CompassNext d n o l said =
    via (here d n CompassNext o l) said (name ∷ semicolon ∷ []) d n o 1 said (λ rest. refl)
completed Directed d n o l said =
    via (here d n Directed o l) said (semicolon ∷ []) d n o 1 said (λ rest. refl)
completed EndNext d n o l said =
    via (here d n EndNext o l) said (name ∷ semicolon ∷ []) d n name 1 (with_edge d o name said) (λ rest. refl)
completed ListNext d n o l said =
    via (here d n ListNext o l) said (bracket ∷ closing ∷ semicolon ∷ []) d n o 1 said (λ rest. refl)
completed InList d n o l said =
    via (here d n InList o l) said (closing ∷ semicolon ∷ []) d n o 1 said (λ rest. refl)
completed Attribute d n o l said =
    via (here d n Attribute o l) said (closing ∷ semicolon ∷ []) d n o 1 said (λ rest. refl)
completed ValueNext d n o l said =
    via (here d n ValueNext o l) said (name ∷ closing ∷ semicolon ∷ []) d n o 1 said (λ rest. refl)
completed Valued d n o l said =
    via (here d n Valued o l) said (closing ∷ semicolon ∷ []) d n o 1 said (λ rest. refl)
completed Listed d n o l said =
    via (here d n Listed o l) said (semicolon ∷ []) d n o 1 said (λ rest. refl)
completed AssignedNext d n o l said =
    via (here d n AssignedNext o l) said (name ∷ []) d n o 1 said (λ rest. refl)
completed SubgraphNext d n o l said =
    via (here d n SubgraphNext o l) said (opening ∷ []) d (n + 1) o 1 said (λ rest. refl)
completed SubgraphTitled d n o l said =
    via (here d n SubgraphTitled o l) said (opening ∷ []) d (n + 1) o 1 said (λ rest. refl)
completed Over d n o l said = ([], said, refl)

-- ---- behind an edge

-- the place behind an edge
abbrev pub is_end : GrammarPlace → Bool
is_end EndNext = true
is_end place = false

-- an edge of either kind of graph
abbrev pub is_edge : Kind → Bool
is_edge Line = true
is_edge Arrow = true
is_edge kind = false

-- the last of these tokens is an edge; without one, what the flag says
abbrev pub ends_in_edge : Bool → List Lexeme → Bool
ends_in_edge edge [] = edge
ends_in_edge edge (t ∷ ts) = ends_in_edge (is_edge t.kind) ts

abbrev leads_to_end : Bool → Option GrammarPlace → Bool
leads_to_end edge None = edge
leads_to_end edge (Some place) = is_end place

-- a token leads behind an edge exactly if it is one
leads_by_edge : (place : GrammarPlace) (kind : Kind) → leads_to_end (is_edge kind) (follows place kind) ≡ is_edge kind
leads_by_edge Beginning Strict = refl
leads_by_edge Beginning kind = refl
leads_by_edge BehindStrict Strict = refl
leads_by_edge BehindStrict kind = refl
leads_by_edge BehindKind Strict = refl
leads_by_edge BehindKind kind = refl
leads_by_edge BehindTitle Strict = refl
leads_by_edge BehindTitle kind = refl
leads_by_edge Body Strict = refl
leads_by_edge Body kind = refl
leads_by_edge Named Strict = refl
leads_by_edge Named kind = refl
leads_by_edge Member Strict = refl
leads_by_edge Member kind = refl
leads_by_edge PortNext Strict = refl
leads_by_edge PortNext kind = refl
leads_by_edge Ported Strict = refl
leads_by_edge Ported kind = refl
leads_by_edge CompassNext Strict = refl
leads_by_edge CompassNext kind = refl
leads_by_edge Directed Strict = refl
leads_by_edge Directed kind = refl
leads_by_edge EndNext Strict = refl
leads_by_edge EndNext kind = refl
leads_by_edge ListNext Strict = refl
leads_by_edge ListNext kind = refl
leads_by_edge InList Strict = refl
leads_by_edge InList kind = refl
leads_by_edge Attribute Strict = refl
leads_by_edge Attribute kind = refl
leads_by_edge ValueNext Strict = refl
leads_by_edge ValueNext kind = refl
leads_by_edge Valued Strict = refl
leads_by_edge Valued kind = refl
leads_by_edge Listed Strict = refl
leads_by_edge Listed kind = refl
leads_by_edge AssignedNext Strict = refl
leads_by_edge AssignedNext kind = refl
leads_by_edge SubgraphNext Strict = refl
leads_by_edge SubgraphNext kind = refl
leads_by_edge SubgraphTitled Strict = refl
leads_by_edge SubgraphTitled kind = refl
leads_by_edge Over Strict = refl
leads_by_edge Over kind = refl

place_end :
    (kind : Kind) (n : ℕ) (place : GrammarPlace) → is_end place ≡ is_edge kind
    → is_end (place_behind n kind place) ≡ is_edge kind
place_end CloseBrace n place is =
    elim (nat_le n 1) as (λ v. is_end (cond v Over place) ≡ false) [ true ↦ refl | false ↦ is ]
place_end kind n place is = is

edge_end :
    (wrong : Bool) (r next : Reading) (t : Lexeme) (place : GrammarPlace) → is_end place ≡ is_edge t.kind
    → cond wrong (Err (UnreadLine t.line WrongEdge)) (Ok (moved r t place)) ≡ Ok next
    → is_end next.place ≡ is_edge t.kind
edge_end true r next t place ends is = absurd (not_ok _ next is)
edge_end false r next t place ends is =
    let e : moved r t place ≡ next = cc in
    ap (λ (n : Reading). is_end n.place) (sym e) ∙ place_end t.kind r.depth place ends

step_end :
    (place : Option GrammarPlace) (r next : Reading) (t : Lexeme) → leads_to_end (is_edge t.kind) place ≡ is_edge t.kind
    → step_to r t place ≡ Ok next → is_end next.place ≡ is_edge t.kind
step_end None r next t leads is = absurd (not_ok _ next is)
step_end (Some place) r next t leads is = edge_end (is_wrong_edge r.directed t.kind) r next t place leads is

-- ---- where the reading stops

-- a token that can't follow those before it
pub record StopsAt (r : Reading) (said : Said) (ts : List Lexeme) (fault : DotFault) : Type 0 where
  pub before : List Lexeme
  pub wrong : Lexeme
  pub later : List Lexeme
  pub parts : ts ≡ before ++ wrong ∷ later
  pub behind : Reading
  pub so_far : Said
  pub reads : (rest : List Lexeme) → read_on (Ok r) said (before ++ rest) ≡ read_on (Ok behind) so_far rest
  pub fails : step behind wrong ≡ Err fault
  pub last : ends_in_edge (is_end r.place) before ≡ is_end behind.place

-- the end of the text
pub record StopsBehind (r : Reading) (said : Said) (ts : List Lexeme) (fault : DotFault) : Type 0 where
  pub behind : Reading
  pub so_far : Said
  pub reads : (rest : List Lexeme) → read_on (Ok r) said (ts ++ rest) ≡ read_on (Ok behind) so_far rest
  pub fails : ended behind behind.place so_far ≡ Err fault
  pub is_line : behind.line ≡ last_line r.line ts

abbrev pub Stops : Reading → Said → List Lexeme → DotFault → Type 0
Stops r said ts fault = StopsAt r said ts fault ⊎ StopsBehind r said ts fault

-- the line behind one token more, and the line of one that is refused
edge_line :
    (wrong : Bool) (r next : Reading) (t : Lexeme) (place : GrammarPlace)
    → cond wrong (Err (UnreadLine t.line WrongEdge)) (Ok (moved r t place)) ≡ Ok next → next.line ≡ t.line
edge_line true r next t place is = absurd (not_ok _ next is)
edge_line false r next t place is =
    let e : moved r t place ≡ next = cc in ap (λ (n : Reading). n.line) (sym e)

step_line : (place : Option GrammarPlace) (r next : Reading) (t : Lexeme) → step_to r t place ≡ Ok next → next.line ≡ t.line
step_line None r next t is = absurd (not_ok _ next is)
step_line (Some place) r next t is = edge_line (is_wrong_edge r.directed t.kind) r next t place is

edge_fault :
    (wrong : Bool) (r : Reading) (t : Lexeme) (place : GrammarPlace) (line : ℕ) (why : Why)
    → cond wrong (Err (UnreadLine t.line WrongEdge)) (Ok (moved r t place)) ≡ Err (UnreadLine line why)
    → line ≡ t.line
edge_fault true r t place line why is = let e : t.line ≡ line = cc in sym e
edge_fault false r t place line why is = absurd (not_ok _ (moved r t place) (sym is))

pub step_fault :
    (place : Option GrammarPlace) (r : Reading) (t : Lexeme) (line : ℕ) (why : Why)
    → step_to r t place ≡ Err (UnreadLine line why) → line ≡ t.line
step_fault None r t line why is = let e : t.line ≡ line = cc in sym e
step_fault (Some place) r t line why is = edge_fault (is_wrong_edge r.directed t.kind) r t place line why is

pub end_fault :
    (place : GrammarPlace) (r : Reading) (said : Said) (line : ℕ) (why : Why)
    → ended r place said ≡ Err (UnreadLine line why) → line ≡ r.line
end_fault Over r said line why is = absurd (not_ok _ said (sym is))
end_fault place r said line why is = let e : r.line ≡ line = cc in sym e

stops_next :
    (s : Result Reading DotFault) (t : Lexeme) (ts : List Lexeme) (r : Reading) (said : Said) (fault : DotFault)
    → step r t ≡ s → read_on s (said_behind r t said) ts ≡ Err fault
    → ((next : Reading) → read_on (Ok next) (said_behind r t said) ts ≡ Err fault
    → Stops next (said_behind r t said) ts fault)
    → Stops r said (t ∷ ts) fault
unfolding read_on
stops_next (Err e) t ts r said fault is fails later =
    let same : e ≡ fault = cc in
    inl (record {
      before = [];
      wrong = t;
      later = ts;
      parts = refl;
      behind = r;
      so_far = said;
      reads = λ rest. refl;
      fails = is ∙ ap (λ x. Err x) same;
      last = refl;
    })
stops_next (Ok next) t ts r said fault is fails later = elim (later next fails) [
  | inl at ↦ inl (record {
    before = t ∷ at.before;
    wrong = at.wrong;
    later = at.later;
    parts = ap (λ l. t ∷ l) at.parts;
    behind = at.behind;
    so_far = at.so_far;
    reads = λ rest. ap (λ s. read_on s (said_behind r t said) (at.before ++ rest)) is ∙ at.reads rest;
    fails = at.fails;
    last =
        ap (λ e. ends_in_edge e at.before)
        (sym (step_end (follows r.place t.kind) r next t (leads_by_edge r.place t.kind) is)) ∙ at.last;
  })
  | inr end ↦ inr (record {
    behind = end.behind;
    so_far = end.so_far;
    reads = λ rest. ap (λ s. read_on s (said_behind r t said) (ts ++ rest)) is ∙ end.reads rest;
    fails = end.fails;
    is_line = end.is_line ∙ ap (λ l. last_line l ts) (step_line (follows r.place t.kind) r next t is);
  })
]

pub stops :
    (ts : List Lexeme) (r : Reading) (said : Said) (fault : DotFault) → read_on (Ok r) said ts ≡ Err fault
    → Stops r said ts fault
unfolding read_on
stops [] r said fault is =
    inr (record { behind = r; so_far = said; reads = λ rest. refl; fails = is; is_line = refl })
stops (t ∷ ts) r said fault is =
    stops_next (step r t) t ts r said fault refl is
    (λ next fails. stops ts next (said_behind r t said) fault fails)

-- ---- which files begin so

pub some_begin :
    (o : Lexeme) (before : List Lexeme) (behind : Reading) (so_far : Said)
    → ((rest : List Lexeme) →
    read_on (Ok (at_beginning o)) nothing_said (before ++ rest) ≡ read_on (Ok behind) so_far rest)
    → BeginFile before
some_begin o before behind so_far reads =
    let end = completed behind.place behind.directed behind.depth behind.name behind.line so_far in
    let is = file_from o (before ++ end.0) end.1 (reads end.0 ∙ end.2) in
    record { file = is.0; rest = end.0; spells = is.1 }

-- tokens that are refused are those of no file
pub no_file :
    (o : Lexeme) (tokens : List Lexeme) (fault : DotFault)
    → read_on (Ok (at_beginning o)) nothing_said tokens ≡ Err fault → ¬ AreFile tokens
no_file o tokens fault fails are =
    not_ok fault _
    (sym fails ∙ ap (λ ts. read_on (Ok (at_beginning o)) nothing_said ts) (sym are.1.spelled)
    ∙ file_read_from o are.0 are.1.balanced)

pub none_begins :
    (o : Lexeme) (before : List Lexeme) (t : Lexeme) (fault : DotFault)
    → ((rest : List Lexeme) → read_on (Ok (at_beginning o)) nothing_said (before ++ t ∷ rest) ≡ Err fault)
    → ¬ BeginFile (before ++ t ∷ [])
none_begins o before t fault fails begin =
    no_file o ((before ++ t ∷ []) ++ begin.rest) fault
    (ap (λ ts. read_on (Ok (at_beginning o)) nothing_said ts) (append_assoc before (t ∷ []) begin.rest)
    ∙ fails begin.rest)
    (begin.file, begin.spells)
