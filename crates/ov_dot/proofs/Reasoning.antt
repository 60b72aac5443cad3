-- In which line tokens are no file, and why: from the place where the reading stops to what may come there.
use Rattle.std.proofs.Common.{◌≡◌, ◌∙◌, ◌⊎◌, ◌++◌, ◌&&◌, ◌||◌, not, ℕ, Bool, true, false, cond, List, [], ◌∷◌, Option}
use Rattle.std.proofs.Common.{Some, None, Ok, Err, inl, inr, refl, sym, ap, subst, append_assoc, append-nil}
use Rattle.std.proofs.lemmas.Bool.{and_from, and_parts, true≢false}
use Rattle.ov_dot.specs.Tokens.{Lexeme}
use Rattle.ov_dot.specs.declared.token.Kind.{Kind}
use Rattle.ov_dot.specs.declared.token.Kind.TheVariants.{Strict, Graph, Subgraph, Bare, Html, OpenBrace}
use Rattle.ov_dot.specs.declared.token.Kind.TheVariants.{CloseBrace, OpenBracket, CloseBracket, Line, Arrow}
use Rattle.ov_dot.specs.declared.grammar_state.GrammarPlace.{GrammarPlace}
use Rattle.ov_dot.specs.declared.grammar_state.GrammarPlace.TheVariants.{Beginning, BehindStrict, BehindKind, BehindTitle}
use Rattle.ov_dot.specs.declared.grammar_state.GrammarPlace.TheVariants.{Body, Named}
use Rattle.ov_dot.specs.declared.grammar_state.GrammarPlace.TheVariants.{Member, PortNext, Ported, CompassNext, Directed}
use Rattle.ov_dot.specs.declared.grammar_state.GrammarPlace.TheVariants.{EndNext}
use Rattle.ov_dot.specs.declared.grammar_state.GrammarPlace.TheVariants.{ListNext, InList, Attribute, ValueNext, Valued}
use Rattle.ov_dot.specs.declared.grammar_state.GrammarPlace.TheVariants.{Listed}
use Rattle.ov_dot.specs.declared.grammar_state.GrammarPlace.TheVariants.{AssignedNext, SubgraphNext, SubgraphTitled, Over}
use Rattle.ov_dot.specs.declared.fault.DotFault.{DotFault}
use Rattle.ov_dot.specs.declared.fault.DotFault.TheVariants.{UnreadLine}
use Rattle.ov_dot.specs.declared.fault.Why.{Why}
use Rattle.ov_dot.specs.declared.fault.Why.TheVariants.{NoToken, WrongEdge, SubgraphAsEnd, HtmlText, BehindGraph}
use Rattle.ov_dot.specs.declared.fault.Why.TheVariants.{Unclosed}
use Rattle.ov_dot.specs.Sayings.{Said, nothing_said}
use Rattle.ov_dot.specs.Grammar.{AreFile, Spot, token}
use Rattle.ov_dot.specs.Reasons.{EndInEdge, HasReason, IsEdge, IsReason, Lack, MayCome}
use Rattle.ov_dot.specs.Readings.{EndEarly, HasMisplaced}
use Rattle.ov_dot.specs.Code.Diagram.{follows}
use Rattle.ov_dot.specs.Code.PlaceReasons.{lacking, why_not}
use Rattle.ov_dot.specs.Code.Statements.{Reading, at_beginning, ended, is_wrong_edge, moved, read_on, said_behind}
use Rattle.ov_dot.specs.Code.Statements.{statements_of, step_to}
use Rattle.ov_dot.proofs.Completing.{file_from, not_ok}
use Rattle.ov_dot.proofs.Entries.{or_either, or_first, or_second}
use Rattle.ov_dot.proofs.Parsing.{begun_by, file_read_from, here}
use Rattle.ov_dot.proofs.Stopping.{StopsAt, end_fault, ends_in_edge, is_edge, is_end, no_file}
use Rattle.ov_dot.proofs.Stopping.{none_begins, some_begin, step_fault, stops}

both_ways : (b : Bool) → b ≡ true → b ≡ false → ⊥
both_ways b is not_so = true≢false (sym is ∙ not_so)

is_false : (b : Bool) → not b ≡ true → b ≡ false
is_false true is = sym is
is_false false is = refl

-- ---- what may come at a place

abbrev leads : Option GrammarPlace → Bool
leads None = false
leads (Some place) = true

-- a token of the kind may come
abbrev allows : Reading → Kind → Bool
allows r kind = leads (follows r.place kind) && not (is_wrong_edge r.directed kind)

allowed_edge :
    (wrong : Bool) (r : Reading) (t : Lexeme) (place : GrammarPlace) → not wrong ≡ true
    → (next : Reading) × (cond wrong (Err (UnreadLine t.line WrongEdge)) (Ok (moved r t place)) ≡ Ok next)
allowed_edge true r t place is = absurd (true≢false (sym is))
allowed_edge false r t place is = (moved r t place, refl)

allowed :
    (place : Option GrammarPlace) (r : Reading) (t : Lexeme)
    → (leads place && not (is_wrong_edge r.directed t.kind)) ≡ true
    → (next : Reading) × (step_to r t place ≡ Ok next)
allowed None r t is = absurd (true≢false (sym is))
allowed (Some place) r t is = allowed_edge (is_wrong_edge r.directed t.kind) r t place is

denied_edge :
    (wrong : Bool) (r : Reading) (t : Lexeme) (place : GrammarPlace) → not wrong ≡ false
    → (fault : DotFault) × (cond wrong (Err (UnreadLine t.line WrongEdge)) (Ok (moved r t place)) ≡ Err fault)
denied_edge true r t place is = (UnreadLine t.line WrongEdge, refl)
denied_edge false r t place is = absurd (true≢false is)

denied :
    (place : Option GrammarPlace) (r : Reading) (t : Lexeme)
    → (leads place && not (is_wrong_edge r.directed t.kind)) ≡ false
    → (fault : DotFault) × (step_to r t place ≡ Err fault)
denied None r t is = (UnreadLine t.line (why_not r.place t.kind), refl)
denied (Some place) r t is = denied_edge (is_wrong_edge r.directed t.kind) r t place is

-- ---- what is known of the tokens that were read up to a place

abbrev is_over : GrammarPlace → Bool
is_over Over = true
is_over place = false

record Behind (before : List Lexeme) (r : Reading) : Type 0 where
  may : (kind : Kind) → allows r kind ≡ true → MayCome before kind
  never : (kind : Kind) → allows r kind ≡ false → ¬ MayCome before kind
  whole : is_over r.place ≡ true → AreFile before
  only_whole : AreFile before → is_over r.place ≡ true
  edge : is_end r.place ≡ true → EndInEdge before
  only_edge : EndInEdge before → is_end r.place ≡ true

over_ended : (place : GrammarPlace) (r : Reading) (said : Said) → is_over place ≡ true → ended r place said ≡ Ok said
over_ended Over r said is = refl
over_ended place r said is = absurd (true≢false (sym is))

ended_over : (place : GrammarPlace) (r : Reading) (said now : Said) → ended r place said ≡ Ok now → is_over place ≡ true
ended_over Over r said now is = refl
ended_over place r said now is = absurd (not_ok _ now is)

is_edge_true : (kind : Kind) → IsEdge kind → is_edge kind ≡ true
is_edge_true kind is = elim is [ inl line ↦ ap is_edge line | inr arrow ↦ ap is_edge arrow ]

edge_of : (kind : Kind) → is_edge kind ≡ true → IsEdge kind
edge_of Line is = inl refl
edge_of Arrow is = inr refl
edge_of kind is = absurd (true≢false (sym is))

end_edge :
    (edge : Bool) (ts : List Lexeme) → ends_in_edge edge ts ≡ true → ((edge ≡ true) × (ts ≡ [])) ⊎ EndInEdge ts
end_edge edge [] is = inl (is, refl)
end_edge edge (t ∷ ts) is = elim (end_edge (is_edge t.kind) ts is) [
  | inl last ↦ inr (record {
    first = [];
    edge = t;
    parts = ap (λ l. t ∷ l) last.1;
    is_edge = edge_of t.kind last.0;
  })
  | inr ends ↦ inr (record {
    first = t ∷ ends.first;
    edge = ends.edge;
    parts = ap (λ l. t ∷ l) ends.parts;
    is_edge = ends.is_edge;
  })
]

edge_ends : (edge : Bool) (first : List Lexeme) (t : Lexeme) → ends_in_edge edge (first ++ t ∷ []) ≡ is_edge t.kind
edge_ends edge [] t = refl
edge_ends edge (x ∷ xs) t = edge_ends (is_edge x.kind) xs t

anywhere : Spot
anywhere = record { line = 1; text = [] }

behind :
    (o : Lexeme) (before : List Lexeme) (r : Reading) (so_far : Said)
    → ((rest : List Lexeme) →
    read_on (Ok (at_beginning o)) nothing_said (before ++ rest) ≡ read_on (Ok r) so_far rest)
    → ends_in_edge false before ≡ is_end r.place → Behind before r
unfolding read_on
behind o before r so_far reads last =
    let final =
    ap (λ ts. read_on (Ok (at_beginning o)) nothing_said ts) (sym (append-nil before)) ∙ reads [] in
    record {
      may = λ kind is.
          let t = token kind anywhere in
          let next = allowed (follows r.place kind) r t is in (
            anywhere,
            some_begin o (before ++ t ∷ []) next.0 (said_behind r t so_far) (λ rest.
                ap (λ ts. read_on (Ok (at_beginning o)) nothing_said ts) (append_assoc before (t ∷ []) rest)
                ∙ reads (t ∷ rest)
                ∙ ap (λ s. read_on s (said_behind r t so_far) rest) next.1),
          );
      never = λ kind is may.
          let t = token kind may.0 in
          let fault = denied (follows r.place kind) r t is in
          none_begins o before t fault.0 (λ rest.
          reads (t ∷ rest) ∙ ap (λ s. read_on s (said_behind r t so_far) rest) fault.1) may.1;
      whole = λ over. file_from o before so_far (final ∙ over_ended r.place r so_far over);
      only_whole = λ are.
          ended_over r.place r so_far _
          (sym final ∙ ap (λ ts. read_on (Ok (at_beginning o)) nothing_said ts) (sym are.1.spelled)
          ∙ file_read_from o are.0 are.1.balanced);
      edge = λ is. elim (end_edge false before (last ∙ is)) [
        | inl none ↦ absurd (true≢false (sym none.0))
        | inr ends ↦ ends
      ];
      only_edge = λ ends.
          sym last ∙ ap (λ ts. ends_in_edge false ts) ends.parts ∙ edge_ends false ends.first ends.edge
          ∙ is_edge_true ends.edge.kind ends.is_edge;
    }

-- ---- edges

same_edge : (place : GrammarPlace) → follows place Arrow ≡ follows place Line
same_edge Beginning = refl
same_edge place = refl

edge_may :
    (directed : Bool) (before : List Lexeme) (r : Reading) → r.directed ≡ directed → Behind before r
    → leads (follows r.place Line) ≡ true → MayCome before Line ⊎ MayCome before Arrow
edge_may true before r kind b is =
    inr (b.may Arrow (and_from (leads (follows r.place Arrow)) (not (not r.directed))
    (ap leads (same_edge r.place) ∙ is) (ap (λ d. not (not d)) kind)))
edge_may false before r kind b is =
    inl (b.may Line (and_from (leads (follows r.place Line)) (not r.directed) is (ap (λ d. not d) kind)))

edge_never :
    (before : List Lexeme) (r : Reading) → Behind before r → leads (follows r.place Line) ≡ false
    → ¬ (MayCome before Line ⊎ MayCome before Arrow)
edge_never before r b is may = elim may [
  | inl line ↦ b.never Line (ap (λ v. v && not r.directed) is) line
  | inr arrow ↦
      b.never Arrow (ap (λ v. v && not (not r.directed)) (ap leads (same_edge r.place) ∙ is)) arrow
]

-- ---- reasons of their own

abbrev is_html : Kind → Bool
is_html Html = true
is_html kind = false

html_of : (kind : Kind) → is_html kind ≡ true → kind ≡ Html
html_of Html is = refl
html_of kind is = absurd (true≢false (sym is))

abbrev opens : Kind → Bool
opens Subgraph = true
opens OpenBrace = true
opens kind = false

opens_of : (kind : Kind) → opens kind ≡ true → (kind ≡ Subgraph) ⊎ (kind ≡ OpenBrace)
opens_of Subgraph is = inl refl
opens_of OpenBrace is = inr refl
opens_of kind is = absurd (true≢false (sym is))

-- an edge, where one may come
abbrev other_edge : GrammarPlace → Kind → Bool
other_edge place kind = is_edge kind && leads (follows place Line)

-- a subgraph behind an edge
abbrev behind_edge : GrammarPlace → Kind → Bool
behind_edge place kind = opens kind && is_end place

-- where a statement may begin, and no list of attributes
abbrev in_statements : GrammarPlace → Bool
in_statements place = leads (follows place CloseBrace) && not (leads (follows place OpenBracket))

-- an edge behind a subgraph
abbrev behind_subgraph : GrammarPlace → Kind → Bool
behind_subgraph place kind = is_edge kind && in_statements place

abbrev own_by : Bool → Bool → Bool → Bool → Option Why
own_by true html wrong sub = Some BehindGraph
own_by false true wrong sub = Some HtmlText
own_by false false true sub = Some WrongEdge
own_by false false false true = Some SubgraphAsEnd
own_by false false false false = None

abbrev or_lacking : Why → Option Why → Why
or_lacking why None = why
or_lacking why (Some own) = own

abbrev reason_at : GrammarPlace → Kind → Why
reason_at place kind =
    or_lacking (lacking place)
    (own_by (is_over place) (is_html kind) (other_edge place kind)
    (behind_edge place kind || behind_subgraph place kind))

abbrev unless : Option GrammarPlace → Why → Why
unless None why = why
unless (Some place) why = NoToken

-- where the diagram leads nowhere, this is its reason
reason_is :
    (place : GrammarPlace) (kind : Kind)
    → unless (follows place kind) (reason_at place kind) ≡ unless (follows place kind) (why_not place kind)
reason_is Beginning Strict = refl
reason_is Beginning kind = refl
reason_is BehindStrict Strict = refl
reason_is BehindStrict kind = refl
reason_is BehindKind Strict = refl
reason_is BehindKind kind = refl
reason_is BehindTitle Strict = refl
reason_is BehindTitle kind = refl
reason_is Body Strict = refl
reason_is Body kind = refl
reason_is Named Strict = refl
reason_is Named kind = refl
reason_is Member Strict = refl
reason_is Member kind = refl
reason_is PortNext Strict = refl
reason_is PortNext kind = refl
reason_is Ported Strict = refl
reason_is Ported kind = refl
reason_is CompassNext Strict = refl
reason_is CompassNext kind = refl
reason_is Directed Strict = refl
reason_is Directed kind = refl
reason_is EndNext Strict = refl
reason_is EndNext kind = refl
reason_is ListNext Strict = refl
reason_is ListNext kind = refl
reason_is InList Strict = refl
reason_is InList kind = refl
reason_is Attribute Strict = refl
reason_is Attribute kind = refl
reason_is ValueNext Strict = refl
reason_is ValueNext kind = refl
reason_is Valued Strict = refl
reason_is Valued kind = refl
reason_is Listed Strict = refl
reason_is Listed kind = refl
reason_is AssignedNext Strict = refl
reason_is AssignedNext kind = refl
reason_is SubgraphNext Strict = refl
reason_is SubgraphNext kind = refl
reason_is SubgraphTitled Strict = refl
reason_is SubgraphTitled kind = refl
reason_is Over Strict = refl
reason_is Over kind = refl

-- no reason of its own
none_own :
    (before : List Lexeme) (r : Reading) (kind : Kind) (other : Why) → Behind before r → is_over r.place ≡ false
    → is_html kind ≡ false → other_edge r.place kind ≡ false
    → (behind_edge r.place kind || behind_subgraph r.place kind) ≡ false → ¬ HasReason before kind other
none_own before r kind BehindGraph b over html wrong sub has = both_ways (is_over r.place) (b.only_whole has) over
none_own before r kind HtmlText b over html wrong sub has = both_ways (is_html kind) (ap is_html has.0) html
none_own before r kind WrongEdge b over html wrong sub has =
    elim (leads (follows r.place Line)) as (λ v. leads (follows r.place Line) ≡ v → ⊥) [
      | true ↦ λ is. both_ways (other_edge r.place kind)
          (and_from (is_edge kind) (leads (follows r.place Line)) (is_edge_true kind has.0) is) wrong
      | false ↦ λ is. edge_never before r b is has.1
    ] refl
none_own before r kind SubgraphAsEnd b over html wrong sub has =
    let one = behind_edge r.place kind in
    let two = behind_subgraph r.place kind in
    let closes = leads (follows r.place CloseBrace) in
    let lists = leads (follows r.place OpenBracket) in
    elim has [
      | inl begins ↦ both_ways (one || two) (or_first one two
          (and_from (opens kind) (is_end r.place)
          (elim begins.0 [ inl e ↦ ap opens e | inr e ↦ ap opens e ])
          (b.only_edge begins.1))) sub
      | inr ends ↦
          elim closes as (λ v. closes ≡ v → ⊥) [
            | false ↦ λ none. b.never CloseBrace (ap (λ v. v && true) none) ends.1
            | true ↦ λ some.
                elim lists as (λ v. lists ≡ v → ⊥) [
                  | true ↦ λ may. ends.2 (b.may OpenBracket (ap (λ v. v && true) may))
                  | false ↦ λ none. both_ways (one || two) (or_second one two
                      (and_from (is_edge kind) (closes && not lists) (is_edge_true kind ends.0)
                      (and_from closes (not lists) some (ap (λ v. not v) none)))) sub
                ] refl
          ] refl
    ]
none_own before r kind other b over html wrong sub has = has

-- what is lacking at a place
lacks :
    (place : GrammarPlace) (d : Bool) (n : ℕ) (o : Lexeme) (l : ℕ) (before : List Lexeme)
    → Behind before (here d n place o l) → is_over place ≡ false → Lack before (lacking place)
lacks Beginning d n o l before b unended = (b.may Graph refl, b.never CloseBrace refl)
lacks BehindStrict d n o l before b unended = (b.may Graph refl, b.never CloseBrace refl)
lacks BehindKind d n o l before b unended = (b.may OpenBrace refl, b.never CloseBrace refl)
lacks BehindTitle d n o l before b unended = (b.may OpenBrace refl, b.never CloseBrace refl)
lacks SubgraphNext d n o l before b unended = (b.may OpenBrace refl, b.never CloseBrace refl)
lacks SubgraphTitled d n o l before b unended = (b.may OpenBrace refl, b.never CloseBrace refl)
lacks PortNext d n o l before b unended =
    (b.may Bare refl, b.never OpenBrace refl, b.never CloseBracket refl, b.never Html refl)
lacks CompassNext d n o l before b unended =
    (b.may Bare refl, b.never OpenBrace refl, b.never CloseBracket refl, b.never Html refl)
lacks EndNext d n o l before b unended =
    (b.may Bare refl, b.never OpenBrace refl, b.never CloseBracket refl, b.never Html refl)
lacks ListNext d n o l before b unended = inr (inr (b.may OpenBracket refl, b.never CloseBrace refl))
lacks InList d n o l before b unended = inl (b.may CloseBracket refl)
lacks Attribute d n o l before b unended = inl (b.may CloseBracket refl)
lacks Valued d n o l before b unended = inl (b.may CloseBracket refl)
lacks ValueNext d n o l before b unended = inr (inl (b.may Html refl))
lacks AssignedNext d n o l before b unended = inr (inl (b.may Html refl))
lacks Body d n o l before b unended = b.may CloseBrace refl
lacks Named d n o l before b unended = b.may CloseBrace refl
lacks Member d n o l before b unended = b.may CloseBrace refl
lacks Ported d n o l before b unended = b.may CloseBrace refl
lacks Directed d n o l before b unended = b.may CloseBrace refl
lacks Listed d n o l before b unended = b.may CloseBrace refl
lacks Over d n o l before b unended = absurd (true≢false unended)

own_reason :
    (over html wrong sub : Bool) (before : List Lexeme) (r : Reading) (kind : Kind) → Behind before r
    → is_over r.place ≡ over → is_html kind ≡ html → other_edge r.place kind ≡ wrong
    → (behind_edge r.place kind || behind_subgraph r.place kind) ≡ sub
    → IsReason before kind (or_lacking (lacking r.place) (own_by over html wrong sub))
own_reason true html wrong sub before r kind b o h w s = inl (b.whole o)
own_reason false true wrong sub before r kind b o h w s =
    inl (html_of kind h, λ are. both_ways (is_over r.place) (b.only_whole are) o)
own_reason false false true sub before r kind b o h w s =
    let both = and_parts (is_edge kind) (leads (follows r.place Line)) w in
    inl (edge_of kind both.0, edge_may r.directed before r refl b both.1)
own_reason false false false true before r kind b o h w s =
    elim (or_either (behind_edge r.place kind) (behind_subgraph r.place kind) s) [
      | inl begins ↦
          let both = and_parts (opens kind) (is_end r.place) begins in
          inl (inl (opens_of kind both.0, b.edge both.1))
      | inr ends ↦
          let both = and_parts (is_edge kind) (in_statements r.place) ends in
          let closes = leads (follows r.place CloseBrace) in
          let lists = leads (follows r.place OpenBracket) in
          let tests = and_parts closes (not lists) both.1 in
          inl (inr (
            edge_of kind both.0,
            b.may CloseBrace (ap (λ v. v && true) tests.0),
            b.never OpenBracket (ap (λ v. v && true) (is_false lists tests.1)),
          ))
    ]
own_reason false false false false before r kind b o h w s =
    inr (
      (λ other. none_own before r kind other b o h w s),
      lacks r.place r.directed r.depth r.name r.line before b o,
    )

-- ---- why a token is refused

wrong_is_edge : (kind : Kind) (directed : Bool) → is_wrong_edge directed kind ≡ true → is_edge kind ≡ true
wrong_is_edge Line directed is = refl
wrong_is_edge Arrow directed is = refl
wrong_is_edge kind directed is = is

edge_leads :
    (kind : Kind) (place next : GrammarPlace) → is_edge kind ≡ true → follows place kind ≡ Some next
    → leads (follows place Line) ≡ true
edge_leads Line place next is leads_on = ap leads leads_on
edge_leads Arrow place next is leads_on = ap leads (sym (same_edge place) ∙ leads_on)
edge_leads kind place next is leads_on = absurd (true≢false (sym is))

edge_reason :
    (wrong : Bool) (before : List Lexeme) (r : Reading) (t : Lexeme) (place : GrammarPlace) (line : ℕ) (why : Why)
    → Behind before r → follows r.place t.kind ≡ Some place → is_wrong_edge r.directed t.kind ≡ wrong
    → cond wrong (Err (UnreadLine t.line WrongEdge)) (Ok (moved r t place)) ≡ Err (UnreadLine line why)
    → IsReason before t.kind why
edge_reason true before r t place line why b leads_on wrong is =
    let e : WrongEdge ≡ why = cc in
    let edge = wrong_is_edge t.kind r.directed wrong in
    subst (λ (w : Why). IsReason before t.kind w) e
    (inl (edge_of t.kind edge, edge_may r.directed before r refl b (edge_leads t.kind r.place place edge leads_on)))
edge_reason false before r t place line why b leads_on wrong is = absurd (not_ok _ (moved r t place) (sym is))

step_reason :
    (place : Option GrammarPlace) (before : List Lexeme) (r : Reading) (t : Lexeme) (line : ℕ) (why : Why)
    → Behind before r → follows r.place t.kind ≡ place → step_to r t place ≡ Err (UnreadLine line why)
    → IsReason before t.kind why
step_reason None before r t line why b leads_on is =
    let e : why_not r.place t.kind ≡ why = cc in
    let same =
    ap (λ q. unless q (reason_at r.place t.kind)) (sym leads_on) ∙ reason_is r.place t.kind
    ∙ ap (λ q. unless q (why_not r.place t.kind)) leads_on ∙ e in
    subst (λ (w : Why). IsReason before t.kind w) same
    (own_reason (is_over r.place) (is_html t.kind) (other_edge r.place t.kind)
    (behind_edge r.place t.kind || behind_subgraph r.place t.kind) before r t.kind b refl refl refl refl)
step_reason (Some place) before r t line why b leads_on is =
    edge_reason (is_wrong_edge r.directed t.kind) before r t place line why b leads_on refl is

end_reason :
    (place : GrammarPlace) (r : Reading) (said : Said) (line : ℕ) (why : Why)
    → ended r place said ≡ Err (UnreadLine line why) → why ≡ Unclosed
end_reason Over r said line why is = absurd (not_ok _ said (sym is))
end_reason place r said line why is = let e : Unclosed ≡ why = cc in sym e

misplaced :
    (o : Lexeme) (tokens : List Lexeme) (line : ℕ) (why : Why)
    → StopsAt (at_beginning o) nothing_said tokens (UnreadLine line why) → HasMisplaced tokens line why
unfolding read_on
misplaced o tokens line why at =
    let known = behind o at.before at.behind at.so_far at.reads at.last in
    record {
      before = at.before;
      misplaced = at.wrong;
      later = at.later;
      parts = at.parts;
      begin = some_begin o at.before at.behind at.so_far at.reads;
      no_further = none_begins o at.before at.wrong (UnreadLine line why) (λ rest.
          at.reads (at.wrong ∷ rest)
          ∙ ap (λ s. read_on s (said_behind at.behind at.wrong at.so_far) rest) at.fails);
      is_line = step_fault (follows at.behind.place at.wrong.kind) at.behind at.wrong line why at.fails;
      reason =
          step_reason (follows at.behind.place at.wrong.kind) at.before at.behind at.wrong line why known refl at.fails;
    }

-- tokens that are refused are no file, and in which line and why
pub refused :
    (tokens : List Lexeme) (line : ℕ) (why : Why) → statements_of tokens ≡ Err (UnreadLine line why)
    → (¬ AreFile tokens) × (HasMisplaced tokens line why ⊎ EndEarly tokens line why)
refused tokens line why is =
    let begun = begun_by tokens in
    let fails = sym begun.1 ∙ is in (
      no_file begun.0 tokens (UnreadLine line why) fails,
      elim (stops tokens (at_beginning begun.0) nothing_said (UnreadLine line why) fails) [
        | inl at ↦ inl (misplaced begun.0 tokens line why at)
        | inr end ↦ inr (record {
          begin = some_begin begun.0 tokens end.behind end.so_far end.reads;
          is_line = end_fault end.behind.place end.behind end.so_far line why end.fails ∙ end.is_line;
          reason = end_reason end.behind.place end.behind end.so_far line why end.fails;
        })
      ],
    )
