-- What tokens say, one more of them each time.
use Rattle.std.proofs.Common.{◌≡◌, ◌∙◌, ◌+◌, ◌<◌, ◌≤◌, ℕ, List, ◌∷◌, length, get_or, drop, Result, Ok, sym, ap, subst}
use Rattle.std.proofs.Common.{add-one, drop-cons}
use Rattle.ov_dot.specs.declared.token.Token.{Token}
use Rattle.ov_dot.specs.Tokens.{Lexeme, lexeme, lexemes}
use Rattle.ov_dot.specs.declared.fault.DotFault.{DotFault}
use Rattle.ov_dot.specs.declared.fault.DotFault.TheVariants.{UnreadLine, OutOfMemory}
use Rattle.std.proofs.Math.ListN.{drop_of_length-le}
use Rattle.ov_dot.specs.Sayings.{Said}
use Rattle.ov_dot.specs.Code.Statements.{Reading, ended, read_on, said_behind, step}
use Rattle.ov_dot.specs.Code.Seen.{Fails}

-- a step that fails ends the reading
fails_on :
    (e : DotFault) (r : Result Reading DotFault) (said : Said) (ts : List Lexeme) → Fails e r
    → Fails e (read_on r said ts)
unfolding read_on
fails_on OutOfMemory r said ts is = tt
fails_on (UnreadLine line why) r said ts is = ap (λ s. read_on s said ts) is

-- the next token is one step
next_step :
    (tokens later : List Token) (t : Token) (r : Reading) (said : Said) → tokens ≡ t ∷ later
    → read_on (Ok r) said (lexemes tokens) ≡ read_on (step r (lexeme t)) (said_behind r (lexeme t) said) (lexemes later)
unfolding read_on
next_step tokens later t r said is = ap (λ ts. read_on (Ok r) said (lexemes ts)) is

-- the next token is refused, or memory ran out
refused :
    (tokens later : List Token) (t : Token) (r : Reading) (said : Said) (all : Result Said DotFault) (e : DotFault)
    → tokens ≡ t ∷ later → read_on (Ok r) said (lexemes tokens) ≡ all → Fails e (step r (lexeme t)) → Fails e all
refused tokens later t r said all e is left fails =
    subst (Fails e) (sym (next_step tokens later t r said is) ∙ left)
    (fails_on e (step r (lexeme t)) (said_behind r (lexeme t) said) (lexemes later) fails)

-- the next token is read
passed :
    (tokens later : List Token) (t : Token) (r next : Reading) (said : Said) (all : Result Said DotFault)
    → tokens ≡ t ∷ later → read_on (Ok r) said (lexemes tokens) ≡ all → step r (lexeme t) ≡ Ok next
    → read_on (Ok next) (said_behind r (lexeme t) said) (lexemes later) ≡ all
passed tokens later t r next said all is left passes =
    ap (λ s. read_on s (said_behind r (lexeme t) said) (lexemes later)) (sym passes)
    ∙ sym (next_step tokens later t r said is) ∙ left

token_at :
    (tokens : List Token) (i : ℕ) (d : Token) → i < length tokens
    → drop i tokens ≡ get_or tokens i d ∷ drop (i + 1) tokens
token_at tokens i d within = rw (add-one, drop-cons tokens i d within)

-- the same by the place of the token
pub refused_at :
    (tokens : List Token) (i : ℕ) (d : Token) (r : Reading) (said : Said) (all : Result Said DotFault) (e : DotFault)
    → i < length tokens → read_on (Ok r) said (lexemes (drop i tokens)) ≡ all
    → Fails e (step r (lexeme (get_or tokens i d)))
    → Fails e all
refused_at tokens i d r said all e within left fails =
    refused (drop i tokens) (drop (i + 1) tokens) (get_or tokens i d) r said all e
    (token_at tokens i d within) left fails

pub passed_at :
    (tokens : List Token) (i : ℕ) (d : Token) (r next : Reading) (said : Said) (all : Result Said DotFault)
    → i < length tokens → read_on (Ok r) said (lexemes (drop i tokens)) ≡ all
    → step r (lexeme (get_or tokens i d)) ≡ Ok next
    → read_on (Ok next) (said_behind r (lexeme (get_or tokens i d)) said) (lexemes (drop (i + 1) tokens)) ≡ all
passed_at tokens i d r next said all within left passes =
    passed (drop i tokens) (drop (i + 1) tokens) (get_or tokens i d) r next said all
    (token_at tokens i d within) left passes

-- no token is left
pub at_end :
    (tokens : List Token) (i : ℕ) (r : Reading) (said : Said) (all : Result Said DotFault) → length tokens ≤ i
    → read_on (Ok r) said (lexemes (drop i tokens)) ≡ all → ended r r.place said ≡ all
unfolding read_on
at_end tokens i r said all over left =
    sym (ap (λ ts. read_on (Ok r) said (lexemes ts)) (drop_of_length-le tokens over)) ∙ left
