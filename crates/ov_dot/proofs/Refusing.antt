-- From what is refused of tokens, of statements and of names to what is refused of a text.
use Rattle.std.proofs.Common.{◌≡◌, ◌∙◌, ◌<◌, ℕ, List, [], ◌∷◌, Ok, length, get_or, inl, inr, refl, sym, ap, subst}
use Rattle.ov_ids.proofs.Members.{has_place}
use Rattle.ov_dot.specs.declared.token.Token.{Token}
use Rattle.ov_dot.specs.declared.statement_reading.Link.{Link}
use Rattle.std.specs.Prelude.{map, Result, Err, IfOk}
use Rattle.ov_ids.specs.Members.{Has}
use Rattle.ov_dump.specs.declared.dump_and_graph_types.Dump.{Dump}
use Rattle.ov_dot.specs.Tokens.{Lexeme, lexeme, lexemes, HasTokens}
use Rattle.ov_dot.specs.declared.token_reading.TextFault.{TextFault}
use Rattle.ov_dot.specs.declared.token_reading.TextFault.TheVariants as text
use Rattle.ov_dot.specs.declared.fault.DotFault.{DotFault}
use Rattle.ov_dot.specs.declared.fault.DotFault.TheVariants.{UnreadLine, OutOfMemory}
use Rattle.ov_dot.specs.Code.TokenFaults.{fault_of, Faults}
use Rattle.ov_dot.specs.Sayings.{Said}
use Rattle.ov_dot.specs.Grammar.{File, Spells, said_by}
use Rattle.ov_dot.specs.Code.Statements.{statements_of}
use Rattle.ov_dot.specs.Dumps.{both_ends, HasBadName, IsDumpOf}
use Rattle.ov_dot.specs.Readings.{IsRefused, IsTextOf, SaysDump}
use Rattle.ov_dot.proofs.Completing.{file_of}
use Rattle.ov_dot.proofs.Parsing.{file_read}
use Rattle.ov_dot.proofs.Reasoning.{refused}
use Rattle.ov_dot.specs.Code.Seen.{ends, Fails, IsBadName, AreBadNames, IsNameless}

-- a text without tokens
pub no_tokens : (bytes : List ℕ) (fault : TextFault) → Faults bytes fault → IsRefused bytes (fault_of fault)
no_tokens bytes (text.NoToken line) is = inl (refl, record { tokenless = is })
no_tokens bytes (text.TornName line) is = inr (inl (refl, is))
no_tokens bytes text.OutOfMemory is = tt

-- tokens that are no file
pub no_statements :
    (bytes : List ℕ) (tokens : List Lexeme) (e : DotFault) → HasTokens bytes tokens → Fails e (statements_of tokens)
    → IsRefused bytes e
no_statements bytes tokens (UnreadLine line why) are fails =
    let is = refused tokens line why fails in
    inr (inr (inl (record { tokens = tokens; are_tokens = are; no_file = is.0; in_line = is.1 })))
no_statements bytes tokens OutOfMemory are fails = tt

-- tokens say what their file says
pub said_of : (tokens : List Lexeme) (said : Said) (file : File) → statements_of tokens ≡ Ok said → Spells file tokens
    → said ≡ said_by file
said_of tokens said file says spells =
    let same : Ok said ≡ Ok (said_by file) =
    sym says ∙ ap (λ ts. statements_of ts) (sym spells.spelled) ∙ file_read file spells.balanced in
    cc

-- tokens that are read are those of a file, which says this
abbrev IsFileOf : List ℕ → Said → Type 0
IsFileOf bytes said = (file : File) × IsTextOf file bytes × (said ≡ said_by file)

is_file :
    (bytes : List ℕ) (tokens : List Lexeme) (said : Said) → HasTokens bytes tokens → statements_of tokens ≡ Ok said
    → IsFileOf bytes said
is_file bytes tokens said are says =
    let is = file_of tokens said says in
    (is.0, record { tokens = tokens; are_tokens = are; spells = is.1 }, said_of tokens said is.0 says is.1)

-- files with the same tokens say the same
pub same_saying : (a b : File) (tokens : List Lexeme) → Spells a tokens → Spells b tokens → said_by a ≡ said_by b
same_saying a b tokens of_a of_b =
    said_of tokens (said_by a) b
    (ap (λ ts. statements_of ts) (sym of_a.spelled) ∙ file_read a of_a.balanced) of_b

-- a file with a name that can't be read
pub no_names :
    (bytes : List ℕ) (tokens : List Lexeme) (said : Said) (e : DotFault) → HasTokens bytes tokens
    → statements_of tokens ≡ Ok said
    → IsNameless said e → IsRefused bytes e
no_names bytes tokens said (UnreadLine line why) are says is =
    let read = is_file bytes tokens said are says in
    inr (inr (inr (
      is.0,
      record {
        file = read.0;
        is_text = read.1;
        bad = subst (λ (s : Said). HasBadName s line) read.2 is.1;
      },
    )))
no_names bytes tokens said OutOfMemory are says is = tt

-- a file
says_dump :
    (bytes : List ℕ) (tokens : List Lexeme) (said : Said) (dump : Dump) → HasTokens bytes tokens
    → statements_of tokens ≡ Ok said
    → IsDumpOf said dump → SaysDump bytes dump
says_dump bytes tokens said dump are says is =
    let read = is_file bytes tokens said are says in
    record {
      file = read.0;
      is_text = read.1;
      is_dump = subst (λ (s : Said). IsDumpOf s dump) read.2 is;
    }

-- and if there is a dump, it is said
pub dump_said :
    (bytes : List ℕ) (tokens : List Lexeme) (said : Said) (made : Result Dump DotFault) → HasTokens bytes tokens
    → statements_of tokens ≡ Ok said
    → IfOk made (λ dump. IsDumpOf said dump) → IfOk made (λ dump. SaysDump bytes dump)
dump_said bytes tokens said (Ok dump) are says is = says_dump bytes tokens said dump are says is
dump_said bytes tokens said (Err e) are says is = tt

-- what is refused of a text
pub ruleset of_texts = (no_tokens, no_statements, no_names)

-- ---- names

pub has_map : {X Y : Type 0} (f : X → Y) (xs : List X) (x : X) → Has xs x → Has (map f xs) (f x)
has_map f [] x has = absurd has
has_map f (y ∷ ys) x has = elim has [ inl e ↦ inl (ap f e) | inr later ↦ inr (has_map f ys x later) ]

-- both ends of a listing
pub has_ends :
    (pairs : List (Lexeme × Lexeme)) (p : Lexeme × Lexeme) → Has pairs p → Has (both_ends pairs) p.0
    × Has (both_ends pairs) p.1
has_ends [] p has = absurd has
has_ends (q ∷ pairs) p has = elim has [
  | inl e ↦ (inl (ap (λ (r : Lexeme × Lexeme). r.0) e), inr (inl (ap (λ (r : Lexeme × Lexeme). r.1) e)))
  | inr later ↦ (let both = has_ends pairs p later in (inr (inr both.0), inr (inr both.1)))
]

-- one of some names can't be read
pub bad_name : (ts : List Lexeme) (t : Lexeme) (e : DotFault) → Has ts t → IsBadName t e → AreBadNames ts e
bad_name ts t (UnreadLine line why) has is = (is.1, t, has, is.0, is.2)
bad_name ts t OutOfMemory has is = tt

pub no_memory : (ts : List Lexeme) (e : DotFault) → e ≡ OutOfMemory → AreBadNames ts e
no_memory ts e is = subst (AreBadNames ts) (sym is) tt

pub nameless_entries : (said : Said) (e : DotFault) → AreBadNames said.entries e → IsNameless said e
nameless_entries said (UnreadLine line why) is = (is.0, (is.1, inl is.2, is.3, is.4))
nameless_entries said OutOfMemory is = tt

pub nameless_listings : (said : Said) (e : DotFault) → AreBadNames (both_ends said.listings) e → IsNameless said e
nameless_listings said (UnreadLine line why) is = (is.0, (is.1, inr is.2, is.3, is.4))
nameless_listings said OutOfMemory is = tt

-- the same by places
pub bad_at :
    (names : List Token) (i : ℕ) (d : Token) (e : DotFault) → i < length names → IsBadName (lexeme (get_or names i d)) e
    → AreBadNames (lexemes names) e
bad_at names i d e within is =
    bad_name (lexemes names) (lexeme (get_or names i d)) e
    (has_map (λ t. lexeme t) names (get_or names i d) (has_place names i d within)) is

ends_at : (links : List Link) (i : ℕ) (d : Link) → i < length links → Has (map ends links) (ends (get_or links i d))
ends_at links i d within = has_map (λ l. ends l) links (get_or links i d) (has_place links i d within)

pub bad_from :
    (links : List Link) (i : ℕ) (d : Link) (e : DotFault) → i < length links
    → IsBadName (lexeme (get_or links i d).from) e
    → AreBadNames (both_ends (map ends links)) e
bad_from links i d e within is =
    let pairs = map ends links in
    let both = has_ends pairs (ends (get_or links i d)) (ends_at links i d within) in
    bad_name (both_ends pairs) (lexeme (get_or links i d).from) e both.0 is

pub bad_to :
    (links : List Link) (i : ℕ) (d : Link) (e : DotFault) → i < length links
    → IsBadName (lexeme (get_or links i d).to) e
    → AreBadNames (both_ends (map ends links)) e
bad_to links i d e within is =
    let pairs = map ends links in
    let both = has_ends pairs (ends (get_or links i d)) (ends_at links i d within) in
    bad_name (both_ends pairs) (lexeme (get_or links i d).to) e both.1 is
