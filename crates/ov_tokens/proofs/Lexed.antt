-- The lexemes at the front of a text, and the tokens that a cursor takes.
use Rattle.std.proofs.Common.{◌≡◌, ◌∙◌, ℕ, ◌+◌, ◌*◌, ◌/◌, ◌%◌, ◌^◌, ◌<◌, ◌≤◌, Bool, true, ◌||◌, ◌==◌, List, [], ◌∷◌}
use Rattle.std.proofs.Common.{◌++◌}
use Rattle.std.proofs.Common.{length, take, drop, nat_eq, take-append-drop}
use Rattle.std.proofs.Common.{decimal, refl, sym, ap, ap₂, subst, arith, append_assoc, ⊎_elim}
use Rattle.std.proofs.lemmas.Bool.{or_cases, eqb-true}
use Rattle.std.proofs.lemmas.Fmt.{decimal_digit, decimal_step}
use Rattle.std.specs.Cmp.Lexicographic.{pointwise, same_text}
use Rattle.json.specs.Token.{Token}
use Rattle.json.specs.Word.{is_space, ends_word}
use Rattle.json.specs.Lex.{token, comma, colon, class, operator, operator_lexeme, string_token, between, lex}
use Rattle.json.specs.Lex.{lex_byte, fresh, after_value, after_key, may_begin, may_close, if_allowed}
use Rattle.json.specs.Lex.{punctuate}
use Rattle.json.specs.Lex as lexer
use Rattle.json.specs.Print.{escape}
use Rattle.json.proofs.Printed.Strings.{content-escape, lex-escape}
use Rattle.json.proofs.Printed.Numbers.{lex-number}
use Rattle.json.proofs.Printed.Decimals.{IsNumber-decimal}
use Rattle.ov_tokens.specs.Code.Left.{place_in, tokens_at}
use Rattle.ov_tokens.specs.declared.token_cursor.CursorPlace.{CursorPlace}
use Rattle.ov_tokens.specs.declared.token_cursor.CursorPlace.TheVariants.{Fresh, AfterValue, AfterComma}

-- ---- lexemes

space_at : (c x : ℕ) (xs : List ℕ) → lex between (c ∷ xs) ≡ lex between xs → (x == c) ≡ true
    → lex between (x ∷ xs) ≡ lex between xs
space_at c x xs e is = subst (λ y. lex between (y ∷ xs) ≡ lex between xs) (sym (eqb-true x c is)) e

space_lexed : (x : ℕ) (xs : List ℕ) → is_space x ≡ true → lex between (x ∷ xs) ≡ lex between xs
unfolding lex
space_lexed x xs h =
    ⊎_elim (λ a. ⊎_elim (λ b. ⊎_elim (space_at 32 x xs refl) (space_at 9 x xs refl) (or_cases (x == 32) (x == 9) b))
    (space_at 10 x xs refl) (or_cases ((x == 32) || (x == 9)) (x == 10) a)) (space_at 13 x xs refl)
    (or_cases ((x == 32) || (x == 9) || (x == 10)) (x == 13) h)

-- white space is no lexeme
pub space_passed : (x : ℕ) (text after : List ℕ) → text ≡ x ∷ after → is_space x ≡ true
    → lex between after ≡ lex between text
space_passed x text after e h = sym (ap (lex between) e ∙ space_lexed x after h)

-- a bracket, a comma or a colon
pub mark_lexed : (x : ℕ) (text after rest : List ℕ) → text ≡ x ∷ after → class x ≡ operator
    → lex between rest ≡ lex between after → lex between text ≡ operator_lexeme x ∷ lex between rest
unfolding lex
mark_lexed x text after rest e is f =
    ap (lex between) e ∙ ap (λ c. lex_byte between c x after (λ m. lex m after)) is
    ∙ ap (λ ls. operator_lexeme x ∷ ls) (sym f)

-- a text in quotes that is written as it is
pub text_lexed : (s text inside behind after rest : List ℕ) → escape s ≡ s → text ≡ 34 ∷ inside → inside ≡ s ++ behind
    → behind ≡ 34 ∷ after → lex between rest ≡ lex between after
    → lex between text ≡ token (Token.string s) ∷ lex between rest
unfolding lex
text_lexed s text inside behind after rest plain e f g h =
    ap (lex between) (e ∙ ap (λ l. 34 ∷ l) (f ∙ ap (λ l. s ++ l) g ∙ ap (λ t. t ++ 34 ∷ after) (sym plain)))
    ∙ ap₂ (λ o ls. token (string_token o) ∷ ls) (content-escape s after) (lex-escape s after ∙ sym h)

-- a whole number
pub number_lexed : (n : ℕ) (text xs rest : List ℕ) → n < 2 ^ 64 → text ≡ decimal n ++ xs → ends_word xs ≡ true
    → lex between rest ≡ lex between xs → lex between text ≡ token (Token.number (decimal n)) ∷ lex between rest
number_lexed n text xs rest small is ended e =
    ap (lex between) is ∙ lex-number (decimal n) xs (IsNumber-decimal n small) ended
    ∙ ap (λ ls. token (Token.number (decimal n)) ∷ ls) (sym e)

-- a text that begins with some bytes
pub prefixed : (text prefix rest : List ℕ) → pointwise nat_eq (take (length prefix) text) prefix ≡ true
    → rest ≡ drop (length prefix) text → text ≡ prefix ++ rest
prefixed text prefix rest e is =
    sym (take-append-drop (length prefix) text) ∙ ap₂ (λ a b. a ++ b) (same_text _ _ (sym e)) (sym is)

-- the first digit of a number
pub digit_first : (x d : ℕ) (text rest : List ℕ) → text ≡ x ∷ rest → x ≡ 48 + d → d < 10 → text ≡ decimal d ++ rest
digit_first x d text rest e is small =
    e ∙ ap (λ y. y ∷ rest) is ∙ sym (ap (λ t. t ++ rest) (decimal_digit d small))

-- one more digit of a number
pub digit_more : (n d m x : ℕ) (rest after : List ℕ) → 0 < n → d < 10 → m ≡ n * 10 + d → m < 2 ^ 64 → x ≡ 48 + d
    → rest ≡ x ∷ after → decimal n ++ rest ≡ decimal m ++ after
digit_more n d m x rest after some digit is small byte front =
    let high : m / 10 ≡ n = omega (arith, digit, is) in
    let low : 48 + m % 10 ≡ x = omega (arith, digit, is, byte) in
    let ten : 10 ≤ m = omega (arith, some, is) in
    ap (λ r. decimal n ++ r) front
    ∙ sym (ap (λ t. t ++ after) (decimal_step m ten small ∙ ap₂ (λ a b. decimal a ++ b ∷ []) high low)
    ∙ append_assoc (decimal n) (x ∷ []) after)

-- ---- tokens

allowed : (b : Bool) (t : Token) (k : lexer.Place → List Token) (next : lexer.Place) → b ≡ true
    → if_allowed b t k next ≡ t ∷ k next
allowed b t k next e = ap (λ x. if_allowed x t k next) e

pub array_begun : (p : CursorPlace) (old new : List ℕ) → may_begin (place_in p) ≡ true
    → lex between old ≡ token Token.begin_array ∷ lex between new
    → tokens_at p old ≡ Token.begin_array ∷ tokens_at Fresh new
unfolding punctuate
array_begun p old new may e =
    ap (punctuate (place_in p)) e
    ∙ allowed (may_begin (place_in p)) Token.begin_array (λ n. punctuate n (lex between new)) fresh may

pub object_begun : (p : CursorPlace) (old new : List ℕ) → may_begin (place_in p) ≡ true
    → lex between old ≡ token Token.begin_object ∷ lex between new
    → tokens_at p old ≡ Token.begin_object ∷ tokens_at Fresh new
unfolding punctuate
object_begun p old new may e =
    ap (punctuate (place_in p)) e
    ∙ allowed (may_begin (place_in p)) Token.begin_object (λ n. punctuate n (lex between new)) fresh may

pub array_ended : (p : CursorPlace) (old new : List ℕ) → may_close (place_in p) ≡ true
    → lex between old ≡ token Token.end_array ∷ lex between new
    → tokens_at p old ≡ Token.end_array ∷ punctuate after_value (lex between new)
unfolding punctuate
array_ended p old new may e =
    ap (punctuate (place_in p)) e
    ∙ allowed (may_close (place_in p)) Token.end_array (λ n. punctuate n (lex between new)) after_value may

pub object_ended : (p : CursorPlace) (old new : List ℕ) → may_close (place_in p) ≡ true
    → lex between old ≡ token Token.end_object ∷ lex between new
    → tokens_at p old ≡ Token.end_object ∷ punctuate after_value (lex between new)
unfolding punctuate
object_ended p old new may e =
    ap (punctuate (place_in p)) e
    ∙ allowed (may_close (place_in p)) Token.end_object (λ n. punctuate n (lex between new)) after_value may

pub number_taken : (p : CursorPlace) (s old new : List ℕ) → may_begin (place_in p) ≡ true
    → lex between old ≡ token (Token.number s) ∷ lex between new
    → tokens_at p old ≡ Token.number s ∷ punctuate after_value (lex between new)
unfolding punctuate
number_taken p s old new may e =
    ap (punctuate (place_in p)) e
    ∙ allowed (may_begin (place_in p)) (Token.number s) (λ n. punctuate n (lex between new)) after_value may

-- a text before a colon is a key
pub key_taken : (p : CursorPlace) (s old mid new : List ℕ) → may_begin (place_in p) ≡ true
    → lex between old ≡ token (Token.string s) ∷ lex between mid → lex between mid ≡ colon ∷ lex between new
    → tokens_at p old ≡ Token.key s ∷ tokens_at Fresh new
unfolding punctuate
key_taken p s old mid new may e f =
    ap (punctuate (place_in p)) (e ∙ ap (λ ls. token (Token.string s) ∷ ls) f)
    ∙ allowed (may_begin (place_in p)) (Token.key s) (λ n. punctuate n (colon ∷ lex between new)) after_key may

-- a text before a comma is a value
pub text_taken : (p : CursorPlace) (s old mid new : List ℕ) → may_begin (place_in p) ≡ true
    → lex between old ≡ token (Token.string s) ∷ lex between mid → lex between mid ≡ comma ∷ lex between new
    → tokens_at p old ≡ Token.string s ∷ tokens_at AfterComma new
unfolding punctuate
text_taken p s old mid new may e f =
    ap (punctuate (place_in p)) (e ∙ ap (λ ls. token (Token.string s) ∷ ls) f)
    ∙ allowed (may_begin (place_in p)) (Token.string s) (λ n. punctuate n (comma ∷ lex between new)) after_value may

-- the comma behind a value is passed
pub comma_passed : (rest more : List ℕ) → lex between rest ≡ comma ∷ lex between more
    → tokens_at AfterComma more ≡ punctuate after_value (lex between rest)
unfolding punctuate
comma_passed rest more e = sym (ap (punctuate after_value) e)

-- no token is left
pub none_left : (rest : List ℕ) → rest ≡ [] → tokens_at AfterValue rest ≡ []
unfolding lex punctuate
none_left rest e = ap (tokens_at AfterValue) e
