-- How a DOT text is cut into parts: tokens, and what may stand between them. The source is the page "The DOT Language"
-- of Graphviz, https://graphviz.org/doc/info/lang.html. Each test is asked of the bytes of one part, without what
-- follows it.
use Rattle.std.specs.Prelude.{◌≡◌, ℕ, ◌+◌, ◌-◌, ◌≤◌, ◌<◌, Bool, true, false, not, nat_le, ◌==◌, ◌&&◌, ◌||◌}
use Rattle.std.specs.Prelude.{List, [], ◌∷◌, ◌++◌, length, take, if◌then◌else◌}
use Rattle.std.specs.List.{list_all}
use Rattle.std.specs.Char.{is_ascii_digit, is_ascii_alphabetic}

-- ---- bytes

-- the byte of a line feed
abbrev pub line_feed : ℕ
line_feed = 10

-- white space other than a line feed: a tab, a carriage return or a space
abbrev pub is_blank : ℕ → Bool
is_blank b = b == 9 || (b == 13 || b == 32)

-- a byte that is a token alone: one of `{ } [ ] ; , = :`
abbrev pub is_mark : ℕ → Bool
is_mark b = b == 123 || (b == 125 || (b == 91 || (b == 93 || (b == 59 || (b == 44 || (b == 61 || b == 58))))))

-- a byte with which an identifier begins: a letter, `_`, or a byte above 127
abbrev pub is_letter : ℕ → Bool
is_letter b = is_ascii_alphabetic b || (b == 95 || nat_le 128 b)

-- a byte of an identifier: one with which it may begin, or a digit
abbrev pub is_word_byte : ℕ → Bool
is_word_byte b = is_letter b || is_ascii_digit b

-- a byte that does not end a line
abbrev pub is_in_line : ℕ → Bool
is_in_line b = not (b == line_feed)

-- ---- the bytes of a part behind its first one

-- there are none
abbrev pub is_empty : List ℕ → Bool
is_empty [] = true
is_empty (b ∷ bs) = false

-- these bytes end with `*/`, and have it nowhere before. The flag says whether they stand behind a `*`
abbrev pub ends_comment : Bool → List ℕ → Bool
ends_comment behind_star [] = false
ends_comment behind_star (b ∷ bs) = if behind_star && b == 47 then is_empty bs else ends_comment (b == 42) bs

-- behind a `/`: a second one, and then bytes up to the end of the line; or a `*`, and then bytes up to the first `*/`
abbrev pub is_comment_rest : List ℕ → Bool
is_comment_rest [] = false
is_comment_rest (b ∷ bs) = if b == 47 then list_all is_in_line bs else b == 42 && ends_comment false bs

-- behind a line feed: nothing, or a comment that begins with `#`, up to the end of its line
abbrev pub is_feed_rest : List ℕ → Bool
is_feed_rest [] = true
is_feed_rest (b ∷ bs) = b == 35 && list_all is_in_line bs

-- these bytes end with a quote, and each quote before it stands behind a backslash, which is itself not behind one. The
-- flag says whether these bytes stand behind such a backslash
abbrev pub ends_quoted : Bool → List ℕ → Bool
ends_quoted escaped [] = false
ends_quoted escaped (b ∷ bs) =
    if escaped then ends_quoted false bs else (if b == 34 then is_empty bs else ends_quoted (b == 92) bs)

-- these bytes end with the `>` that closes the `<` before them, where this many further `<` are open
abbrev pub ends_html : ℕ → List ℕ → Bool
ends_html depth [] = false
ends_html depth (b ∷ bs) =
    if b == 60 then ends_html (depth + 1) bs
    else (if b == 62 then (if depth == 0 then is_empty bs else ends_html (depth - 1) bs)
    else ends_html depth bs)

-- digits, at least one
abbrev pub is_digits : List ℕ → Bool
is_digits [] = false
is_digits (b ∷ bs) = is_ascii_digit b && list_all is_ascii_digit bs

-- digits, and then maybe a point and digits
abbrev pub is_decimal_rest : List ℕ → Bool
is_decimal_rest [] = true
is_decimal_rest (b ∷ bs) = if is_ascii_digit b then is_decimal_rest bs else b == 46 && list_all is_ascii_digit bs

-- a numeral without a sign: a digit, digits, and then maybe a point and digits; or a point and at least one digit
abbrev pub is_decimal : List ℕ → Bool
is_decimal [] = false
is_decimal (b ∷ bs) = if is_ascii_digit b then is_decimal_rest bs else b == 46 && is_digits bs

-- behind a `-`: what makes it `--` or `->`, or a numeral
abbrev pub is_dash_rest : List ℕ → Bool
is_dash_rest [] = false
is_dash_rest (b ∷ bs) = if b == 45 || b == 62 then is_empty bs else is_decimal (b ∷ bs)

-- ---- parts

-- these bytes are one part, by the first of them: white space; a mark; a line feed, maybe with a comment that begins
-- with `#` at the beginning of the next line; a comment behind a `/`; a quoted text; an HTML text; behind a `-` one of
-- `--` and `->`, or a numeral; an identifier; a numeral
abbrev pub is_part : List ℕ → Bool
is_part [] = false
is_part (b ∷ bs) =
    if is_blank b then is_empty bs
    else (if is_mark b then is_empty bs
    else (if b == line_feed then is_feed_rest bs
    else (if b == 47 then is_comment_rest bs
    else (if b == 34 then ends_quoted false bs
    else (if b == 60 then ends_html 0 bs
    else (if b == 45 then is_dash_rest bs
    else (if is_letter b then list_all is_word_byte bs
    else is_decimal (b ∷ bs))))))))

-- the prefix of this length is the longest one that passes the test
pub record IsLongest (test : List ℕ → Bool) (n : ℕ) (text : List ℕ) : Type 0 where
  pub within : n ≤ length text
  pub passes : test (take n text) ≡ true
  pub longer_fail : (k : ℕ) → n < k → k ≤ length text → test (take k text) ≡ false

-- no prefix passes the test
abbrev pub HasNoPrefix : (List ℕ → Bool) → List ℕ → Type 0
HasNoPrefix test text = (k : ℕ) → k ≤ length text → test (take k text) ≡ false

-- a text begins with a part, as long as it can be, and then comes what is behind it
pub record IsFirstPart (part text behind : List ℕ) : Type 0 where
  pub cut : text ≡ part ++ behind
  pub whole : is_part part ≡ true
  pub longest : (k : ℕ) → length part < k → k ≤ length text → is_part (take k text) ≡ false

-- a text begins with these parts, one behind the other, each as long as it can be, and then comes the rest
abbrev pub IsCut : List (List ℕ) → List ℕ → List ℕ → Type 0
IsCut [] text rest = text ≡ rest
IsCut (part ∷ parts) text rest = (behind : List ℕ) × IsFirstPart part text behind × IsCut parts behind rest
