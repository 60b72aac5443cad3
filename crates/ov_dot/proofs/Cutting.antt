-- The parts of a text, one more each time, and their tokens.
use Rattle.std.proofs.Common.{◌≡◌, ◌∙◌, ◌+◌, ◌<◌, ◌≤◌, ◌==◌, ◌&&◌, ◌++◌, ℕ, zero, suc, true, false, not}
use Rattle.std.proofs.Common.{cond, Bool, List, []}
use Rattle.std.proofs.Common.{◌∷◌, length, take, drop, refl, sym, ap, subst, arith}
use Rattle.std.proofs.Common.{append_assoc}
use Rattle.std.specs.List.{count_by, list_all}
use Rattle.std.proofs.lemmas.Bool.{and_parts, eqb-true}
use Rattle.std.proofs.lemmas.List.{append-nil, take-append-drop, length-take-le, length-drop}
use Rattle.std.proofs.lemmas.List.Recursion.{is_count_by}
use Rattle.ov_dot.specs.Parts.{line_feed, is_in_line, is_feed_rest, is_part, IsLongest, IsFirstPart, IsCut}
use Rattle.ov_dot.specs.Parts.{HasNoPrefix}
use Rattle.ov_dot.specs.Tokens.{Lexeme, feeds, kind_of, is_word, sticks, token_at, tokens_from, line_behind}
use Rattle.ov_dot.specs.Tokens.{behind_feed, HasTokens, HasNoTokensFrom, HasTornName}
use Rattle.ov_dot.specs.Code.Neighbours.{ends_in_word, are_apart}
use Rattle.ov_dot.proofs.Neighbours.{apart_more, word_more, last_word, none_torn}

pub feeds_counted : (bs : List ℕ) → feeds bs ≡ count_by (λ b. b == line_feed) bs
feeds_counted bs = is_count_by feeds (λ b. b == line_feed) refl (λ x xs. refl) bs

pub feeds_le : (bs : List ℕ) → feeds bs ≤ length bs
feeds_le [] = omega arith
feeds_le (b ∷ bs) =
    let before = feeds_le bs in
    elim (b == line_feed) as (λ v. cond v (1 + feeds bs) (feeds bs) ≤ length
    (b ∷ bs)) [ true ↦ omega arith | false ↦ omega arith ]

-- bytes of one line have no line feed
no_feeds : (bs : List ℕ) → list_all is_in_line bs ≡ true → feeds bs ≡ 0
no_feeds [] all = refl
no_feeds (b ∷ bs) all =
    elim (b == line_feed) as (λ v. (not v && list_all is_in_line bs) ≡ true → cond v (1 + feeds bs) (feeds bs) ≡ 0) [
      | true ↦ λ no. absurd cc
      | false ↦ λ rest. no_feeds bs rest
    ] all

-- nor does what belongs to a line feed
no_feeds_behind : (bs : List ℕ) → is_feed_rest bs ≡ true → feeds bs ≡ 0
no_feeds_behind [] is = refl
no_feeds_behind (b ∷ bs) is =
    let (hash, rest) = and_parts (b == 35) (list_all is_in_line bs) is in
    let is_hash : b ≡ 35 = eqb-true b 35 hash in
    rw is_hash (no_feeds bs rest)

-- what was read of a text: its first parts, their tokens, the line feeds in them but for the first, the rest, and
-- whether the last part is a word
pub record SoFar (text : List ℕ) (tokens : List Lexeme) (n : ℕ) (rest : List ℕ) (word : Bool) : Type 0 where
  pub parts : List (List ℕ)
  pub cut : IsCut parts (behind_feed text) rest
  pub told : tokens ≡ tokens_from 0 parts
  pub line : n + 1 ≡ line_behind 0 parts
  pub room : n + length rest ≤ length text
  pub apart : are_apart false parts ≡ true
  pub last : word ≡ ends_in_word false parts

first_longest :
    (text : List ℕ) (m : ℕ) → IsLongest is_feed_rest m text
    → (k : ℕ) → length (line_feed ∷ take m text) < k → k ≤ length (behind_feed text)
    → is_part (take k (behind_feed text)) ≡ false
first_longest text m it zero more within = absurd (omega arith)
first_longest text m it (suc k) more within =
    it.longer_fail k (omega (arith, length-take-le m text it.within)) (omega arith)

-- the line feed in front, with the comment behind it
pub begun : (text : List ℕ) (m : ℕ) → IsLongest is_feed_rest m text → SoFar text [] 0 (drop m text) false
unfolding tokens_from line_behind
begun text m it = record {
  parts = (line_feed ∷ take m text) ∷ [];
  cut = (
    drop m text,
    record {
      cut = ap (λ t. line_feed ∷ t) (sym (take-append-drop m text));
      whole = it.passes;
      longest = first_longest text m it;
    },
    refl,
  );
  told = refl;
  line = ap (λ k. 0 + (1 + k)) (sym (no_feeds_behind (take m text) it.passes));
  room = let within = it.within in omega (arith, length-drop m text);
  apart = refl;
  last = refl;
}

cut_more :
    (parts : List (List ℕ)) (text rest part behind : List ℕ) → IsCut parts text rest → IsFirstPart part rest behind
    → IsCut (parts ++ part ∷ []) text behind
cut_more [] text rest part behind is first = (behind, subst (λ t. IsFirstPart part t behind) (sym is) first, refl)
cut_more (p ∷ parts) text rest part behind is first = (is.0, is.1, cut_more parts is.0 rest part behind is.2 first)

tokens_more :
    (n : ℕ) (parts : List (List ℕ)) (part : List ℕ)
    → tokens_from n (parts ++ part ∷ []) ≡ tokens_from n parts ++ token_at (line_behind n parts) part
    (kind_of part)
unfolding tokens_from line_behind
tokens_more n [] part = append-nil (token_at n part (kind_of part))
tokens_more n (p ∷ parts) part =
    ap (λ t. token_at n p (kind_of p) ++ t) (tokens_more (n + feeds p) parts part)
    ∙ sym (append_assoc (token_at n p (kind_of p)) (tokens_from (n + feeds p) parts) (token_at (line_behind
    (n + feeds p) parts) part (kind_of part)))

line_more :
    (n : ℕ) (parts : List (List ℕ)) (part : List ℕ)
    → line_behind n (parts ++ part ∷ []) ≡ line_behind n parts + feeds part
unfolding line_behind
line_more n [] part = refl
line_more n (p ∷ parts) part = line_more (n + feeds p) parts part

-- a part has a byte
pub some_bytes : (n : ℕ) (text : List ℕ) → IsLongest is_part n text → 0 < n
some_bytes zero text it = let whole : false ≡ true = it.passes in absurd cc
some_bytes (suc n) text it = omega arith

-- the longest prefix that is a part is the first part
first_part : (n : ℕ) (text : List ℕ) → IsLongest is_part n text → IsFirstPart (take n text) text (drop n text)
first_part n text it = record {
  cut = sym (take-append-drop n text);
  whole = it.passes;
  longest = λ k more within. it.longer_fail k (omega (arith, length-take-le n text it.within)) within;
}

-- one part more
pub more :
    (text : List ℕ) (tokens : List Lexeme) (n : ℕ) (rest : List ℕ) (word : Bool) (len : ℕ)
    → SoFar text tokens n rest word → IsLongest is_part len rest
    → (word && sticks (kind_of (take len rest))) ≡ false
    → SoFar text (tokens ++ token_at (n + 1) (take len rest) (kind_of (take len rest))) (n + feeds (take len rest))
    (drop len rest) (is_word (kind_of (take len rest)))
more text tokens n rest word len so it free =
    let part = take len rest in
    let line = so.line in
    let room = so.room in
    let behind = line_more 0 so.parts part in
    record {
      parts = so.parts ++ part ∷ [];
      cut = cut_more so.parts (behind_feed text) rest part (drop len rest) so.cut (first_part len rest it);
      told =
          ap (λ t. t ++ token_at (n + 1) part (kind_of part)) so.told
          ∙ ap (λ k. tokens_from 0 so.parts ++ token_at k part (kind_of part)) so.line
          ∙ sym (tokens_more 0 so.parts part);
      line = omega (arith, behind);
      room = omega (arith, feeds_le part, length-take-le len rest it.within, length-drop len rest);
      apart =
          apart_more false so.parts part so.apart
          (subst (λ v. (v && sticks (kind_of part)) ≡ false) so.last free);
      last = sym (word_more false so.parts part);
    }

-- nothing is left
pub done :
    (text : List ℕ) (tokens : List Lexeme) (n : ℕ) (rest : List ℕ) (word : Bool) → SoFar text tokens n rest word
    → (length rest == 0) ≡ true
    → HasTokens text tokens
done text tokens n [] word so none = (so.parts, so.cut, none_torn false so.parts so.apart, so.told)
done text tokens n (b ∷ rest) word so none =
    let empty = eqb-true (length (b ∷ rest)) 0 none in absurd (omega arith)

-- what is left begins with no part
pub unread :
    (text : List ℕ) (tokens : List Lexeme) (n : ℕ) (rest : List ℕ) (word : Bool) → SoFar text tokens n rest word
    → (length rest == 0) ≡ false → HasNoPrefix is_part rest
    → HasNoTokensFrom text (n + 1)
unread text tokens n [] word so some none = absurd cc
unread text tokens n (b ∷ rest) word so some none =
    (so.parts, b ∷ rest, so.cut, omega arith, none, none_torn false so.parts so.apart, so.line)

-- the next part is a word or a colon behind a word
pub torn :
    (text : List ℕ) (tokens : List Lexeme) (n : ℕ) (rest : List ℕ) (word : Bool) (len : ℕ)
    → SoFar text tokens n rest word → IsLongest is_part len rest
    → word ≡ true → sticks (kind_of (take len rest)) ≡ true
    → HasTornName text (n + 1)
torn text tokens n rest word len so it behind is =
    let part = take len rest in
    let end = last_word so.parts (sym so.last ∙ behind) in
    record {
      before = end.0;
      first = end.1;
      second = part;
      rest = drop len rest;
      cut =
          subst (λ (ps : List (List ℕ)). IsCut ps (behind_feed text) (drop len rest))
          (ap (λ ps. ps ++ part ∷ []) end.2 ∙ append_assoc end.0 (end.1 ∷ []) (part ∷ []))
          (cut_more so.parts (behind_feed text) rest part (drop len rest) so.cut (first_part len rest it));
      none_before = none_torn false (end.0 ++ end.1 ∷ []) (subst (λ ps. are_apart false ps ≡ true) end.2 so.apart);
      torn = (end.3, is);
      is_line = so.line ∙ ap (line_behind 0) end.2;
    }
