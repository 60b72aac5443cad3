-- The words of a line, one after the other.
use Rattle.std.proofs.Common.{◌≡◌, ◌∙◌, ◌<◌, ◌+◌, ◌==◌, ℕ, suc, Bool, true, false, cond, not, nat_lt, if◌then◌else◌}
use Rattle.std.proofs.Common.{List, [], ◌∷◌, length, take, drop, Option, Some, None, unwrap_or, is_some, MatchOption}
use Rattle.std.proofs.Common.{refl, ap, sym, subst, arith, one-add}
use Rattle.std.specs.List.{filter, slice_split, onto_first, position_or_len}
use Rattle.std.proofs.lemmas.List.Sums.{prefix_len-le-length}
use Rattle.std.proofs.lemmas.Bool.{lt-ltb}
use Rattle.std.proofs.lemmas.Bool.Decides.{nat_tests}
use Rattle.ov_lines.specs.Lines.{is_space, is_no_space, place_or_end, without_spaces, words_of, behind_word}
use Rattle.ov_lines.specs.Code.Spaced.{up_to_space, first_word}

-- a place is where the first byte that passes stands, or the length
place_is : (p : ℕ → Bool) (text : List ℕ) → place_or_end p text ≡ position_or_len p text
place_is p text = by (nat_lt (position_or_len p text) (length text)) refl where
  by : (b : Bool) → nat_lt (position_or_len p text) (length text) ≡ b
      → unwrap_or (cond b (Some (position_or_len p text)) None) (length text) ≡ position_or_len p text
  by true e = refl
  by false e = let bound = prefix_len-le-length (λ x. not (p x)) text in grind (arith, nat_tests, bound)

-- what is left behind the spaces in front
after_spaces : List ℕ → List ℕ
after_spaces text = drop (position_or_len is_no_space text) text

after_space : (b : ℕ) (text : List ℕ) → is_space b ≡ true → after_spaces (b ∷ text) ≡ after_spaces text
unfolding after_spaces
after_space b text e =
    ap (λ t. drop (cond (not (not t)) (1 + position_or_len is_no_space text) 0) (b ∷ text)) e
    ∙ ap (λ k. drop k (b ∷ text)) (one-add (position_or_len is_no_space text))

after_other : (b : ℕ) (text : List ℕ) → is_space b ≡ false → after_spaces (b ∷ text) ≡ b ∷ text
unfolding after_spaces
after_other b text e = ap (λ t. drop (cond (not (not t)) (1 + position_or_len is_no_space text) 0) (b ∷ text)) e

-- the parts at the first space
front : List ℕ → List ℕ
front text = take (position_or_len is_space text) text

back : List ℕ → List ℕ
back text = drop (position_or_len is_space text) text

front_space : (b : ℕ) (text : List ℕ) → is_space b ≡ true → front (b ∷ text) ≡ []
unfolding front
front_space b text e = ap (λ t. take (cond (not t) (1 + position_or_len is_space text) 0) (b ∷ text)) e

front_other : (b : ℕ) (text : List ℕ) → is_space b ≡ false → front (b ∷ text) ≡ b ∷ front text
unfolding front
front_other b text e =
    ap (λ t. take (cond (not t) (1 + position_or_len is_space text) 0) (b ∷ text)) e
    ∙ ap (λ k. take k (b ∷ text)) (one-add (position_or_len is_space text))

back_space : (b : ℕ) (text : List ℕ) → is_space b ≡ true → back (b ∷ text) ≡ b ∷ text
unfolding back
back_space b text e = ap (λ t. drop (cond (not t) (1 + position_or_len is_space text) 0) (b ∷ text)) e

back_other : (b : ℕ) (text : List ℕ) → is_space b ≡ false → back (b ∷ text) ≡ back text
unfolding back
back_other b text e =
    ap (λ t. drop (cond (not t) (1 + position_or_len is_space text) 0) (b ∷ text)) e
    ∙ ap (λ k. drop k (b ∷ text)) (one-add (position_or_len is_space text))

-- the parts that are not empty
filled : List (List ℕ) → List (List ℕ)
filled parts = filter (λ part. nat_lt 0 (length part)) parts

words_filled : (text : List ℕ) → words_of text ≡ filled (slice_split is_space text)
unfolding filled words_of
words_filled text = refl

split_space : (b : ℕ) (text : List ℕ) → is_space b ≡ true
    → slice_split is_space (b ∷ text) ≡ [] ∷ slice_split is_space text
split_space b text e = ap (λ t. cond t ([] ∷ slice_split is_space text) (onto_first b (slice_split is_space text))) e

split_other : (b : ℕ) (text : List ℕ) → is_space b ≡ false
    → slice_split is_space (b ∷ text) ≡ onto_first b (slice_split is_space text)
split_other b text e = ap (λ t. cond t ([] ∷ slice_split is_space text) (onto_first b (slice_split is_space text))) e

words_space : (b : ℕ) (text : List ℕ) → is_space b ≡ true → words_of (b ∷ text) ≡ words_of text
unfolding words_of
words_space b text e = ap (filter (λ part. nat_lt 0 (length part))) (split_space b text e)

-- spaces in front do not count
words_after : (text : List ℕ) → words_of text ≡ words_of (after_spaces text)
unfolding after_spaces
words_after [] = refl
words_after (b ∷ text) = by (is_space b) refl (words_after text) where
  by : (t : Bool) → is_space b ≡ t → words_of text ≡ words_of (after_spaces text)
      → words_of (b ∷ text) ≡ words_of (after_spaces (b ∷ text))
  by true e same = words_space b text e ∙ same ∙ ap words_of (sym (after_space b text e))
  by false e same = ap words_of (sym (after_other b text e))

-- the text is empty or begins with no space
Starts : List ℕ → Type 0
Starts [] = Unit {0}
Starts (b ∷ text) = is_space b ≡ false

starts : (text : List ℕ) → Starts (after_spaces text)
unfolding Starts after_spaces
starts [] = tt
starts (b ∷ text) = by (is_space b) refl (starts text) where
  by : (t : Bool) → is_space b ≡ t → Starts (after_spaces text) → Starts (after_spaces (b ∷ text))
  by true e rest = subst Starts (sym (after_space b text e)) rest
  by false e rest = subst Starts (sym (after_other b text e)) e

-- the parts that follow a first one
later : List ℕ → List (List ℕ)
later [] = []
later (b ∷ text) = slice_split is_space text

split_front : (text : List ℕ) → slice_split is_space text ≡ front text ∷ later (back text)
unfolding front back later
split_front [] = refl
split_front (b ∷ text) = by (is_space b) refl (split_front text) where
  by : (t : Bool) → is_space b ≡ t → slice_split is_space text ≡ front text ∷ later (back text)
      → slice_split is_space (b ∷ text) ≡ front (b ∷ text) ∷ later (back (b ∷ text))
  by true e same =
      split_space b text e ∙ sym
      (ap (λ f. f ∷ later (back (b ∷ text))) (front_space b text e) ∙ ap (λ k. [] ∷ later k) (back_space b text e))
  by false e same =
      split_other b text e ∙ ap (onto_first b) same
      ∙ sym (ap (λ f. f ∷ later (back (b ∷ text))) (front_other b text e)
      ∙ ap (λ k. (b ∷ front text) ∷ later k) (back_other b text e))

words_back : (text : List ℕ) → filled (later (back text)) ≡ words_of (back text)
unfolding filled later back words_of
words_back [] = refl
words_back (b ∷ text) = by (is_space b) refl (words_back text) where
  by : (t : Bool) → is_space b ≡ t → filled (later (back text)) ≡ words_of (back text)
      → filled (later (back (b ∷ text))) ≡ words_of (back (b ∷ text))
  by true e same =
      ap (λ k. filled (later k)) (back_space b text e) ∙ sym (ap words_of (back_space b text e) ∙ words_space b text e)
  by false e same =
      ap (λ k. filled (later k)) (back_other b text e) ∙ same ∙ sym (ap words_of (back_other b text e))

filled_more : (part : List ℕ) (parts : List (List ℕ)) → 0 < length part → filled (part ∷ parts) ≡ part ∷ filled parts
unfolding filled
filled_more part parts some = ap (λ t. cond t (part ∷ filled parts) (filled parts)) (lt-ltb 0 (length part) some)

-- a line that begins with no space has its first word in front
words_front : (b : ℕ) (text : List ℕ) → is_space b ≡ false
    → words_of (b ∷ text) ≡ front (b ∷ text) ∷ words_of (back (b ∷ text))
words_front b text e =
    let long : 0 < length (front (b ∷ text)) = subst (λ f. 0 < length f) (sym (front_other b text e)) (omega arith) in
    words_filled (b ∷ text) ∙ ap filled (split_front (b ∷ text))
    ∙ filled_more (front (b ∷ text)) (later (back (b ∷ text))) long
    ∙ ap (λ ws. front (b ∷ text) ∷ ws) (words_back (b ∷ text))

placed_front : (text : List ℕ) → front text ≡ take (place_or_end is_space text) text
unfolding front
placed_front text = ap (λ k. take k text) (sym (place_is is_space text))

placed_back : (text : List ℕ) → back text ≡ drop (place_or_end is_space text) text
unfolding back
placed_back text = ap (λ k. drop k text) (sym (place_is is_space text))

IsFirst : List (List ℕ) → List ℕ → Option (List ℕ × List ℕ) → Type 0
IsFirst words text first =
    MatchOption first (words ≡ []) (λ p. (words ≡ p.0 ∷ words_of p.1) × (p.1 ≡ drop (place_or_end is_space text) text))

pub not_empty : (n : ℕ) → (suc n == 0) ≡ false
not_empty n = grind (arith, nat_tests)

first_of : (text : List ℕ) → Starts text
    → IsFirst (words_of text) text (if length text == 0 then None else Some (up_to_space text))
unfolding Starts IsFirst words_of
first_of [] begun = refl
first_of (b ∷ text) begun =
    subst (λ t. IsFirst (words_of (b ∷ text)) (b ∷ text) (if t then None else Some (up_to_space (b ∷ text))))
    (sym (not_empty (length text))) (
      words_front b text begun ∙ ap (λ f. f ∷ words_of (back (b ∷ text))) (placed_front (b ∷ text))
          ∙ ap (λ k. take (place_or_end is_space (b ∷ text)) (b ∷ text) ∷ words_of k) (placed_back (b ∷ text)),
      refl,
    )

-- the first word of a line, and the words behind it
words_first : (text : List ℕ) → IsFirst (words_of text) (without_spaces text) (first_word text)
unfolding first_word after_spaces
words_first text =
    let placed : after_spaces text ≡ without_spaces text = ap (λ k. drop k text) (sym (place_is is_no_space text)) in
    subst (λ words. IsFirst words (without_spaces text) (first_word text))
    (sym (words_after text ∙ ap words_of placed))
    (first_of (without_spaces text) (subst Starts placed (starts text)))

pub words_none : (text : List ℕ) → first_word text ≡ None → words_of text ≡ []
unfolding IsFirst
words_none text none = subst (IsFirst (words_of text) (without_spaces text)) none (words_first text)

pub words_some : (text word rest : List ℕ) → first_word text ≡ Some (word, rest)
    → (words_of text ≡ word ∷ words_of rest) × (rest ≡ behind_word text)
unfolding IsFirst
words_some text word rest some = subst (IsFirst (words_of text) (without_spaces text)) some (words_first text)

-- nothing is left where there is no first word
pub none_left : (text : List ℕ) → not (is_some (first_word text)) ≡ (length (words_of text) == 0)
none_left text = by (first_word text) refl where
  by : (first : Option (List ℕ × List ℕ)) → first_word text ≡ first
      → not (is_some first) ≡ (length (words_of text) == 0)
  by None e = sym (ap (λ ws. length ws == 0) (words_none text e))
  by (Some p) e =
      sym (ap (λ ws. length ws == 0) (words_some text p.0 p.1 e).0 ∙ not_empty (length (words_of p.1)))
