-- What stands behind the words of a line of two words.
use Rattle.std.proofs.Common.{◌≡◌, ◌∙◌, ◌+◌, ℕ, Bool, true, false, cond, not, nat_lt, List, []}
use Rattle.std.proofs.Common.{◌∷◌, ◌++◌, length, drop, Some, None, unwrap_or, refl, ap, sym, arith, one-add}
use Rattle.std.specs.List.{list_all, position_or_len}
use Rattle.std.proofs.lemmas.Bool.{and_parts}
use Rattle.std.proofs.lemmas.Bool.Decides.{nat_tests}
use Rattle.std.proofs.lemmas.List.Sums.{prefix_len-le-length}
use Rattle.ov_lines.specs.Lines.{behind_word, is_no_space, is_space, place_or_end, without_spaces}
use Rattle.ov_lines.proofs.Lines.Written.{in_word, is_word}
use Rattle.ov_script.specs.WrittenLines.{spaced}

-- a place is where the first byte that passes stands, or the length
place_is : (p : ℕ → Bool) (text : List ℕ) → place_or_end p text ≡ position_or_len p text
place_is p text = by (nat_lt (position_or_len p text) (length text)) refl where
  by : (b : Bool) → nat_lt (position_or_len p text) (length text) ≡ b
      → unwrap_or (cond b (Some (position_or_len p text)) None) (length text) ≡ position_or_len p text
  by true e = refl
  by false e = let bound = prefix_len-le-length (λ x. not (p x)) text in grind (arith, nat_tests, bound)

-- a word that spaces follow, or nothing, is passed over
over_word :
    (word rest : List ℕ) → list_all in_word word ≡ true → position_or_len is_space rest ≡ 0
    → drop (position_or_len is_space (word ++ rest)) (word ++ rest) ≡ rest
over_word [] rest solid at = ap (λ k. drop k rest) at
over_word (b ∷ word) rest solid at =
    let (here, later) = and_parts (in_word b) (list_all in_word word) solid in
    let no_space : is_space b ≡ false = grind (arith, nat_tests) in
    ap (λ t. drop (cond (not t) (1 + position_or_len is_space (word ++ rest)) 0) (b ∷ word ++ rest)) no_space
    ∙ ap (λ k. drop k (b ∷ word ++ rest)) (one-add (position_or_len is_space (word ++ rest)))
    ∙ over_word word rest later at

-- a word begins with no space
no_spaces : (word rest : List ℕ) → is_word word ≡ true → without_spaces (word ++ rest) ≡ word ++ rest
no_spaces [] rest is = absurd cc
no_spaces (b ∷ word) rest is =
    let solid = (and_parts (nat_lt 0 (length (b ∷ word))) (list_all in_word (b ∷ word)) is).1 in
    let (here, later) = and_parts (in_word b) (list_all in_word word) solid in
    let other : is_no_space b ≡ true = grind (arith, nat_tests) in
    ap (λ k. drop k (b ∷ word ++ rest)) (place_is is_no_space (b ∷ word ++ rest))
    ∙ ap (λ t. drop (cond (not t) (1 + position_or_len is_no_space (word ++ rest)) 0) (b ∷ word ++ rest)) other

-- what follows the first word
behind_first :
    (word rest : List ℕ) → is_word word ≡ true → position_or_len is_space rest ≡ 0
    → behind_word (word ++ rest) ≡ rest
behind_first word rest is at =
    let solid = (and_parts (nat_lt 0 (length word)) (list_all in_word word) is).1 in
    ap (λ t. drop (place_or_end is_space t) t) (no_spaces word rest is)
    ∙ ap (λ k. drop k (word ++ rest)) (place_is is_space (word ++ rest))
    ∙ over_word word rest solid at

-- a space in front does not count
behind_space : (text : List ℕ) → behind_word (32 ∷ text) ≡ behind_word text
behind_space text =
    ap (λ t. drop (place_or_end is_space t) t) (
    ap (λ k. drop k (32 ∷ text)) (place_is is_no_space (32 ∷ text))
    ∙ ap (λ k. drop k (32 ∷ text)) (one-add (position_or_len is_no_space text))
    ∙ sym (ap (λ k. drop k text) (place_is is_no_space text))
    )

-- nothing follows the second of two words
pub behind_two :
    (name word : List ℕ) → is_word name ≡ true → is_word word ≡ true
    → behind_word (behind_word (name ++ spaced (word ∷ []))) ≡ []
unfolding spaced
behind_two name word is other =
    ap behind_word (behind_first name (32 ∷ word ++ []) is refl)
    ∙ behind_space (word ++ [])
    ∙ behind_first word [] other refl
