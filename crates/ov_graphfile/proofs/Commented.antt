-- A comment `# N NAME` says what was written.
use Rattle.std.proofs.Common.{◌≡◌, ◌∙◌, ◌<◌, ◌+◌, ℕ, Bool, true, cond, not, nat_lt, List, [], ◌∷◌, ◌++◌, length}
use Rattle.std.proofs.Common.{drop, codes, decimal, Some, None, unwrap_or, if◌then◌else◌, refl, ap, arith}
use Rattle.std.proofs.Common.{length-append, one-add}
use Rattle.std.specs.List.{list_all, position_or_len}
use Rattle.std.proofs.lemmas.Bool.{and_parts, lt-ltb}
use Rattle.std.proofs.lemmas.Bool.Decides.{nat_tests}
use Rattle.std.proofs.lemmas.List.{drop_at}
use Rattle.std.proofs.lemmas.List.Sums.{AllPass-from_list_all, list_all-from_AllPass}
use Rattle.ov_ids.specs.Limits.{number_limit}
use Rattle.ov_ids.specs.Options.{◌>>=◌}
use Rattle.ov_lines.specs.Lines.{is_space, is_no_space, place_or_end, without_spaces, without_space, behind_word}
use Rattle.ov_lines.specs.Lines.{words_of, short_bits}
use Rattle.ov_lines.specs.Code.Spaced.{first_number}
use Rattle.ov_lines.proofs.Lines.Written.{id_read, id_word, in_word, is_word, words_next}
use Rattle.ov_graphfile.specs.NameLines.{comment_said, is_marked, with_name}

-- ---- the place of a byte

ends_after : (p : ℕ → Bool) (front rest : List ℕ) (b : ℕ) → list_all (λ x. not (p x)) front ≡ true → p b ≡ true
    → position_or_len p (front ++ b ∷ rest) ≡ length front
ends_after p [] rest b others here = ap (λ t. cond (not t) (1 + position_or_len p rest) 0) here
ends_after p (x ∷ front) rest b others here =
    let both = and_parts (not (p x)) (list_all (λ y. not (p y)) front) others in
    ap (λ t. cond t (1 + position_or_len p (front ++ b ∷ rest)) 0) both.0
    ∙ ap (λ k. 1 + k) (ends_after p front rest b both.1 here) ∙ one-add (length front)

-- the first byte that passes is behind those that do not
place_after : (p : ℕ → Bool) (front rest : List ℕ) (b : ℕ) → list_all (λ x. not (p x)) front ≡ true → p b ≡ true
    → place_or_end p (front ++ b ∷ rest) ≡ length front
place_after p front rest b others here =
    let long : length (front ++ b ∷ rest) ≡ length front + length (b ∷ rest) = length-append front (b ∷ rest) in
    let within : length front < length (front ++ b ∷ rest) = omega (arith, long) in
    let found = ends_after p front rest b others here in
    ap (λ k. unwrap_or (cond (nat_lt k (length (front ++ b ∷ rest))) (Some k) None) (length (front ++ b ∷ rest))) found
    ∙ ap (λ t. unwrap_or (cond t (Some (length front)) None) (length (front ++ b ∷ rest)))
    (lt-ltb (length front) (length (front ++ b ∷ rest)) within)

-- ---- behind a word

no_space : (b : ℕ) → in_word b ≡ true → not (is_space b) ≡ true
no_space b in_it = grind (arith, nat_tests)

solid : (word : List ℕ) → list_all in_word word ≡ true → list_all (λ b. not (is_space b)) word ≡ true
solid word all =
    let each = AllPass-from_list_all in_word word all in
    list_all-from_AllPass (λ b. not (is_space b)) word (λ k d within. no_space _ (each k d within))

-- what follows the first word of a line whose spaces in front are passed
behind_first : (line word rest : List ℕ) → list_all in_word word ≡ true → without_spaces line ≡ word ++ 32 ∷ rest
    → behind_word line ≡ 32 ∷ rest
behind_first line word rest all passed =
    ap (λ t. drop (place_or_end is_space t) t) passed
    ∙ ap (λ k. drop k (word ++ 32 ∷ rest)) (place_after is_space word rest 32 (solid word all) refl)
    ∙ drop_at word (32 ∷ rest) (length word) refl

-- what follows a word
behind_next : (word rest : List ℕ) → is_word word ≡ true → behind_word (word ++ 32 ∷ rest) ≡ 32 ∷ rest
behind_next [] rest is = absurd (cc)
behind_next (b ∷ word) rest is =
    let all = (and_parts (nat_lt 0 (length (b ∷ word))) (list_all in_word (b ∷ word)) is).1 in
    let first = (and_parts (in_word b) (list_all in_word word) all).0 in
    behind_first ((b ∷ word) ++ 32 ∷ rest) (b ∷ word) rest all
    (ap (λ k. drop k ((b ∷ word) ++ 32 ∷ rest))
    (place_after is_no_space [] (word ++ 32 ∷ rest) b refl (no_space b first)))

-- the same behind a space
behind_spaced : (word rest : List ℕ) → is_word word ≡ true → behind_word (32 ∷ (word ++ 32 ∷ rest)) ≡ 32 ∷ rest
behind_spaced [] rest is = absurd (cc)
behind_spaced (b ∷ word) rest is =
    let all = (and_parts (nat_lt 0 (length (b ∷ word))) (list_all in_word (b ∷ word)) is).1 in
    let first = (and_parts (in_word b) (list_all in_word word) all).0 in
    behind_first (32 ∷ ((b ∷ word) ++ 32 ∷ rest)) (b ∷ word) rest all
    (ap (λ k. drop k (32 ∷ ((b ∷ word) ++ 32 ∷ rest)))
    (place_after is_no_space (32 ∷ []) (word ++ 32 ∷ rest) b refl (no_space b first)))

words_spaced : (text : List ℕ) → words_of (32 ∷ text) ≡ words_of text
unfolding words_of
words_spaced text = refl

-- ---- the comment

-- a comment says the id and the name that it was written with
pub comment_back : (n : ℕ) (name : List ℕ) → n < number_limit → 0 < length name
    → comment_said (codes "# " ++ (decimal n ++ 32 ∷ name)) ≡ Some (n, name)
comment_back n name low some =
    let said : List ℕ = decimal n ++ 32 ∷ name in
    let line : List ℕ = codes "# " ++ said in
    let marked : is_marked (words_of line) ≡ true = ap is_marked (words_next (codes "#") said refl) in
    let behind : behind_word line ≡ 32 ∷ said = behind_next (codes "#") said refl in
    let words : words_of (behind_word line) ≡ decimal n ∷ words_of name =
    ap words_of behind ∙ words_spaced said ∙ words_next (decimal n) name (id_word n low) in
    let left : behind_word (behind_word line) ≡ 32 ∷ name =
    ap behind_word behind ∙ behind_spaced (decimal n) name (id_word n low) in
    let rest : List ℕ = without_space (behind_word (behind_word line)) in
    ap (λ t. if t then (first_number short_bits (words_of (behind_word line)) >>= λ k. with_name k rest) else None)
    marked
    ∙ ap (λ ws. first_number short_bits ws >>= λ k. with_name k rest) words
    ∙ ap (λ o. o >>= λ k. with_name k rest) (id_read n low)
    ∙ ap (λ t. with_name n (without_space t)) left
    ∙ ap (λ t. if t then Some (n, name) else None) (lt-ltb 0 (length name) some)
