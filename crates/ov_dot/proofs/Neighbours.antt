-- Words that are neighbours: of one part more, and of parts that are taken apart.
use Rattle.std.proofs.Common.{◌≡◌, ◌∙◌, ◌&&◌, ◌++◌, ℕ, Bool, true, false, not, List, [], ◌∷◌, refl, sym, ap, subst}
use Rattle.std.proofs.lemmas.Bool.{and_parts, and_from}
use Rattle.ov_dot.specs.Tokens.{is_word, kind_of, sticks, AreTorn, HasNoneTorn}
use Rattle.ov_dot.specs.Code.Neighbours.{ends_in_word, are_apart}

pub apart_more :
    (behind : Bool) (parts : List (List ℕ)) (part : List ℕ) → are_apart behind parts ≡ true
    → (ends_in_word behind parts && sticks (kind_of part)) ≡ false
    → are_apart behind (parts ++ part ∷ []) ≡ true
apart_more behind [] part all free = ap (λ v. not v && true) free
apart_more behind (p ∷ parts) part all free =
    let word = is_word (kind_of p) in
    let stuck = behind && sticks (kind_of p) in
    let (here, later) = and_parts (not stuck) (are_apart word parts) all in
    and_from (not stuck) (are_apart word (parts ++ part ∷ [])) here
    (apart_more word parts part later free)

pub word_more :
    (behind : Bool) (parts : List (List ℕ)) (part : List ℕ)
    → ends_in_word behind (parts ++ part ∷ []) ≡ is_word (kind_of part)
word_more behind [] part = refl
word_more behind (p ∷ parts) part = word_more (is_word (kind_of p)) parts part

-- parts end with a word
abbrev EndInWord : List (List ℕ) → Type 0
EndInWord parts =
    (before : List (List ℕ)) × (last : List ℕ) × (parts ≡ before ++ last ∷ []) × (is_word (kind_of last) ≡ true)

some_last :
    (behind : Bool) (part : List ℕ) (parts : List (List ℕ)) → ends_in_word behind (part ∷ parts) ≡ true
    → EndInWord (part ∷ parts)
some_last behind part [] is = ([], part, refl, is)
some_last behind part (p ∷ parts) is =
    let end = some_last (is_word (kind_of part)) p parts is in
    (part ∷ end.0, end.1, ap (λ ps. part ∷ ps) end.2, end.3)

pub last_word : (parts : List (List ℕ)) → ends_in_word false parts ≡ true → EndInWord parts
last_word [] is = absurd cc
last_word (p ∷ parts) is = some_last false p parts is

not_torn :
    (behind : Bool) (before : List (List ℕ)) (first second : List ℕ) (later : List (List ℕ))
    → are_apart behind (before ++ first ∷ second ∷ later) ≡ true
    → AreTorn first second → ⊥
not_torn behind [] first second later all torn =
    let word = is_word (kind_of first) in
    let next = sticks (kind_of second) in
    let stuck = behind && sticks (kind_of first) in
    let behind_first = (and_parts (not stuck) (are_apart word (second ∷ later)) all).1 in
    let apart : not (word && next) ≡ true =
    (and_parts (not (word && next)) (are_apart (is_word (kind_of second)) later) behind_first).0 in
    let both : (word && next) ≡ true = and_from word next torn.0 torn.1 in
    let never : false ≡ true = sym (ap not both) ∙ apart in
    cc
not_torn behind (p ∷ before) first second later all torn =
    let word = is_word (kind_of p) in
    not_torn word before first second later
    (and_parts (not (behind && sticks (kind_of p))) (are_apart word (before ++ first ∷ second ∷ later)) all).1 torn

pub none_torn : (behind : Bool) (parts : List (List ℕ)) → are_apart behind parts ≡ true → HasNoneTorn parts
none_torn behind parts all before first second later is torn =
    not_torn behind before first second later (subst (λ ps. are_apart behind ps ≡ true) is all) torn
