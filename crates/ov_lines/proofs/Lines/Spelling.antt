-- The ids of a word, one after the other.
use Rattle.std.proofs.Common.{◌≡◌, ◌∙◌, ◌<◌, ℕ, Bool, true, false, cond, List, [], ◌∷◌, ◌++◌, length, Option}
use Rattle.std.proofs.Common.{Some, None, refl, ap, sym, subst, arith, append_assoc, append-nil}
use Rattle.std.specs.List.{slice_split, onto_first}
use Rattle.ov_ids.specs.Options.{◌>>=◌}
use Rattle.ov_lines.specs.Lines.{number_within, each_number, is_comma, ids_of}

-- the pieces spell these ids and then what the pieces that are left spell
abbrev pub Spells : List (List ℕ) → List (List ℕ) → List ℕ → Type 0
Spells all left ids = each_number 32 all ≡ (each_number 32 left >>= λ ns. Some (ids ++ ns))

as_it_is : (o : Option (List ℕ)) → o ≡ (o >>= λ ns. Some ([] ++ ns))
as_it_is None = refl
as_it_is (Some ns) = refl

-- no piece was read
pub begun : (all left : List (List ℕ)) (ids : List ℕ) → left ≡ all → ids ≡ [] → Spells all left ids
begun all left ids same none =
    as_it_is (each_number 32 all) ∙ ap (λ ps. each_number 32 ps >>= λ ns. Some ([] ++ ns)) (sym same)
    ∙ ap (λ xs. each_number 32 left >>= λ ns. Some (xs ++ ns)) (sym none)

one_further :
    (o : Option (List ℕ)) (ids : List ℕ) (n : ℕ)
    → ((o >>= λ ns. Some (n ∷ ns)) >>= λ ns. Some (ids ++ ns))
    ≡ (o >>= λ ns. Some ((ids ++ n ∷ []) ++ ns))
one_further None ids n = refl
one_further (Some ns) ids n = ap Some (sym (append_assoc ids (n ∷ []) ns))

-- one piece more
pub more :
    (all now later : List (List ℕ)) (piece ids then : List ℕ) (n : ℕ) → Spells all now ids → now ≡ piece ∷ later
    → number_within 32 piece ≡ Some n → then ≡ ids ++ n ∷ []
    → Spells all later then
more all now later piece ids then n so_far first reads gains =
    so_far ∙ ap (λ ps. each_number 32 ps >>= λ ns. Some (ids ++ ns)) first
    ∙ ap (λ o. (o >>= λ m. each_number 32 later >>= λ ns. Some (m ∷ ns)) >>= λ ns. Some (ids ++ ns)) reads
    ∙ one_further (each_number 32 later) ids n
    ∙ ap (λ xs. each_number 32 later >>= λ ns. Some (xs ++ ns)) (sym gains)

-- a piece that is no id
pub unread :
    (all now later : List (List ℕ)) (piece ids : List ℕ) → Spells all now ids → now ≡ piece ∷ later
    → number_within 32 piece ≡ None
    → each_number 32 all ≡ None
unread all now later piece ids so_far first reads =
    so_far ∙ ap (λ ps. each_number 32 ps >>= λ ns. Some (ids ++ ns)) first
    ∙ ap (λ o. (o >>= λ m. each_number 32 later >>= λ ns. Some (m ∷ ns)) >>= λ ns. Some (ids ++ ns)) reads

-- all pieces were read
pub all_read :
    (all left : List (List ℕ)) (ids : List ℕ) → Spells all left ids → left ≡ []
    → each_number 32 all ≡ Some ids
all_read all left ids so_far none =
    so_far ∙ ap (λ ps. each_number 32 ps >>= λ ns. Some (ids ++ ns)) none ∙ ap Some (append-nil ids)

-- a word that spells ids spells at least one
first_read :
    (pieces : List (List ℕ)) (ids : List ℕ) → 0 < length pieces → each_number 32 pieces ≡ Some ids
    → 0 < length ids
first_read [] ids some spells = absurd (omega (arith, some))
first_read (piece ∷ more) ids some spells = by (number_within 32 piece) (each_number 32 more) spells where
  by :
      (o : Option ℕ) (later : Option (List ℕ)) → (o >>= λ n. later >>= λ ns. Some (n ∷ ns)) ≡ Some ids
      → 0 < length ids
  by None later e = absurd (cc)
  by (Some n) None e = absurd (cc)
  by (Some n) (Some ns) e =
      let same : n ∷ ns ≡ ids = cc in
      subst (λ xs. 0 < length xs) same (omega arith)

put_first : (b : ℕ) (parts : List (List ℕ)) → 0 < length (onto_first b parts)
put_first b [] = omega arith
put_first b (part ∷ more) = omega arith

some_piece : (word : List ℕ) → 0 < length (slice_split is_comma word)
some_piece [] = omega arith
some_piece (b ∷ word) = by (is_comma b) where
  by : (t : Bool) → 0 < length (cond t ([] ∷ slice_split is_comma word) (onto_first b (slice_split is_comma word)))
  by true = omega arith
  by false = put_first b (slice_split is_comma word)

pub some_id : (word ids : List ℕ) → ids_of word ≡ Some ids → 0 < length ids
unfolding ids_of
some_id word ids spells = first_read (slice_split is_comma word) ids (some_piece word) spells
