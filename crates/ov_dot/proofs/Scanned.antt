-- What a scan finds is the longest prefix that is a part, or there is none.
use Rattle.std.proofs.Common.{◌≡◌, ◌∙◌, ◌+◌, ◌<◌, ◌≤◌, ℕ, zero, suc, Bool, true, false, List, [], ◌∷◌, Option, Some}
use Rattle.std.proofs.Common.{None, ◌⊎◌}
use Rattle.std.proofs.Common.{length, take, inl, inr, refl, sym, ap, subst, arith, add-zero}
use Rattle.std.specs.Prelude.{if◌then◌else◌, MatchOption, unwrap_or}
use Rattle.ov_dot.specs.declared.lexeme_scanning.ScanPlace.{ScanPlace}
use Rattle.ov_dot.specs.declared.lexeme_scanning.ScanPlace.TheVariants.{Start, LineFeed}
use Rattle.ov_dot.specs.Parts.{HasNoPrefix, IsLongest, is_part, is_feed_rest}
use Rattle.ov_dot.specs.Code.Scanning.{accepts, after, is_whole, marked, longest_from}
use Rattle.ov_dot.proofs.Accepted.{in_part, behind_feed}

-- what a scan from a place answers, where it had this one before
abbrev Found : ℕ → Option ScanPlace → List ℕ → Option ℕ → Option ℕ → Type 0
Found n place bs so_far answer =
    (HasNoPrefix (accepts place) bs × (answer ≡ so_far))
    ⊎ ((m : ℕ) × IsLongest (accepts place) m bs × (answer ≡ Some (n + m)))

-- no prefix of nothing passes
none_empty : (test : List ℕ → Bool) → test [] ≡ false → HasNoPrefix test []
none_empty test fails zero within = fails
none_empty test fails (suc k) within = absurd (omega arith)

-- no prefix passes from a place at which no part ends
none_more :
    (place : ScanPlace) (b : ℕ) (bs : List ℕ) → is_whole place ≡ false → HasNoPrefix (accepts (after place b)) bs
    → HasNoPrefix (accepts (Some place)) (b ∷ bs)
none_more place b bs unended none zero within = unended
none_more place b bs unended none (suc k) within = none k (omega arith)

-- only the empty prefix passes
only_empty :
    (place : ScanPlace) (b : ℕ) (bs : List ℕ) → HasNoPrefix (accepts (after place b)) bs
    → (k : ℕ) → 0 < k → k ≤ length (b ∷ bs) → accepts (Some place) (take k (b ∷ bs)) ≡ false
only_empty place b bs none zero more within = absurd (omega arith)
only_empty place b bs none (suc k) more within = none k (omega arith)

-- a prefix with one byte more before it
longer :
    (place : ScanPlace) (b : ℕ) (bs : List ℕ) (m : ℕ) → IsLongest (accepts (after place b)) m bs
    → (k : ℕ) → suc m < k → k ≤ length (b ∷ bs) → accepts (Some place) (take k (b ∷ bs)) ≡ false
longer place b bs m it zero more within = absurd (omega arith)
longer place b bs m it (suc k) more within = it.longer_fail k (omega arith) (omega arith)

-- at the end of the text
ended :
    (n : ℕ) (place : ScanPlace) (so_far : Option ℕ) (v : Bool) → is_whole place ≡ v
    → Found n (Some place) [] so_far (if v then Some n else so_far)
ended n place so_far true whole =
    inr (
      0,
      record {
        within = omega arith;
        passes = whole;
        longer_fail = λ k more within. absurd
            (omega arith);
      },
      ap Some (sym (add-zero n)),
    )
ended n place so_far false whole = inl (none_empty (accepts (Some place)) whole, refl)

-- one byte more
gone_on :
    (n : ℕ) (place : ScanPlace) (b : ℕ) (bs : List ℕ) (so_far answer : Option ℕ) (v : Bool) → is_whole place ≡ v
    → Found (n + 1) (after place b) bs (if v then Some n else so_far) answer
    → Found n (Some place) (b ∷ bs) so_far answer
gone_on n place b bs so_far answer true whole (inl (none, is)) =
    inr (
      0,
      record { within = omega arith; passes = whole; longer_fail = only_empty place b bs none },
      is
          ∙ ap Some (sym (add-zero n)),
    )
gone_on n place b bs so_far answer false whole (inl (none, is)) = inl (none_more place b bs whole none, is)
gone_on n place b bs so_far answer v whole (inr (m, it, is)) =
    let within = it.within in
    let place_is : n + 1 + m ≡ n + suc m = omega arith in
    inr (
      suc m,
      record { within = omega arith; passes = it.passes; longer_fail = longer place b bs m it },
      is
          ∙ ap Some place_is,
    )

found :
    (n : ℕ) (place : Option ScanPlace) (bs : List ℕ) (so_far : Option ℕ)
    → Found n place bs so_far (longest_from n place bs so_far)
unfolding longest_from
found n None bs so_far = inl ((λ k within. refl), refl)
found n (Some place) [] so_far = ended n place so_far (is_whole place) refl
found n (Some place) (b ∷ bs) so_far =
    gone_on n place b bs so_far _ (is_whole place) refl (found (n + 1) (after place b) bs (marked n place so_far))

-- two tests that answer alike
none_alike :
    (p q : List ℕ → Bool) (text : List ℕ) → ((bs : List ℕ) → p bs ≡ q bs) → HasNoPrefix p text → HasNoPrefix q text
none_alike p q text alike none k within = sym (alike (take k text)) ∙ none k within

longest_alike :
    (p q : List ℕ → Bool) (n : ℕ) (text : List ℕ) → ((bs : List ℕ) → p bs ≡ q bs) → IsLongest p n text
    → IsLongest q n text
longest_alike p q n text alike it = record {
  within = it.within;
  passes = sym (alike (take n text)) ∙ it.passes;
  longer_fail = λ k more within. sym (alike (take k text)) ∙ it.longer_fail k more within;
}

from_found :
    (p : List ℕ → Bool) (place : Option ScanPlace) (text : List ℕ) (answer : Option ℕ) → ((bs : List ℕ)
    → accepts place bs ≡ p bs)
    → Found 0 place text None answer → MatchOption answer (HasNoPrefix p text) (λ n. IsLongest p n text)
from_found p place text None alike (inl (none, is)) = none_alike (accepts place) p text alike none
from_found p place text None alike (inr (m, it, is)) = absurd cc
from_found p place text (Some n) alike (inl (none, is)) = absurd cc
from_found p place text (Some n) alike (inr (m, it, is)) =
    let same : n ≡ 0 + m = cc in
    let place_is : m ≡ n = omega arith in
    longest_alike (accepts place) p n text alike (subst (λ k. IsLongest (accepts place) k text) place_is it)

-- the first part of a text
pub part_found :
    (text : List ℕ) (answer : Option ℕ) → answer ≡ longest_from 0 (Some Start) text None
    → MatchOption answer (HasNoPrefix is_part text) (λ n. IsLongest is_part n text)
part_found text answer is =
    from_found is_part (Some Start) text answer in_part (subst (Found 0 (Some Start) text None) (sym is) (found 0
    (Some Start) text None))

-- the comment behind a line feed
pub comment_found :
    (text : List ℕ) (answer : Option ℕ) → answer ≡ longest_from 0 (Some LineFeed) text None
    → IsLongest is_feed_rest (unwrap_or answer 0) text
comment_found text None is =
    let none = from_found is_feed_rest (Some LineFeed) text None behind_feed (subst (Found 0
    (Some LineFeed) text None) (sym is) (found 0 (Some LineFeed) text None)) in
    let passes : true ≡ false = none 0 (omega arith) in
    absurd cc
comment_found text (Some n) is =
    from_found is_feed_rest (Some LineFeed) text (Some n) behind_feed (subst (Found 0 (Some LineFeed) text None)
    (sym is) (found 0 (Some LineFeed) text None))
