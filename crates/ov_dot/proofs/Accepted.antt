-- The bytes by which a part goes on from a place, and may end, are those that the grammar names.
use Rattle.std.proofs.Common.{◌≡◌, ◌+◌, ◌-◌, ◌==◌, ◌&&◌, ◌||◌, ℕ, Bool, true, false, List, [], ◌∷◌, Option, Some}
use Rattle.std.proofs.Common.{refl}
use Rattle.std.specs.Prelude.{if◌then◌else◌}
use Rattle.std.specs.List.{list_all}
use Rattle.std.specs.Bool.{then_some}
use Rattle.std.specs.Char.{is_ascii_digit}
use Rattle.ov_dot.specs.declared.lexeme_scanning.ScanPlace.{ScanPlace}
use Rattle.ov_dot.specs.declared.lexeme_scanning.ScanPlace.TheVariants.{Start, LineFeed, Slash, LineComment}
use Rattle.ov_dot.specs.declared.lexeme_scanning.ScanPlace.TheVariants.{BlockComment}
use Rattle.ov_dot.specs.declared.lexeme_scanning.ScanPlace.TheVariants.{BlockStar, Word, Minus, Point, Digits}
use Rattle.ov_dot.specs.declared.lexeme_scanning.ScanPlace.TheVariants.{Fraction}
use Rattle.ov_dot.specs.declared.lexeme_scanning.ScanPlace.TheVariants.{Text, Escaped, Angle, End}
use Rattle.ov_dot.specs.Parts.{is_blank, is_mark, is_letter, is_word_byte, is_in_line, line_feed, is_empty}
use Rattle.ov_dot.specs.Parts.{ends_comment, is_comment_rest, is_feed_rest, ends_quoted, ends_html, is_digits}
use Rattle.ov_dot.specs.Parts.{is_decimal_rest, is_decimal, is_dash_rest, is_part}
use Rattle.ov_dot.specs.Code.Scanning.{accepts, decimal_place}

-- in both cases of a test
by_test :
    (bs : List ℕ) (v : Bool) (x y : Option ScanPlace) (p q : Bool) → accepts x bs ≡ p → accepts y bs ≡ q
    → accepts (if v then x else y) bs ≡ (if v then p else q)
by_test bs true x y p q first other = first
by_test bs false x y p q first other = other

-- the same of a place
by_place :
    (bs : List ℕ) (v : Bool) (x y : ScanPlace) (p q : Bool) → accepts (Some x) bs ≡ p → accepts (Some y) bs ≡ q
    → accepts (Some (if v then x else y)) bs ≡ (if v then p else q)
by_place bs true x y p q first other = first
by_place bs false x y p q first other = other

-- if the test passes
by_some :
    (bs : List ℕ) (v : Bool) (x : ScanPlace) (p : Bool) → accepts (Some x) bs ≡ p → accepts (then_some v x) bs ≡ (v && p)
by_some bs true x p first = first
by_some bs false x p first = refl

at_end : (bs : List ℕ) → accepts (Some End) bs ≡ is_empty bs
at_end [] = refl
at_end (b ∷ bs) = refl

in_word : (bs : List ℕ) → accepts (Some Word) bs ≡ list_all is_word_byte bs
in_word [] = refl
in_word (b ∷ bs) = by_some bs (is_word_byte b) Word _ (in_word bs)

in_line : (bs : List ℕ) → accepts (Some LineComment) bs ≡ list_all is_in_line bs
in_line [] = refl
in_line (b ∷ bs) = by_some bs (is_in_line b) LineComment _ (in_line bs)

in_fraction : (bs : List ℕ) → accepts (Some Fraction) bs ≡ list_all is_ascii_digit bs
in_fraction [] = refl
in_fraction (b ∷ bs) = by_some bs (is_ascii_digit b) Fraction _ (in_fraction bs)

behind_point : (bs : List ℕ) → accepts (Some Point) bs ≡ is_digits bs
behind_point [] = refl
behind_point (b ∷ bs) = by_some bs (is_ascii_digit b) Fraction _ (in_fraction bs)

in_digits : (bs : List ℕ) → accepts (Some Digits) bs ≡ is_decimal_rest bs
in_digits [] = refl
in_digits (b ∷ bs) =
    by_test bs (is_ascii_digit b) (Some Digits) (then_some (b == 46) Fraction) _ _ (in_digits bs)
    (by_some bs (b == 46) Fraction _ (in_fraction bs))

in_decimal : (b : ℕ) (bs : List ℕ) → accepts (decimal_place b) bs ≡ is_decimal (b ∷ bs)
in_decimal b bs =
    by_test bs (is_ascii_digit b) (Some Digits) (then_some (b == 46) Point) _ _ (in_digits bs)
    (by_some bs (b == 46) Point _ (behind_point bs))

in_comment :
    (star : Bool) (bs : List ℕ) → accepts (Some (if star then BlockStar else BlockComment)) bs ≡ ends_comment star bs
in_comment true [] = refl
in_comment false [] = refl
in_comment true (b ∷ bs) =
    by_place bs (b == 47) End (if b == 42 then BlockStar else BlockComment) _ _ (at_end bs) (in_comment (b == 42) bs)
in_comment false (b ∷ bs) = in_comment (b == 42) bs

in_text :
    (escaped : Bool) (bs : List ℕ) → accepts (Some (if escaped then Escaped else Text)) bs ≡ ends_quoted escaped bs
in_text true [] = refl
in_text false [] = refl
in_text true (b ∷ bs) = in_text false bs
in_text false (b ∷ bs) =
    by_place bs (b == 34) End (if b == 92 then Escaped else Text) _ _ (at_end bs) (in_text (b == 92) bs)

in_html : (depth : ℕ) (bs : List ℕ) → accepts (Some (Angle depth)) bs ≡ ends_html depth bs
in_html depth [] = refl
in_html depth (b ∷ bs) =
    by_place bs (b == 60) (Angle (depth + 1))
    (if b == 62 then (if depth == 0 then End else Angle (depth - 1)) else Angle depth) _ _ (in_html (depth + 1) bs)
    (by_place bs (b == 62) (if depth == 0 then End else Angle (depth - 1)) (Angle depth) _ _
    (by_place bs (depth == 0) End (Angle (depth - 1)) _ _ (at_end bs) (in_html (depth - 1) bs))
    (in_html depth bs))

behind_slash : (bs : List ℕ) → accepts (Some Slash) bs ≡ is_comment_rest bs
behind_slash [] = refl
behind_slash (b ∷ bs) =
    by_test bs (b == 47) (Some LineComment) (then_some (b == 42) BlockComment) _ _ (in_line bs)
    (by_some bs (b == 42) BlockComment _ (in_comment false bs))

pub behind_feed : (bs : List ℕ) → accepts (Some LineFeed) bs ≡ is_feed_rest bs
behind_feed [] = refl
behind_feed (b ∷ bs) = by_some bs (b == 35) LineComment _ (in_line bs)

behind_minus : (bs : List ℕ) → accepts (Some Minus) bs ≡ is_dash_rest bs
behind_minus [] = refl
behind_minus (b ∷ bs) =
    by_test bs (b == 45 || b == 62) (Some End) (decimal_place b) _ _ (at_end bs) (in_decimal b bs)

-- the whole grammar
pub in_part : (bs : List ℕ) → accepts (Some Start) bs ≡ is_part bs
in_part [] = refl
in_part (b ∷ bs) =
    by_test bs (is_blank b) (Some End) _ _ _ (at_end bs)
    (by_test bs (is_mark b) (Some End) _ _ _ (at_end bs)
    (by_test bs (b == line_feed) (Some LineFeed) _ _ _ (behind_feed bs)
    (by_test bs (b == 47) (Some Slash) _ _ _ (behind_slash bs)
    (by_test bs (b == 34) (Some Text) _ _ _ (in_text false bs)
    (by_test bs (b == 60) (Some (Angle 0)) _ _ _ (in_html 0 bs)
    (by_test bs (b == 45) (Some Minus) _ _ _ (behind_minus bs)
    (by_test bs (is_letter b) (Some Word) _ _ _ (in_word bs) (in_decimal b bs))))))))
