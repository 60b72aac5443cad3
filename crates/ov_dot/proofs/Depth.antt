-- By one byte at most one more HTML bracket is open.
use Rattle.std.proofs.Common.{◌≡◌, ◌+◌, ◌-◌, ◌≤◌, ◌==◌, ◌||◌, ℕ, Bool, true, false, Option, Some, None, List, ◌∷◌, drop}
use Rattle.std.proofs.Common.{get_or, length, ◌<◌}
use Rattle.std.proofs.Common.{ap, ◌∙◌, arith, subst, add-one, drop-cons}
use Rattle.std.specs.Prelude.{if◌then◌else◌}
use Rattle.std.specs.Bool.{then_some}
use Rattle.std.specs.Char.{is_ascii_digit}
use Rattle.ov_dot.specs.declared.lexeme_scanning.ScanPlace.{ScanPlace}
use Rattle.ov_dot.specs.declared.lexeme_scanning.ScanPlace.TheVariants.{Start, LineFeed, Slash, LineComment}
use Rattle.ov_dot.specs.declared.lexeme_scanning.ScanPlace.TheVariants.{BlockComment}
use Rattle.ov_dot.specs.declared.lexeme_scanning.ScanPlace.TheVariants.{BlockStar, Word, Minus, Point, Digits}
use Rattle.ov_dot.specs.declared.lexeme_scanning.ScanPlace.TheVariants.{Fraction}
use Rattle.ov_dot.specs.declared.lexeme_scanning.ScanPlace.TheVariants.{Text, Escaped, Angle, End}
use Rattle.ov_dot.specs.Parts.{is_blank, is_mark, is_letter, is_word_byte, is_in_line, line_feed}
use Rattle.ov_dot.specs.Code.Scanning.{after, decimal_place, first_place, open_at, marked, longest_from}

-- how many are open at a place, if there is one
abbrev open_of : Option ScanPlace → ℕ
open_of None = 0
open_of (Some place) = open_at place

either_place :
    (n : ℕ) (v : Bool) (x y : Option ScanPlace) → open_of x ≤ n → open_of y ≤ n → open_of (if v then x else y) ≤ n
either_place n true x y first other = first
either_place n false x y first other = other

one_place : (n : ℕ) (v : Bool) (x y : ScanPlace) → open_at x ≤ n → open_at y ≤ n → open_at (if v then x else y) ≤ n
one_place n true x y first other = first
one_place n false x y first other = other

some_place : (n : ℕ) (v : Bool) (x : ScanPlace) → open_at x ≤ n → open_of (then_some v x) ≤ n
some_place n true x first = first
some_place n false x first = omega arith

in_decimal : (n b : ℕ) → open_of (decimal_place b) ≤ n
in_decimal n b =
    either_place n (is_ascii_digit b) (Some Digits) _ (omega arith) (some_place n (b == 46) Point (omega arith))

at_first : (n b : ℕ) → open_of (first_place b) ≤ n
at_first n b =
    either_place n (is_blank b) (Some End) _ (omega arith)
    (either_place n (is_mark b) (Some End) _ (omega arith)
    (either_place n (b == line_feed) (Some LineFeed) _ (omega arith)
    (either_place n (b == 47) (Some Slash) _ (omega arith)
    (either_place n (b == 34) (Some Text) _ (omega arith)
    (either_place n (b == 60) (Some (Angle 0)) _ (omega arith)
    (either_place n (b == 45) (Some Minus) _ (omega arith)
    (either_place n (is_letter b) (Some Word) _ (omega arith) (in_decimal n b))))))))

-- one byte more
one_more : (place : ScanPlace) (b : ℕ) → open_of (after place b) ≤ open_at place + 1
one_more Start b = at_first 1 b
one_more LineFeed b = some_place 1 (b == 35) LineComment (omega arith)
one_more Slash b =
    either_place 1 (b == 47) (Some LineComment) _ (omega arith) (some_place 1 (b == 42) BlockComment (omega arith))
one_more LineComment b = some_place 1 (is_in_line b) LineComment (omega arith)
one_more BlockComment b = one_place 1 (b == 42) BlockStar BlockComment (omega arith) (omega arith)
one_more BlockStar b =
    one_place 1 (b == 47) End _ (omega arith) (one_place 1 (b == 42) BlockStar BlockComment (omega arith) (omega arith))
one_more Word b = some_place 1 (is_word_byte b) Word (omega arith)
one_more Minus b = either_place 1 (b == 45 || b == 62) (Some End) _ (omega arith) (in_decimal 1 b)
one_more Point b = some_place 1 (is_ascii_digit b) Fraction (omega arith)
one_more Digits b =
    either_place 1 (is_ascii_digit b) (Some Digits) _ (omega arith) (some_place 1 (b == 46) Fraction (omega arith))
one_more Fraction b = some_place 1 (is_ascii_digit b) Fraction (omega arith)
one_more Text b =
    one_place 1 (b == 34) End _ (omega arith) (one_place 1 (b == 92) Escaped Text (omega arith) (omega arith))
one_more Escaped b = omega arith
one_more (Angle depth) b =
    one_place (depth + 1) (b == 60) (Angle (depth + 1)) _ (omega arith)
    (one_place (depth + 1) (b == 62) _ (Angle depth)
    (one_place (depth + 1) (depth == 0) End (Angle (depth - 1)) (omega arith) (omega arith)) (omega arith))
one_more End b = omega arith

pub deeper : (place : ScanPlace) (b : ℕ) (behind : ScanPlace) → after place b ≡ Some behind → open_at behind ≤ open_at place + 1
deeper place b behind is = subst (λ o. open_of o ≤ open_at place + 1) is (one_more place b)

first_byte : (text : List ℕ) (i : ℕ) → i < length text → drop i text ≡ get_or text i 0 ∷ drop (i + 1) text
first_byte text i within = rw (add-one, drop-cons text i 0 within)

-- a scan goes on by the next byte
pub scanned :
    (text : List ℕ) (i : ℕ) (place : ScanPlace) (longest : Option ℕ) (behind : ScanPlace) → i < length text
    → after place (get_or text i 0) ≡ Some behind
    → longest_from i (Some place) (drop i text) longest ≡ longest_from (i + 1) (Some behind) (drop (i + 1) text)
    (marked i place longest)
unfolding longest_from
scanned text i place longest behind within is =
    ap (λ t. longest_from i (Some place) t longest) (first_byte text i within)
    ∙ ap (λ o. longest_from (i + 1) o (drop (i + 1) text) (marked i place longest)) is
