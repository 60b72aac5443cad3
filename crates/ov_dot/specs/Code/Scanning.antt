-- How the code looks for the end of a part: byte by byte, from place to place in the part.
use Rattle.std.specs.Prelude.{ℕ, ◌+◌, ◌-◌, Bool, true, false, ◌==◌, ◌||◌, List, [], ◌∷◌, Option, Some, None}
use Rattle.std.specs.Prelude.{if◌then◌else◌}
use Rattle.std.specs.Bool.{then_some}
use Rattle.std.specs.Char.{is_ascii_digit}
use Rattle.ov_dot.specs.declared.lexeme_scanning.ScanPlace.{ScanPlace}
use Rattle.ov_dot.specs.declared.lexeme_scanning.ScanPlace.TheVariants.{Start, LineFeed, Slash, LineComment}
use Rattle.ov_dot.specs.declared.lexeme_scanning.ScanPlace.TheVariants.{BlockComment, BlockStar}
use Rattle.ov_dot.specs.declared.lexeme_scanning.ScanPlace.TheVariants.{Word, Minus, Point, Digits, Fraction, Text}
use Rattle.ov_dot.specs.declared.lexeme_scanning.ScanPlace.TheVariants.{Escaped, Angle, End}
use Rattle.ov_dot.specs.Parts.{is_blank, is_mark, is_letter, is_word_byte, is_in_line, line_feed}

-- the place behind the first byte of a numeral
abbrev pub decimal_place : ℕ → Option ScanPlace
decimal_place b = if is_ascii_digit b then Some Digits else then_some (b == 46) Point

-- the place behind the first byte of a part
abbrev pub first_place : ℕ → Option ScanPlace
first_place b =
    if is_blank b then Some End
    else (if is_mark b then Some End
    else (if b == line_feed then Some LineFeed
    else (if b == 47 then Some Slash
    else (if b == 34 then Some Text
    else (if b == 60 then Some (Angle 0)
    else (if b == 45 then Some Minus
    else (if is_letter b then Some Word
    else decimal_place b)))))))

-- the place behind one byte more, if the part may go on by it
abbrev pub after : ScanPlace → ℕ → Option ScanPlace
after Start b = first_place b
after LineFeed b = then_some (b == 35) LineComment
after Slash b = if b == 47 then Some LineComment else then_some (b == 42) BlockComment
after LineComment b = then_some (is_in_line b) LineComment
after BlockComment b = Some (if b == 42 then BlockStar else BlockComment)
after BlockStar b = Some (if b == 47 then End else (if b == 42 then BlockStar else BlockComment))
after Word b = then_some (is_word_byte b) Word
after Minus b = if b == 45 || b == 62 then Some End else decimal_place b
after Point b = then_some (is_ascii_digit b) Fraction
after Digits b = if is_ascii_digit b then Some Digits else then_some (b == 46) Fraction
after Fraction b = then_some (is_ascii_digit b) Fraction
after Text b = Some (if b == 34 then End else (if b == 92 then Escaped else Text))
after Escaped b = Some Text
after (Angle depth) b =
    Some (if b == 60 then Angle (depth + 1)
    else (if b == 62 then (if depth == 0 then End else Angle (depth - 1))
    else Angle depth))
after End b = None

-- a part may end at this place
abbrev pub is_whole : ScanPlace → Bool
is_whole LineFeed = true
is_whole LineComment = true
is_whole Word = true
is_whole Digits = true
is_whole Fraction = true
is_whole End = true
is_whole Start = false
is_whole Slash = false
is_whole BlockComment = false
is_whole BlockStar = false
is_whole Minus = false
is_whole Point = false
is_whole Text = false
is_whole Escaped = false
is_whole (Angle depth) = false

-- a part may go on by these bytes from the place, and end behind them
abbrev pub accepts : Option ScanPlace → List ℕ → Bool
accepts None bs = false
accepts (Some place) [] = is_whole place
accepts (Some place) (b ∷ bs) = accepts (after place b) bs

-- how many HTML brackets are open at a place
abbrev pub open_at : ScanPlace → ℕ
open_at (Angle depth) = depth
open_at place = 0

-- the end of the longest part so far, at a place behind this many bytes
abbrev pub marked : ℕ → ScanPlace → Option ℕ → Option ℕ
marked n place longest = if is_whole place then Some n else longest

-- the end of the longest part, from a place behind this many bytes, with the longest one so far
unfoldable pub longest_from : ℕ → Option ScanPlace → List ℕ → Option ℕ → Option ℕ
longest_from n None bs longest = longest
longest_from n (Some place) [] longest = marked n place longest
longest_from n (Some place) (b ∷ bs) longest = longest_from (n + 1) (after place b) bs (marked n place longest)
