-- The lines of a file that are not skipped, one after the other.
use Rattle.std.proofs.Common.{◌≡◌, ◌∙◌, ◌<◌, ◌+◌, ℕ, true, false, if◌then◌else◌, List, [], ◌∷◌, ◌++◌, length, refl, ap}
use Rattle.std.proofs.Common.{sym, arith}
use Rattle.std.specs.Str.Lines.{lines}
use Rattle.ov_lines.specs.Lines.{is_skipped, kept_from, first_line}
use Rattle.ov_lines.proofs.Lines.Lined.{lines_first}

one_line :
    (n : ℕ) (bytes line later : List ℕ) → 0 < length bytes → (line, later) ≡ first_line bytes
    → kept_from n (lines bytes) ≡ (if is_skipped line then [] else (n, line) ∷ []) ++ kept_from (n + 1) (lines later)
unfolding kept_from
one_line n bytes line later some first = ap (kept_from n) (lines_first bytes line later some first)

-- a line that is skipped
pub skipped :
    (n m : ℕ) (bytes line later : List ℕ) → 0 < length bytes → (line, later) ≡ first_line bytes → m ≡ n + 1
    → is_skipped line ≡ true
    → kept_from n (lines bytes) ≡ kept_from m (lines later)
skipped n m bytes line later some first next test =
    one_line n bytes line later some first
    ∙ ap (λ t. (if t then [] else (n, line) ∷ []) ++ kept_from (n + 1) (lines later)) test
    ∙ ap (λ k. kept_from k (lines later)) (sym next)

-- a line that is not
pub kept :
    (n m : ℕ) (bytes line later : List ℕ) → 0 < length bytes → (line, later) ≡ first_line bytes → m ≡ n + 1
    → is_skipped line ≡ false
    → kept_from n (lines bytes) ≡ (n, line) ∷ kept_from m (lines later)
kept n m bytes line later some first next test =
    one_line n bytes line later some first
    ∙ ap (λ t. (if t then [] else (n, line) ∷ []) ++ kept_from (n + 1) (lines later)) test
    ∙ ap (λ k. (n, line) ∷ kept_from k (lines later)) (sym next)

-- no line is left
pub none_left : (n : ℕ) (bytes : List ℕ) → length bytes ≡ 0 → kept_from n (lines bytes) ≡ []
unfolding kept_from
none_left n [] none = refl
none_left n (b ∷ bytes) none = absurd (omega (arith, none))
