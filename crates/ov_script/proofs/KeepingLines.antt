-- The text of a script that keeps one line more.
use Rattle.std.proofs.Common.{◌≡◌, ◌∙◌, ℕ, List, [], ◌∷◌, ◌++◌, ap, append_assoc, sym}
use Rattle.std.proofs.lemmas.List.{append-nil}
use Rattle.ov_ids.specs.ParamsState.{ParamsState}
use Rattle.ov_script.specs.Scripts.{opening}
use Rattle.ov_script.specs.WrittenLines.{ended}
use Rattle.ov_script.specs.Code.Kept.{line_kept, text_of, written}
use Rattle.ov_script.specs.declared.line_to_write.KeptLine.{KeptLine}

written_more : (lines : List KeptLine) (l : KeptLine) → written (lines ++ l ∷ []) ≡ written lines ++ ended (line_kept l)
unfolding written
written_more [] l = append-nil (ended (line_kept l))
written_more (first ∷ lines) l =
    ap (λ t. ended (line_kept first) ++ t) (written_more lines l)
    ∙ sym (append_assoc (ended (line_kept first)) (written lines) (ended (line_kept l)))

-- no line is kept yet
pub text_begun : (heading : List ℕ) (p : ParamsState) (seed : ℕ) → text_of heading p seed [] ≡ opening heading p seed
unfolding text_of written
text_begun heading p seed = append-nil (opening heading p seed)

pub text_more : (heading : List ℕ) (p : ParamsState) (seed : ℕ) (lines new : List KeptLine) (l : KeptLine)
    → new ≡ lines ++ l ∷ []
    → text_of heading p seed new ≡ text_of heading p seed lines ++ ended (line_kept l)
unfolding text_of
text_more heading p seed lines new l is =
    ap (λ ls. opening heading p seed ++ written ls) is
    ∙ ap (λ t. opening heading p seed ++ t) (written_more lines l)
    ∙ sym (append_assoc (opening heading p seed) (written lines) (ended (line_kept l)))
