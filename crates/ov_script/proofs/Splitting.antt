-- Words with one space between two are the words of their line.
use Rattle.std.proofs.Common.{◌≡◌, ◌∙◌, ℕ, true, List, [], ◌∷◌, ◌++◌, ap}
use Rattle.std.specs.List.{list_all}
use Rattle.std.proofs.lemmas.Bool.{and_parts}
use Rattle.std.proofs.lemmas.List.{append-nil}
use Rattle.ov_lines.specs.Lines.{words_of}
use Rattle.ov_lines.proofs.Lines.Written.{is_word, words_alone, words_next}
use Rattle.ov_script.specs.WrittenLines.{spaced}

-- words with one space between two
pub words_spaced :
    (word : List ℕ) (words : List (List ℕ)) → is_word word ≡ true → list_all is_word words ≡ true
    → words_of (word ++ spaced words) ≡ word ∷ words
unfolding spaced
words_spaced word [] is are = ap words_of (append-nil word) ∙ words_alone word is
words_spaced word (next ∷ words) is are =
    let (here, later) = and_parts (is_word next) (list_all is_word words) are in
    words_next word (next ++ spaced words) is ∙ ap (λ ws. word ∷ ws) (words_spaced next words here later)
