-- Options that are shown one by one.
use Rattle.std.proofs.Common.{◌≡◌, ◌⊎◌, ◌∙◌, ℕ, List, [], ◌∷◌, ◌++◌, Bor, inl, inr, length, map, refl, sym, ap, ap₂}
use Rattle.std.proofs.Common.{append_assoc, append-nil}
use Rattle.std.specs.List.{flat_map}
use Rattle.std.proofs.lemmas.List.{flat_map_more}
use Rattle.ov_grow_options.specs.CommandLine.{name_and_default, shown_option, shown_options}
use Rattle.ov_grow_options.specs.declared.option_table.OptionRow.{OptionRow}
use Rattle.ov_grow_options.specs.declared.options_as_command.Shown.{Shown}

-- the text of an option with its value
abbrev pub text_of : Bor OptionRow × Bor Shown → List ℕ
text_of pair = shown_option (name_and_default pair.0.now) pair.1.now

-- one option with its value is shown, and others are left
pub shown_more : (done : List (Bor OptionRow × Bor Shown)) (row : Bor OptionRow) (value : Bor Shown)
    (rows left : List OptionRow) (values rest : List Shown) (all : List ℕ)
    → rows ≡ row.now ∷ left → values ≡ value.now ∷ rest
    → flat_map text_of done ++ shown_options (map name_and_default rows) values ≡ all
    → flat_map text_of (done ++ (row, value) ∷ []) ++ shown_options (map name_and_default left) rest ≡ all
unfolding shown_options
shown_more done row value rows left values rest all is_row is_value whole =
    ap (λ text. text ++ shown_options (map name_and_default left) rest)
    (sym (flat_map_more text_of [] done (row, value)))
    ∙ append_assoc (flat_map text_of done) (text_of (row, value)) (shown_options (map name_and_default left) rest)
    ∙ sym
    (ap₂ (λ rows values. flat_map text_of done ++ shown_options (map name_and_default rows) values) is_row is_value)
    ∙ whole

-- without an option, or without a value, nothing is shown
shown_none : (rows : List OptionRow) (values : List Shown) → (length rows ≡ 0) ⊎ (length values ≡ 0)
    → shown_options (map name_and_default rows) values ≡ []
unfolding shown_options
shown_none [] values none = refl
shown_none (row ∷ rows) [] none = refl
shown_none (row ∷ rows) (value ∷ values) (inl none) = cc
shown_none (row ∷ rows) (value ∷ values) (inr none) = cc

-- where none is left, all are shown
pub shown_all : (text : List ℕ) (rows : List OptionRow) (values : List Shown) (all : List ℕ)
    → (length rows ≡ 0) ⊎ (length values ≡ 0)
    → text ++ shown_options (map name_and_default rows) values ≡ all
    → text ≡ all
shown_all text rows values all none whole =
    sym (append-nil text) ∙ ap (λ more. text ++ more) (sym (shown_none rows values none)) ∙ whole
