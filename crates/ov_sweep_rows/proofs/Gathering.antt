-- The cells of a row are put together, group by group.
use Rattle.std.proofs.Common.{◌≡◌, ◌∙◌, ◌++◌, ◌∷◌, [], ℕ, Bool, true, false, List, Option, Some, None, map, refl}
use Rattle.std.proofs.Common.{suc, zero, ap, subst, append_assoc, arith}
use Rattle.std.specs.Prelude.{All, IfSome, IsSome, slice_get}
use Rattle.std.proofs.lemmas.List.{map-append}
use Rattle.std.proofs.lemmas.Option.{get_or_from_slice_get, slice_get_within}
use Rattle.ov_grow_options.specs.declared.options.GrowOptions.{GrowOptions}
use Rattle.ov_sweep_rows.specs.declared.cell.Cell.{Cell}
use Rattle.ov_sweep_rows.specs.declared.cell.Cell.TheVariants as cell
use Rattle.ov_sweep_rows.specs.declared.row.PhaseRow.{PhaseRow}
use Rattle.ov_sweep_rows.specs.declared.row.Row.{Row}
use Rattle.ov_sweep_rows.specs.declared.row_fault.FieldForm.{FieldForm}
use Rattle.ov_sweep_rows.specs.declared.row_fault.FieldForm.TheVariants as form
use Rattle.ov_sweep_rows.specs.declared.row_form.RowForm.{RowForm}
use Rattle.ov_sweep_rows.specs.Cells.{cell_text, further_cells}
use Rattle.ov_sweep_rows.specs.RowCells.{cells}
use Rattle.ov_sweep_rows.specs.PhaseCosts.{cost_cells}
use Rattle.ov_sweep_rows.specs.Cells.{phase_cells, read_as, setting_cells}
use Rattle.ov_sweep_rows.specs.PhaseShape.{shape_cells}
use Rattle.ov_sweep_rows.specs.Columns.{forms, if_asked}
use Rattle.ov_sweep_rows.specs.Code.Written.{AreReadBack, cost_forms, further_forms, option_forms, phase_forms}
use Rattle.ov_sweep_rows.specs.Code.Written.{setting_forms, shape_forms}
use Rattle.ov_sweep_rows.proofs.CellByCell.{read_both}
use Rattle.ov_sweep_rows.proofs.ReadBack.{read_all, read_more}
use Rattle.ov_sweep_rows.specs.Code.Groups.{thrice}
use Rattle.ov_sweep_rows.proofs.Rebuilding.{forms_are}

-- three lists are put behind another one
pub appended_thrice : (old a b c x y z : List Cell) → a ≡ old ++ x → b ≡ a ++ y → c ≡ b ++ z
    → c ≡ old ++ (x ++ (y ++ z))
appended_thrice old a b c x y z p q r =
    r ∙ ap (λ l. l ++ z) (q ∙ ap (λ l. l ++ y) p ∙ append_assoc old x y)
    ∙ append_assoc old (x ++ y) z
    ∙ ap (λ l. old ++ l) (append_assoc x y z)

-- the groups of a row, one behind the other
pub gathered : (f : RowForm) (row : Row) (a b c : PhaseRow) (g h : List Cell)
    → slice_get row.phases 0 ≡ Some a → slice_get row.phases 1 ≡ Some b → slice_get row.phases 2 ≡ Some c
    → g ≡ (setting_cells row.options ++ (cell.Number row.options.seed ∷ []))
    ++ (phase_cells a ++ (phase_cells b ++ phase_cells c))
    → h ≡ ((g ++ if_asked f.further (further_cells row.options))
    ++ if_asked f.costs (cost_cells a.costs ++ (cost_cells b.costs ++ cost_cells c.costs)))
    ++ if_asked f.shape (shape_cells a.shape ++ (shape_cells b.shape ++ shape_cells c.shape))
    → h ≡ cells f row
gathered f row a b c g h p q r first all =
    let further = if_asked f.further (further_cells row.options) in
    let costs = if_asked f.costs (cost_cells a.costs ++ (cost_cells b.costs ++ cost_cells c.costs)) in
    let shapes = if_asked f.shape (shape_cells a.shape ++ (shape_cells b.shape ++ shape_cells c.shape)) in
    let joined : h ≡ g ++ (further ++ (costs ++ shapes)) =
    all ∙ append_assoc (g ++ further) costs shapes ∙ append_assoc g further (costs ++ shapes) in
    rw (p, q, r) (joined ∙ ap (λ l. l ++ (further ++ (costs ++ shapes))) first)

-- groups are read back
pub back_both : (xs ys : List FieldForm) (cs ds : List Cell) → AreReadBack xs cs → AreReadBack ys ds
    → AreReadBack (xs ++ ys) (cs ++ ds)
back_both xs ys cs ds first second =
    rw (map-append cell_text cs ds) (read_both xs ys (map cell_text cs) (map cell_text ds) cs ds first second)

back_asked : (asked : Bool) (xs : List FieldForm) (cs : List Cell) → (asked ≡ true → AreReadBack xs cs)
    → AreReadBack (if_asked asked xs) (if_asked asked cs)
back_asked true xs cs back = back refl
back_asked false xs cs back = read_all

back_thrice : (xs : List FieldForm) (a b c : List Cell) → AreReadBack xs a → AreReadBack xs b → AreReadBack xs c
    → AreReadBack (thrice xs) (a ++ (b ++ c))
back_thrice xs a b c p q r = back_both xs (xs ++ xs) a (b ++ c) p (back_both xs xs b c q r)

-- all groups of a row are read back
pub all_back : (f : RowForm) (row : Row) (a b c : PhaseRow) → slice_get row.phases 0 ≡ Some a
    → slice_get row.phases 1 ≡ Some b → slice_get row.phases 2 ≡ Some c
    → AreReadBack option_forms (setting_cells row.options ++ (cell.Number row.options.seed ∷ []))
    → AreReadBack phase_forms (phase_cells a) → AreReadBack phase_forms (phase_cells b)
    → AreReadBack phase_forms (phase_cells c)
    → (f.further ≡ true → AreReadBack further_forms (further_cells row.options))
    → (f.costs ≡ true → AreReadBack cost_forms (cost_cells a.costs) × AreReadBack cost_forms (cost_cells b.costs)
    × AreReadBack cost_forms (cost_cells c.costs))
    → (f.shape ≡ true → AreReadBack shape_forms (shape_cells a.shape) × AreReadBack shape_forms (shape_cells b.shape)
    × AreReadBack shape_forms (shape_cells c.shape))
    → AreReadBack (forms f) (cells f row)
all_back f row a b c p q r options settle crash heal more costs shapes =
    let priced = cost_cells a.costs ++ (cost_cells b.costs ++ cost_cells c.costs) in
    let shaped = shape_cells a.shape ++ (shape_cells b.shape ++ shape_cells c.shape) in
    let last = back_both (if_asked f.costs (thrice cost_forms)) (if_asked f.shape (thrice shape_forms))
    (if_asked f.costs priced) (if_asked f.shape shaped)
    (back_asked f.costs (thrice cost_forms) priced
    (λ t. back_thrice cost_forms (cost_cells a.costs) (cost_cells b.costs) (cost_cells c.costs) (costs t).0 (costs t).1
    (costs t).2))
    (back_asked f.shape (thrice shape_forms) shaped
    (λ t. back_thrice shape_forms (shape_cells a.shape) (shape_cells b.shape) (shape_cells c.shape) (shapes t).0
    (shapes t).1 (shapes t).2)) in
    let further = back_both (if_asked f.further further_forms)
    (if_asked f.costs (thrice cost_forms) ++ if_asked f.shape (thrice shape_forms))
    (if_asked f.further (further_cells row.options)) (if_asked f.costs priced ++ if_asked f.shape shaped)
    (back_asked f.further further_forms (further_cells row.options) more) last in
    let phases = back_both (thrice phase_forms)
    (if_asked f.further further_forms
    ++ (if_asked f.costs (thrice cost_forms) ++ if_asked f.shape (thrice shape_forms)))
    (phase_cells a ++ (phase_cells b ++ phase_cells c))
    (if_asked f.further (further_cells row.options) ++ (if_asked f.costs priced ++ if_asked f.shape shaped))
    (back_thrice phase_forms (phase_cells a) (phase_cells b) (phase_cells c) settle crash heal) further in
    rw (forms_are f, p, q, r)
    (back_both option_forms
    (thrice phase_forms
    ++ (if_asked f.further further_forms
    ++ (if_asked f.costs (thrice cost_forms) ++ if_asked f.shape (thrice shape_forms))))
    (setting_cells row.options ++ (cell.Number row.options.seed ∷ []))
    ((phase_cells a ++ (phase_cells b ++ phase_cells c))
    ++ (if_asked f.further (further_cells row.options) ++ (if_asked f.costs priced ++ if_asked f.shape shaped)))
    options phases)

-- what is so of what is there
pub known : {A : Type 0} (o : Option A) (IsSo : Type 0) → IsSome o → IfSome o (λ a. IsSo) → IsSo
known None IsSo some is = cc some
known (Some a) IsSo some is = is

-- what is so anyway
pub anyway : {A : Type 0} (o : Option A) (IsSo : Type 0) → IsSo → IfSome o (λ a. IsSo)
anyway None IsSo is = tt
anyway (Some a) IsSo is = is

-- what is so of each phase
pub each_phase : (IsSo : PhaseRow → Type 0) (phases : List PhaseRow) (k : ℕ) (p : PhaseRow) → All IsSo phases
    → slice_get phases k ≡ Some p → IsSo p
each_phase IsSo phases k p all at =
    subst IsSo (get_or_from_slice_get phases k p p at) (all k p (slice_get_within phases k p at))

-- what is so of three phases
pub all_three : (IsSo : PhaseRow → Type 0) (a b c : PhaseRow) → IsSo a → IsSo b → IsSo c
    → All IsSo (a ∷ b ∷ c ∷ [])
all_three IsSo a b c p q r zero d less = p
all_three IsSo a b c p q r (suc zero) d less = q
all_three IsSo a b c p q r (suc (suc zero)) d less = r
all_three IsSo a b c p q r (suc (suc (suc k))) d less = absurd (omega (arith, less))

-- the cells of a setting with its seed
pub options_back : (o : GrowOptions) (seed : Cell) → seed ≡ cell.Number o.seed
    → read_as form.Seed (cell_text seed) ≡ Some seed → AreReadBack setting_forms (setting_cells o)
    → AreReadBack option_forms (setting_cells o ++ (cell.Number o.seed ∷ []))
options_back o seed is read back =
    back_both setting_forms (form.Seed ∷ []) (setting_cells o) (cell.Number o.seed ∷ []) back
    (read_more _ _ _ _ _ _ (subst (λ (c : Cell). read_as form.Seed (cell_text c) ≡ Some c) is read) read_all)
