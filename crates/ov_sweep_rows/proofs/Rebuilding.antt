-- A row is made of its cells, group by group.
use Rattle.std.proofs.Common.{◌≡◌, ◌∙◌, ◌<◌, ◌+◌, ℕ, zero, suc, Bool, true, false, List, [], ◌∷◌, ◌++◌}
use Rattle.std.proofs.Common.{length, take, drop, Option, Some, None, refl, sym, ap, ap₂, subst, arith, append_assoc}
use Rattle.std.proofs.lemmas.List.{get_or-take, length-append}
use Rattle.ov_ids.specs.ParamsState.{ParamsState}
use Rattle.ov_grow_options.specs.declared.options.GrowOptions.{GrowOptions}
use Rattle.ov_sweep_rows.specs.declared.cell.Cell.{Cell}
use Rattle.ov_sweep_rows.specs.declared.cell.Cell.TheVariants as cell
use Rattle.ov_sweep_rows.specs.declared.phase_costs.PhaseCosts.{PhaseCosts}
use Rattle.ov_sweep_rows.specs.declared.phase_shape.PhaseShape.{PhaseShape}
use Rattle.ov_sweep_rows.specs.declared.row.PhaseRow.{PhaseRow}
use Rattle.ov_sweep_rows.specs.declared.row.Row.{Row}
use Rattle.ov_sweep_rows.specs.declared.row_fault.FieldForm.{FieldForm}
use Rattle.ov_sweep_rows.specs.declared.row_form.RowForm.{RowForm}
use Rattle.ov_sweep_rows.specs.Cells.{cell_at, further_cells, parameter_cells, phase_cells, setting_cells}
use Rattle.ov_sweep_rows.specs.Columns.{forms, if_asked}
use Rattle.ov_sweep_rows.specs.PhaseCosts.{cost_cells}
use Rattle.ov_sweep_rows.specs.PhaseShape.{shape_cells}
use Rattle.ov_sweep_rows.specs.RowCells.{cells}
use Rattle.ov_sweep_rows.specs.Code.Groups.{Fits, IsCut, IsCutThrice, thrice}
use Rattle.ov_sweep_rows.specs.Code.Taking.{EqualFrom, IsRefill, TakeFrom}
use Rattle.ov_sweep_rows.specs.Code.Written.{cost_forms, further_forms, option_forms, parameter_forms}
use Rattle.ov_sweep_rows.specs.Code.Written.{phase_forms, shape_forms}
use Rattle.ov_sweep_rows.proofs.Forms.{form_of}

-- ---- groups of forms

-- what the columns of a form take, group by group
pub forms_are : (f : RowForm)
    → forms f ≡ option_forms ++ (thrice phase_forms
    ++ (if_asked f.further further_forms
    ++ (if_asked f.costs (thrice cost_forms) ++ if_asked f.shape (thrice shape_forms))))
forms_are f = by f.further f.costs f.shape where
  by : (a b c : Bool) → forms (form_of a b c) ≡ option_forms ++ (thrice phase_forms
      ++ (if_asked a further_forms ++ (if_asked b (thrice cost_forms) ++ if_asked c (thrice shape_forms))))
  by false false false = refl
  by false false true = refl
  by false true false = refl
  by false true true = refl
  by true false false = refl
  by true false true = refl
  by true true false = refl
  by true true true = refl

-- ---- cells are cut

-- behind the first cells
from_behind : (c : Cell) (cs : List Cell) (k : ℕ) (xs : List FieldForm) → TakeFrom (c ∷ cs) (suc k) xs → TakeFrom cs k xs
from_behind c cs k [] all = tt
from_behind c cs k (x ∷ xs) all = (all.0, from_behind c cs (suc k) xs all.1)

to_behind : (c : Cell) (cs : List Cell) (k : ℕ) (xs : List FieldForm) → TakeFrom cs k xs → TakeFrom (c ∷ cs) (suc k) xs
to_behind c cs k [] all = tt
to_behind c cs k (x ∷ xs) all = (all.0, to_behind c cs (suc k) xs all.1)

-- what fits two groups is cut behind the first one
split : (cs : List Cell) (xs ys : List FieldForm) → Fits cs (xs ++ ys)
    → (cs ≡ take (length xs) cs ++ drop (length xs) cs) × Fits (take (length xs) cs) xs × Fits (drop (length xs) cs) ys
split cs [] ys fits = (refl, record { long = refl; taken = tt }, fits)
split [] (x ∷ xs) ys fits = let l = fits.long in absurd (omega (arith, l))
split (c ∷ cs) (x ∷ xs) ys fits =
    let l = fits.long in
    let (same, first, more) = split cs xs ys
    (record { long = omega (arith, l); taken = from_behind c cs 0 (xs ++ ys) fits.taken.1 }) in (
      ap (λ (ds : List Cell). c ∷ ds) same,
      record {
        long = ap suc first.long;
        taken = (fits.taken.0, to_behind c (take (length xs) cs) 0 xs first.taken);
      },
      more,
    )

-- the cut is made where the code makes it
pub cut_here : (n : ℕ) (cs group rest : List Cell) (xs ys : List FieldForm) → length xs ≡ n → group ≡ take n cs
    → rest ≡ drop n cs → Fits cs (xs ++ ys) → IsCut true xs ys cs group rest
cut_here n cs group rest xs ys long first behind fits =
    let (same, one, more) = split cs xs ys fits in
    let is : group ≡ take (length xs) cs = first ∙ ap (λ (m : ℕ). take m cs) (sym long) in
    let are : rest ≡ drop (length xs) cs = behind ∙ ap (λ (m : ℕ). drop m cs) (sym long) in
    record {
      whole = same ∙ ap₂ (λ (a : List Cell) (b : List Cell). a ++ b) (sym is) (sym are);
      fits = λ e. subst (λ (l : List Cell). Fits l xs) (sym is) one;
      none = λ never. cc never;
      behind = subst (λ (l : List Cell). Fits l ys) (sym are) more;
    }

-- nothing is cut off
pub cut_nowhere : (cs : List Cell) (xs ys : List FieldForm) → Fits cs ys → IsCut false xs ys cs [] cs
cut_nowhere cs xs ys fits = record {
  whole = refl;
  fits = λ never. cc never;
  none = λ e. refl;
  behind = fits;
}

-- a group that is asked for, and one that is not
pub cut_on : (asked : Bool) (n : ℕ) (cs group rest : List Cell) (xs ys : List FieldForm) → asked ≡ true
    → length xs ≡ n → group ≡ take n cs → rest ≡ drop n cs → Fits cs (if_asked asked xs ++ ys)
    → IsCut asked xs ys cs group rest
cut_on true n cs group rest xs ys e long first behind fits = cut_here n cs group rest xs ys long first behind fits
cut_on false n cs group rest xs ys e long first behind fits = cc e

pub cut_off : (asked : Bool) (cs : List Cell) (xs ys : List FieldForm) → asked ≡ false
    → Fits cs (if_asked asked xs ++ ys) → IsCut asked xs ys cs [] cs
cut_off true cs xs ys e fits = cc e
cut_off false cs xs ys e fits = cut_nowhere cs xs ys fits

-- a group is no longer than what it is cut of
pub too_long : (asked : Bool) (n : ℕ) (cs : List Cell) (xs ys : List FieldForm) → asked ≡ true → length xs ≡ n
    → length cs < n → Fits cs (if_asked asked xs ++ ys) → ⊥
too_long true n cs xs ys e long less fits =
    let l = fits.long in
    let both = length-append xs ys in
    absurd (omega (arith, long, less, l, both))
too_long false n cs xs ys e long less fits = cc e

-- three cuts
pub cut_thrice : (asked : Bool) (n : ℕ) (cs a b c u v w : List Cell)
    → ((xs ys : List FieldForm) → length xs ≡ n → Fits cs (if_asked asked xs ++ ys) → IsCut asked xs ys cs a u)
    → ((xs ys : List FieldForm) → length xs ≡ n → Fits u (if_asked asked xs ++ ys) → IsCut asked xs ys u b v)
    → ((xs ys : List FieldForm) → length xs ≡ n → Fits v (if_asked asked xs ++ ys) → IsCut asked xs ys v c w)
    → (xs ys : List FieldForm) → length xs ≡ n → Fits cs (if_asked asked (thrice xs) ++ ys)
    → IsCutThrice asked xs ys cs a b c w
cut_thrice true n cs a b c u v w first second third xs ys long fits =
    let whole = subst (λ (zs : List FieldForm). Fits cs zs)
    (append_assoc xs (xs ++ xs) ys ∙ ap (λ (zs : List FieldForm). xs ++ zs) (append_assoc xs xs ys)) fits in
    let p = first xs (xs ++ (xs ++ ys)) long whole in
    let q = second xs (xs ++ ys) long p.behind in
    let r = third xs ys long q.behind in
    record {
      whole = p.whole
          ∙ ap (λ (l : List Cell). a ++ l) (q.whole ∙ ap (λ (l : List Cell). b ++ l) r.whole)
          ∙ sym (append_assoc a (b ++ c) w ∙ ap (λ (l : List Cell). a ++ l) (append_assoc b c w));
      fits = λ e. (p.fits e, q.fits e, r.fits e);
      none = λ never. cc never;
      behind = r.behind;
    }
cut_thrice false n cs a b c u v w first second third xs ys long fits =
    let p = first xs ys long fits in
    let q = second xs ys long p.behind in
    let r = third xs ys long q.behind in
    record {
      whole = p.whole
          ∙ ap (λ (l : List Cell). a ++ l) (q.whole ∙ ap (λ (l : List Cell). b ++ l) r.whole)
          ∙ sym (append_assoc a (b ++ c) w ∙ ap (λ (l : List Cell). a ++ l) (append_assoc b c w));
      fits = λ never. cc never;
      none = λ e. ap₂ (λ (x : List Cell) (y : List Cell). x ++ y) (p.none e)
          (ap₂ (λ (x : List Cell) (y : List Cell). x ++ y) (q.none e) (r.none e));
      behind = r.behind;
    }

-- ---- cells of groups

-- the same cells, place by place
behind_first : (c : Cell) (cs : List Cell) (k : ℕ) (xs : List Cell) → EqualFrom (c ∷ cs) (suc k) xs → EqualFrom cs k xs
behind_first c cs k [] all = tt
behind_first c cs k (x ∷ xs) all = (all.0, behind_first c cs (suc k) xs all.1)

equal_all : (cs xs : List Cell) → EqualFrom cs 0 xs → length xs ≡ length cs → xs ≡ cs
equal_all [] [] all long = refl
equal_all (c ∷ cs) [] all long = absurd (omega (arith, long))
equal_all [] (x ∷ xs) all long = absurd (omega (arith, long))
equal_all (c ∷ cs) (x ∷ xs) all long =
    ap₂ (λ (a : Cell) (b : List Cell). a ∷ b) all.0
    (equal_all cs xs (behind_first c cs 0 xs all.1) (omega (arith, long)))

-- the cells that a group was made of
pub made : (cs xs : List Cell) (takes : List FieldForm) → length xs ≡ length takes → Fits cs takes
    → (TakeFrom cs 0 takes → EqualFrom cs 0 xs) → xs ≡ cs
made cs xs takes long fits reads = equal_all cs xs (reads fits.taken) (long ∙ sym fits.long)

pub costs_long : (costs : Option PhaseCosts) → length (cost_cells costs) ≡ length cost_forms
costs_long None = refl
costs_long (Some c) = refl

pub shape_long : (shape : Option PhaseShape) → length (shape_cells shape) ≡ length shape_forms
shape_long None = refl
shape_long (Some s) = refl

-- those of a group that may be missing
pub made_asked : (asked : Bool) (cs xs : List Cell) → (asked ≡ true → xs ≡ cs) → (asked ≡ false → cs ≡ [])
    → if_asked asked xs ≡ cs
made_asked true cs xs same none = same refl
made_asked false cs xs same none = sym (none refl)

pub made_thrice : (a b c x y z : List Cell) → x ≡ a → y ≡ b → z ≡ c → x ++ (y ++ z) ≡ a ++ (b ++ c)
made_thrice a b c x y z p q r =
    ap₂ (λ (s : List Cell) (t : List Cell). s ++ t) p (ap₂ (λ (s : List Cell) (t : List Cell). s ++ t) q r)

-- a row of these phases
abbrev pub row_of : GrowOptions → PhaseRow → PhaseRow → PhaseRow → Row
row_of o a b c = record { options = o; phases = a ∷ b ∷ c ∷ [] }

nothing_left : (cs : List Cell) → Fits cs [] → cs ≡ []
nothing_left [] fits = refl
nothing_left (c ∷ cs) fits = let l = fits.long in absurd (omega (arith, l))

append_none : (xs : List FieldForm) → xs ++ [] ≡ xs
append_none [] = refl
append_none (x ∷ xs) = ap (λ (l : List FieldForm). x ∷ l) (append_none xs)

append_no_cell : (xs : List Cell) → xs ++ [] ≡ xs
append_no_cell [] = refl
append_no_cell (x ∷ xs) = ap (λ (l : List Cell). x ∷ l) (append_no_cell xs)

-- what fits the forms of a row fits its groups
pub grouped : (f : RowForm) (cs : List Cell) → Fits cs (forms f)
    → Fits cs (option_forms ++ (thrice phase_forms
    ++ (if_asked f.further further_forms
    ++ (if_asked f.costs (thrice cost_forms) ++ (if_asked f.shape (thrice shape_forms) ++ [])))))
grouped f cs fits =
    subst (λ (xs : List FieldForm). Fits cs xs)
    (forms_are f
    ∙ ap (λ (l : List FieldForm). option_forms ++ (thrice phase_forms
    ++ (if_asked f.further further_forms ++ (if_asked f.costs (thrice cost_forms) ++ l))))
    (sym (append_none (if_asked f.shape (thrice shape_forms))))) fits

-- the groups of cells that are a row's
pub record AreGroups (f : RowForm) (o : GrowOptions) (a b c : PhaseRow) (options own further costs shapes : List Cell) :
    Type 0 where
  pub options_are : setting_cells o ++ (cell.Number o.seed ∷ []) ≡ options
  pub own_are : phase_cells a ++ (phase_cells b ++ phase_cells c) ≡ own
  pub further_are : if_asked f.further (further_cells o) ≡ further
  pub costs_are : if_asked f.costs (cost_cells a.costs ++ (cost_cells b.costs ++ cost_cells c.costs)) ≡ costs
  pub shapes_are : if_asked f.shape (shape_cells a.shape ++ (shape_cells b.shape ++ shape_cells c.shape)) ≡ shapes

-- a row is made of its cells again
pub rebuilt : (f : RowForm) (o : GrowOptions) (a b c : PhaseRow)
    (cs options own further costs shapes u v w x end : List Cell) → AreGroups f o a b c options own further costs shapes
    → cs ≡ options ++ u → u ≡ own ++ v → v ≡ further ++ w → w ≡ costs ++ x → x ≡ shapes ++ end → Fits end []
    → cells f (row_of o a b c) ≡ cs
rebuilt f o a b c cs options own further costs shapes u v w x end are p q r s t last =
    let tail : x ≡ shapes = t ∙ ap (λ (l : List Cell). shapes ++ l) (nothing_left end last) ∙ append_no_cell shapes in
    let join : (k l m n : List Cell) → k ≡ l → m ≡ n → k ++ m ≡ l ++ n =
    λ k l m n first second. ap₂ (λ (y : List Cell) (z : List Cell). y ++ z) first second in
    let all = join (setting_cells o ++ (cell.Number o.seed ∷ [])) options _ u are.options_are
    (join (phase_cells a ++ (phase_cells b ++ phase_cells c)) own _ v are.own_are
    (join (if_asked f.further (further_cells o)) further _ w are.further_are
    (join (if_asked f.costs (cost_cells a.costs ++ (cost_cells b.costs ++ cost_cells c.costs))) costs
    (if_asked f.shape (shape_cells a.shape ++ (shape_cells b.shape ++ shape_cells c.shape))) x are.costs_are
    (are.shapes_are ∙ sym tail) ∙ sym s) ∙ sym r) ∙ sym q) in
    all ∙ sym p

-- ---- the parameters

-- the columns of the parameters
pub params_taken : (cs : List Cell) → TakeFrom cs 0 option_forms → TakeFrom cs 1 parameter_forms
params_taken cs o = (
  o.1.0,
  (o.1.1.0, (o.1.1.1.0, (o.1.1.1.1.0, (o.1.1.1.1.1.0, (o.1.1.1.1.1.1.0, (o.1.1.1.1.1.1.1.0, tt)))))),
)

-- the column of the rule at DISCONNECT
pub rule_taken : (cs : List Cell) → TakeFrom cs 0 option_forms → IsRefill (cell_at cs 8)
rule_taken cs o = o.1.1.1.1.1.1.1.1.0

behind_one : (l : List Cell) (i : ℕ) → cell_at (drop 1 l) i ≡ cell_at l (1 + i)
behind_one [] i = refl
behind_one (c ∷ l) i =
    let e : suc i ≡ 1 + i = omega arith in
    ap (λ n. cell_at (c ∷ l) n) e

seen : (l : List Cell) (i : ℕ) → i < 7 → cell_at (take 7 (drop 1 l)) i ≡ cell_at l (1 + i)
seen l i less = get_or-take 7 (drop 1 l) i cell.Empty less ∙ behind_one l i

front_cell : (a rest : List Cell) (k : ℕ) → k < length a → cell_at (a ++ rest) k ≡ cell_at a k
front_cell [] rest k less = absurd (omega (arith, less))
front_cell (c ∷ a) rest zero less = refl
front_cell (c ∷ a) rest (suc k) less = front_cell a rest k (omega (arith, less))

-- parameters, place by place
pub params_there : (cs options rest : List Cell) (p : ParamsState) → cs ≡ options ++ rest → 7 < length options
    → parameter_cells p ≡ take 7 (drop 1 cs) → EqualFrom options 1 (parameter_cells p)
params_there cs options rest p cut long is =
    let at : (k : ℕ) → k < 7 → cell_at (parameter_cells p) k ≡ cell_at options (1 + k) =
    λ k less. ap (λ l. cell_at l k) is ∙ seen cs k less ∙ ap (λ (l : List Cell). cell_at l (1 + k)) cut
    ∙ front_cell options rest (1 + k) (omega (arith, less, long)) in (
      at 0 (omega arith),
      (
        at 1 (omega arith),
        (
          at 2 (omega arith),
          (at 3 (omega arith), (at 4 (omega arith), (at 5 (omega arith), (at 6 (omega arith), tt)))),
        ),
      ),
    )
