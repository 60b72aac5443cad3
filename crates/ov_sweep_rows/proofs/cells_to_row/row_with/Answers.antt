use Rattle.std.proofs.Common.{◌≡◌, ◌++◌, ◌∙◌, [], None, ap, arith, refl, subst, sym}
use Rattle.ov_ids.specs.ParamsState.{AreWithinLimits, ParamsState}
use Rattle.ov_sweep_rows.specs.Cells.{further_cells, phase_cells}
use Rattle.ov_sweep_rows.specs.Columns.{if_asked}
use Rattle.ov_sweep_rows.specs.PhaseCosts.{cost_cells}
use Rattle.ov_sweep_rows.specs.PhaseShape.{shape_cells}
use Rattle.ov_sweep_rows.specs.Code.Groups.{thrice}
use Rattle.ov_sweep_rows.specs.Code.Written.{cost_forms, further_forms, option_forms, phase_forms, shape_forms}
use Rattle.ov_sweep_rows.proofs.Gathering.{all_three}
use Rattle.ov_sweep_rows.proofs.Rebuilding.{costs_long, grouped, made, made_asked, made_thrice, params_taken}
use Rattle.ov_sweep_rows.proofs.Rebuilding.{params_there, rebuilt, rule_taken, shape_long}
use Rattle.ov_sweep_rows.proofs.cells_to_row.row_with.Goals as goal

pub returns-in-Some-clause-cells : goal.returns-in-Some-clause-cells
returns-in-Some-clause-cells c =
    let f = c.args.form in
    let cs = c.args.found.now in
    let shapes = if_asked f.shape (thrice shape_forms) in
    let costs = if_asked f.costs (thrice cost_forms) in
    let p = c.cut.ensures option_forms
    (thrice phase_forms ++ (if_asked f.further further_forms ++ (costs ++ (shapes ++ [])))) refl
    (grouped f cs c.requires) in
    let q = c.cut_thrice-own.ensures phase_forms (if_asked f.further further_forms ++ (costs ++ (shapes ++ []))) refl
    p.behind in
    let r = c.cut-2.ensures further_forms (costs ++ (shapes ++ [])) refl q.behind in
    let s = c.cut_thrice-costs.ensures cost_forms (shapes ++ []) refl r.behind in
    let t = c.cut_thrice-shape.ensures shape_forms [] refl s.behind in
    let o = c.options_with.result in
    let a = c.phase_with.result in
    let b = c.phase_with-in-Some.result in
    let d = c.phase_with-in-Some-2.result in
    let first = c.phase_with.ensures in
    let second = c.phase_with-in-Some.ensures in
    let third = c.phase_with-in-Some-2.ensures in
    let own = q.fits refl in
    let options = p.fits refl in
    let params = c.in-Some.ensures.cells (params_taken c.cut.result.0.now options.taken) in
    let rule = c.in-Some.ensures.rule (rule_taken c.cut.result.0.now options.taken) in
    rebuilt f o a b d cs _ _ _ _ _ _ _ _ _ _
    (record {
      options_are = made _ _ option_forms refl options (λ taken. c.options_with.ensures.cells taken params rule);
      own_are = made_thrice _ _ _ _ _ _ (made _ (phase_cells a) phase_forms refl own.0 first.cells)
          (made _ (phase_cells b) phase_forms refl own.1 second.cells)
          (made _ (phase_cells d) phase_forms refl own.2 third.cells);
      further_are = made_asked f.further _ (further_cells o)
          (λ e. made _ _ further_forms refl (r.fits e) (c.options_with.ensures.further e)) r.none;
      costs_are = made_asked f.costs _ _ (λ e. made_thrice _ _ _ _ _ _
          (made _ (cost_cells a.costs) cost_forms (costs_long a.costs) (s.fits e).0 (first.costs e))
          (made _ (cost_cells b.costs) cost_forms (costs_long b.costs) (s.fits e).1 (second.costs e))
          (made _ (cost_cells d.costs) cost_forms (costs_long d.costs) (s.fits e).2 (third.costs e))) s.none;
      shapes_are = made_asked f.shape _ _ (λ e. made_thrice _ _ _ _ _ _
          (made _ (shape_cells a.shape) shape_forms (shape_long a.shape) (t.fits e).0 (first.shape e))
          (made _ (shape_cells b.shape) shape_forms (shape_long b.shape) (t.fits e).1 (second.shape e))
          (made _ (shape_cells d.shape) shape_forms (shape_long d.shape) (t.fits e).2 (third.shape e))) t.none;
    })
    p.whole q.whole r.whole s.whole t.whole t.behind

pub returns-in-Some-clause-within : goal.returns-in-Some-clause-within
returns-in-Some-clause-within c =
    subst (λ (p : ParamsState). AreWithinLimits p) (sym c.options_with.ensures.params) c.in-Some.ensures.within

pub returns-in-Some-clause-no_more : goal.returns-in-Some-clause-no_more
returns-in-Some-clause-no_more c =
    let first = c.phase_with.ensures in
    let second = c.phase_with-in-Some.ensures in
    let third = c.phase_with-in-Some-2.ensures in
    record {
      alone = c.options_with.ensures.alone;
      chosen = c.options_with.ensures.chosen;
      learned = c.options_with.ensures.learned;
      unpriced = λ e. all_three (λ p. p.costs ≡ None) c.phase_with.result c.phase_with-in-Some.result
          c.phase_with-in-Some-2.result (first.unpriced e) (second.unpriced e) (third.unpriced e);
      shapeless = λ e. all_three (λ p. p.shape ≡ None) c.phase_with.result c.phase_with-in-Some.result
          c.phase_with-in-Some-2.result (first.shapeless e) (second.shapeless e) (third.shapeless e);
      unscaled = ap (λ (p : ParamsState). p.scale) c.options_with.ensures.params ∙ c.in-Some.ensures.unscaled;
    }

pub returns-in-None-clause-none : goal.returns-in-None-clause-none
returns-in-None-clause-none c p is within =
    let f = c.args.form in
    let cs = c.args.found.now in
    let shapes = if_asked f.shape (thrice shape_forms) in
    let costs = if_asked f.costs (thrice cost_forms) in
    let cut = c.cut.ensures option_forms
    (thrice phase_forms ++ (if_asked f.further further_forms ++ (costs ++ (shapes ++ [])))) refl
    (grouped f cs c.requires) in
    let options = cut.fits refl in
    let long = options.long in
    c.in-None.ensures.none (params_taken c.cut.result.0.now options.taken) p
    (params_there cs c.cut.result.0.now c.cut.result.1.now p cut.whole (omega (arith, long)) is) within
