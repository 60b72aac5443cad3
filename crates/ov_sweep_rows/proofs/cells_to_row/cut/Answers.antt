use Rattle.ov_sweep_rows.proofs.Rebuilding.{cut_off, cut_on, too_long}
use Rattle.ov_sweep_rows.proofs.cells_to_row.cut.Goals as goal

pub returns-then-not-asked : goal.returns-then-not-asked
returns-then-not-asked c = λ xs ys long fits. cut_off c.args.asked c.args.cells.now xs ys c.if-not-asked.true fits

pub returns-then-count-cells : goal.returns-then-count-cells
returns-then-count-cells c = λ xs ys long fits.
    absurd (too_long c.args.asked c.args.count c.args.cells.now xs ys c.if-not-asked.false long c.if-count-cells.true fits)

pub returns : goal.returns
returns c = λ xs ys long fits.
    cut_on c.args.asked c.args.count c.args.cells.now c.split_at.result.0.now c.split_at.result.1.now xs ys
    c.if-not-asked.false long c.split_at.ensures.front c.split_at.ensures.back fits
