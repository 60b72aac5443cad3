use Rattle.std.proofs.Common.{arith}
use Rattle.ov_grow_options.specs.Limits.{most_nodes, most_of_hundred, most_rounds, most_share}
use Rattle.ov_sweep_rows.specs.Cells.{most_short}
use Rattle.ov_sweep_rows.proofs.ReadBack.{between_back, number_back, read_all, read_more, refill_back, order_back}
use Rattle.ov_sweep_rows.proofs.row_cells.setting_cells.Goals as goal

pub returns-clause-back : goal.returns-clause-back
returns-clause-back c =
    let p = c.active.ensures.limits in
    let high = p.active_high in
    let passive = p.passive_high in
    let walk = p.arwl_high in
    let shorter = p.prwl_high in
    let ka = p.ka_high in
    let kp = p.kp_high in
    let ttl = p.shuffle_ttl_high in
    let nodes = c.get.ensures.most in
    let a = c.get-2.ensures.most in
    let b = c.get-3.ensures.most in
    let r = c.get-4.ensures.most in
    let s = c.get-5.ensures.most in
    let h = c.get-6.ensures.most in
    let t = c.get-7.ensures.most in
    read_more _ _ _ _ _ _ (between_back 1 most_nodes c.get.result c.number.result c.number.ensures.cell
    c.get.ensures.least nodes
    (omega (arith, nodes)))
    (read_more _ _ _ _ _ _ (number_back 0 most_short c.active.result (omega arith)
    (omega (arith, c.active.ensures.value, high)) (omega arith))
    (read_more _ _ _ _ _ _ (number_back 0 most_short c.passive.result (omega arith)
    (omega (arith, c.passive.ensures.value, passive)) (omega arith))
    (read_more _ _ _ _ _ _ (number_back 0 most_short c.from.result (omega arith)
    (omega (arith, c.from.ensures, c.arwl.ensures.value, walk)) (omega arith))
    (read_more _ _ _ _ _ _ (number_back 0 most_short c.from-2.result (omega arith)
    (omega (arith, c.from-2.ensures, c.prwl.ensures.value, walk, shorter)) (omega arith))
    (read_more _ _ _ _ _ _ (number_back 0 most_short c.ka.result (omega arith) (omega (arith, c.ka.ensures.value, ka))
    (omega arith))
    (read_more _ _ _ _ _ _ (number_back 0 most_short c.kp.result (omega arith) (omega (arith, c.kp.ensures.value, kp))
    (omega arith))
    (read_more _ _ _ _ _ _ (number_back 0 most_short c.from-3.result (omega arith)
    (omega (arith, c.from-3.ensures, c.shuffle_ttl.ensures.value, ttl)) (omega arith))
    (read_more _ _ _ _ _ _ (refill_back c.refill.result)
    (read_more _ _ _ _ _ _ (between_back 0 most_of_hundred c.get-2.result c.number-2.result
    c.number-2.ensures.cell (omega arith) a (omega (arith, a)))
    (read_more _ _ _ _ _ _ (between_back 0 most_of_hundred c.get-3.result c.number-3.result
    c.number-3.ensures.cell (omega arith) b (omega (arith, b)))
    (read_more _ _ _ _ _ _ (between_back 0 most_share c.get-4.result c.number-4.result c.number-4.ensures.cell
    (omega arith) r (omega (arith, r)))
    (read_more _ _ _ _ _ _ (order_back c.args.options.now.order)
    (read_more _ _ _ _ _ _ c.pace_cell.ensures.back
    (read_more _ _ _ _ _ _ (between_back 0 most_rounds c.get-5.result c.number-5.result c.number-5.ensures.cell
    (omega arith) s (omega (arith, s)))
    (read_more _ _ _ _ _ _ c.crash_cell.ensures.back
    (read_more _ _ _ _ _ _ (between_back 0 most_rounds c.get-6.result c.number-6.result c.number-6.ensures.cell
    (omega arith) h (omega (arith, h)))
    (read_more _ _ _ _ _ _ (between_back 0 most_rounds c.get-7.result c.number-7.result c.number-7.ensures.cell
    (omega arith) t (omega (arith, t)))
    read_all)))))))))))))))))
