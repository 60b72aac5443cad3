-- One more id.
use Rattle.std.proofs.Common.{◌∙◌, sym}
use Rattle.ov_cert.proofs.Validity.SetFlaws.{is_node, refused, left, risen, entered}
use Rattle.ov_cert.proofs.node_set.node_set.Goals as goal

pub returns-then-not-enter-clause-flaw : goal.returns-then-not-enter-clause-flaw
returns-then-not-enter-clause-flaw c =
    let g = c.args.graph.now in
    let ids = c.args.ids.now in
    let p = c.loop-at.at in
    let x = c.index-ids-at.result in
    let r = c.loop-at.invariant.risen in
    let node = is_node g ids c.loop-at.before p x c.loop-at-test.true c.index-ids-at.is r c.in_default.ensures
    c.loop-at.set c.enter.result c.loop-at.invariant.set c.enter.ensures.fresh in
    sym c.loop-at.invariant.left ∙ refused g ids c.loop-at.before p x c.loop-at-test.true c.index-ids-at.is r
    c.in_default.ensures (sym node ∙ c.if-not-enter.true)

pub loop-at-preserved : goal.loop-at-preserved
loop-at-preserved c =
    let g = c.args.graph.now in
    let ids = c.args.ids.now in
    let before = c.loop-at.before in
    let p = c.loop-at.at in
    let x = c.index-ids-at.result in
    let within = c.loop-at-test.true in
    let is = c.index-ids-at.is in
    let r = c.loop-at.invariant.risen in
    let o = c.in_default.ensures in
    let s = c.loop-at.set in
    let b = c.enter.result in
    let on = c.if-not-enter.false in
    let node = sym (is_node g ids before p x within is r o s b c.loop-at.invariant.set c.enter.ensures.fresh) ∙ on in
    record {
      set = entered g ids before p x within is r o s c.enter.new.self b c.loop-at.invariant.set
          c.enter.ensures.entered on;
      risen = risen g ids before p x within is r o node;
      left = left g ids before p x within is r o node ∙ c.loop-at.invariant.left;
    }
