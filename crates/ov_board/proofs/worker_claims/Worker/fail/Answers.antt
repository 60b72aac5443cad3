use Rattle.std.proofs.Common.{ℕ, ◌-◌, List, length, slice_get, ap, ◌∙◌}
use Rattle.ov_board.proofs.Behind.{failing_pushes, failing_rests}
use Rattle.ov_board.proofs.worker_claims.Worker.fail.Goals as goal

pub returns-in_ok-push-clause-ok : goal.returns-in_ok-push-clause-ok
returns-in_ok-push-clause-ok c =
    let place = ap (λ (xs : List ℕ). slice_get xs (length xs - 1)) c.deref.ensures.value in
    failing_pushes _ _ _ c.args.number c.copied.result c.ne.result c.self.view_is c.requires.ascends c.requires.last
    (c.copied.ensures ∙ c.last.ensures.value ∙ place) c.ne.ensures c.if-ne.true c.in_ok-push.ensures.items

pub returns-else-ne-clause-ok : goal.returns-else-ne-clause-ok
returns-else-ne-clause-ok c =
    let place = ap (λ (xs : List ℕ). slice_get xs (length xs - 1)) c.deref.ensures.value in
    failing_rests _ _ c.args.number c.copied.result c.ne.result c.self.view_is c.requires.ascends
    (c.copied.ensures ∙ c.last.ensures.value ∙ place) c.ne.ensures c.if-ne.false
