use Rattle.std.proofs.Common.{◌≡◌, [], ◌++◌, ◌∙◌, ap, sym}
use Rattle.std.proofs.lemmas.List.{append-nil, nil_from_length}
use Rattle.ov_hall.proofs.driver_passes.Stand.join_all.Goals as goal

pub returns : goal.returns
returns g c =
    let rest = c.loop-pass.pass-iterator.rest in
    let gone : rest.items ≡ [] = nil_from_length rest.items (sym rest.ok.0 ∙ c.in-None.ensures.steps.0) in
    sym (append-nil c.loop-pass.self) ∙ (ap (λ r. c.loop-pass.self ++ r) (sym gone) ∙ c.loop-pass.invariant)
