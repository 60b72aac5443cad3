use Rattle.std.proofs.Common.{ap, ◌∙◌, rules}
use Rattle.std.proofs.lemmas.Fn.{filter_same}
use Rattle.ov_ids.specs.Sets.{without}
use Rattle.ov_plum.proofs.ihave_senders.Senders.forget.Goals as goal

pub returns : goal.returns
returns c = filter_same _ _ _ (λ x b f k. search rules) _ _ c.retain.ensures.filtered
    ∙ ap (without c.args.sender) c.self.view_is
