use Rattle.std.proofs.Common.{ap, sym, ◌∙◌}
use Rattle.std.specs.FinMap as map
use Rattle.ov_plum.specs.Code.Waiting.{waiting_in, waiting_asked}
use Rattle.ov_plum.proofs.InMap.{asked_is, none_asked}
use Rattle.ov_plum.proofs.waiting.Waiting.take_oldest.Goals as goal

pub returns-in-None-clause-ok : goal.returns-in-None-clause-ok
returns-in-None-clause-ok c =
    sym c.self.view_is ∙ none_asked _ c.args.id (sym c.in-None.ensures) ∙ ap (waiting_asked c.args.id) c.self.view_is

pub returns-clause-ok : goal.returns-clause-ok
returns-clause-ok c =
    ap waiting_in (c.in_ok-insert.ensures.ok
    ∙ ap (map.insert c.self.inside.by_id c.args.id) c.in_ok-senders-in-Some.ensures)
    ∙ asked_is _ c.args.id _ (sym c.in-Some.ensures) ∙ ap (waiting_asked c.args.id) c.self.view_is
