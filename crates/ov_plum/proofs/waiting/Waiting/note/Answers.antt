use Rattle.std.proofs.Common.{ap, sym, ◌∙◌}
use Rattle.std.specs.FinMap as map
use Rattle.ov_plum.specs.Code.Waiting.{waiting_in, waiting_noted}
use Rattle.ov_plum.proofs.InMap.{again_noted, more_noted, first_noted}
use Rattle.ov_plum.proofs.waiting.Waiting.note.Goals as goal
use Rattle.ov_plum.proofs.waiting.Waiting.note.Goals.{in-Some+else-contains+in_ok-senders-in-Some}
use Rattle.ov_plum.proofs.waiting.Waiting.note.Goals.{in-None+in_ok-senders-in-None}

pub returns-then-contains-clause-ok : goal.returns-then-contains-clause-ok
returns-then-contains-clause-ok c =
    let id = c.args.id in
    let s = c.args.sender in
    sym c.self.view_is ∙ again_noted _ id s _ (sym c.in-Some.ensures) (sym c.if-contains.ensures)
    ∙ ap (waiting_noted s id) c.self.view_is

pub returns-clause-ok : goal.returns-clause-ok
returns-clause-ok c =
    let id = c.args.id in
    let s = c.args.sender in
    elim c.match-get.branch [
      | in-Some+else-contains+in_ok-senders-in-Some w ↦
          ap waiting_in (c.in_ok-insert.ensures.ok
          ∙ (λ i. map.insert (w.self-inside-is i).by_id id ((w.senders-is ∙ w.in_ok-senders-in-Some.ensures) i)))
          ∙ more_noted _ id s _ (sym w.in-Some.ensures) (sym w.contains.ensures ∙ w.if-contains.false)
          ∙ ap (waiting_noted s id) c.self.view_is
      | in-None+in_ok-senders-in-None w ↦
          ap waiting_in (c.in_ok-insert.ensures.ok
          ∙ (λ i. map.insert (w.self-inside-is i).by_id id ((w.senders-is ∙ w.in_ok-senders-in-None.ensures) i)))
          ∙ first_noted _ id s (sym w.in-None.ensures) ∙ ap (waiting_noted s id) c.self.view_is
    ]
