use Rattle.std.proofs.Common.{ap, sym, ◌∙◌, Option, List, [], ℕ}
use Rattle.std.specs.Prelude.{slice_get}
use Rattle.std.specs.Option.{unwrap_or}
use Rattle.ov_plum.specs.Notes.{oldest}
use Rattle.ov_plum.specs.Code.Waiting.{WaitingState}
use Rattle.ov_plum.proofs.InMap.{oldest_in}
use Rattle.ov_plum.proofs.waiting.Waiting.oldest.Goals as goal

pub returns-in-Some : goal.returns-in-Some
returns-in-Some c =
    c.oldest.ensures ∙ ap (λ (o : Option (List ℕ)). slice_get (unwrap_or o []) 0) c.in-Some.ensures
    ∙ sym (oldest_in _ c.args.id.now)
    ∙ ap (λ (w : WaitingState). oldest c.args.id.now w.notes) c.self.view_is

pub returns-in-None : goal.returns-in-None
returns-in-None c =
    ap (λ (o : Option (List ℕ)). slice_get (unwrap_or o []) 0) c.in-None.ensures ∙ sym (oldest_in _ c.args.id.now)
    ∙ ap (λ (w : WaitingState). oldest c.args.id.now w.notes) c.self.view_is
