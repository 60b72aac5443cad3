-- Lists of ids that compare as equal are equal.
use Rattle.std.proofs.Common.{◌∙◌, sym, ap}
use Rattle.std.proofs.lemmas.Bool.Decides.{Decides-eqb}
use Rattle.std.proofs.lemmas.Slice.Eq.{slice_eq-Decides}
use Rattle.ov_cert.specs.State.{CheckedState}
use Rattle.ov_run.proofs.recent_analyses_to_reuse.has_group.Goals as goal

pub returns : goal.returns
returns c = slice_eq-Decides Decides-eqb c.args.report.now.members c.args.group.now c.eq.result
    (rw (sym (c.members.ensures.members ∙ ap (λ (s : CheckedState). s.members) c.checked.ensures)) c.eq.ensures)
