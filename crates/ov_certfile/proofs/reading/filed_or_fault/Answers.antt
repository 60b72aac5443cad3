-- A text has one meaning only.
use Rattle.std.proofs.Common.{Ok, Err}
use Rattle.ov_certfile.proofs.OneAnswer.{text_one}
use Rattle.ov_certfile.proofs.reading.filed_or_fault.Goals as goal

pub returns-in-Ok-clause-only : goal.returns-in-Ok-clause-only
returns-in-Ok-clause-only c = λ answer told h.
    text_one c.args.newest c.args.text.now answer (Ok c.in-Ok.filed) h c.in-Ok.ensures.filed

pub returns-in-Err-clause-only : goal.returns-in-Err-clause-only
returns-in-Err-clause-only c = λ answer told h.
    text_one c.args.newest c.args.text.now answer (Err c.in-Err.refusal.fault) h
    (c.in-Err.ensures.fault (λ e. told (cc)))
