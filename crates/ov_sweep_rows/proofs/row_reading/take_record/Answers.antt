use Rattle.std.proofs.Common.{◌∙◌, inl, inr, refl, sym}
use Rattle.std.proofs.lemmas.Bool.{false≢true}
use Rattle.ov_sweep_rows.proofs.Taking.{on_ok, untaken}
use Rattle.ov_sweep_rows.proofs.row_reading.take_record.Goals as goal

pub returns-then-are_same-clause-taken : goal.returns-then-are_same-clause-taken
returns-then-are_same-clause-taken c =
    inl (
      c.if-are_same.ensures.0 refl ∙ c.requires.names,
      refl,
    )

pub returns-in-Ok-clause-taken : goal.returns-in-Ok-clause-taken
returns-in-Ok-clause-taken c =
    on_ok c.push_row.result _ _
    (λ added. inr (
      λ is. false≢true (c.if-are_same.ensures.1
          (is ∙ sym c.requires.names)),
      c.in-Ok.row,
      c.in-Ok.ensures.row,
      added,
    ))
    c.push_row.ensures.added

pub returns-in-Err-clause-fault : goal.returns-in-Err-clause-fault
returns-in-Err-clause-fault c =
    untaken c.args.header.now.form _ c.in-Err.fault
    (λ is. false≢true (c.if-are_same.ensures.1
    (is ∙ sym c.requires.names)))
    c.in-Err.ensures.fault
