-- All are written, and all read back.
use Rattle.std.proofs.Common.{refl, drop}
use Rattle.std.proofs.lemmas.List.{drop_all}
use Rattle.ov_certfile.proofs.Listed.{all_back, list_written}
use Rattle.ov_certfile.proofs.value_writing.write_list.Goals as goal

pub loop-field-init : goal.loop-field-init
loop-field-init g c = record { text = refl; back = λ h. h }

pub returns-clause-text : goal.returns-clause-text
returns-clause-text g c =
    let l = c.loop-field in
    list_written g.T.Field.as_data c.args.fields.now (drop l.field-index c.args.fields.now) l.later _ _ _ _
    (drop_all _ _ c.loop-field-test.false) c.in_ok-write_mark.ensures l.invariant.text
    c.in_ok-write_mark-2.ensures

pub returns-clause-reads_back : goal.returns-clause-reads_back
returns-clause-reads_back g c =
    let l = c.loop-field in
    all_back g.T.Field.form g.T.Field.as_data c.args.fields.now (drop l.field-index c.args.fields.now)
    (drop_all _ _ c.loop-field-test.false) l.invariant.back
