-- The line of one row more goes to the writer.
use Rattle.std.proofs.Common.{◌∙◌, ap, arith, List, subst, ℕ}
use Rattle.std.specs.Io.KnownBytes.{Appends}
use Rattle.ov_io.specs.Device.{AppendsPrefixOf}
use Rattle.ov_sweep_rows.specs.Writing.{row_line}
use Rattle.ov_grow_commands.proofs.Lines.{more, part}
use Rattle.ov_grow_commands.proofs.row_printing.write_rows.Goals as goal

pub loop-row-preserved : goal.loop-row-preserved
loop-row-preserved g c =
    let failed = c.in_ok-write_all.ensures.faults in
    let before = c.loop-row.invariant.faults in
    record {
      faults = omega (arith, failed, before);
      lines =
          more (row_line c.args.form) c.args.rows.now c.loop-row.row-index _ _ _ _ c.loop-row-test.true
          c.loop-row.invariant.lines
          (subst (λ (text : List ℕ). Appends (g.W.Write.contents c.loop-row.sink.writer)
          (g.W.Write.contents c.write_all.new.self.writer) text)
          (c.deref.ensures.value ∙ c.in_ok-text.ensures.text ∙ ap (row_line c.args.form) c.row-item.is)
          c.in_ok-write_all.ensures.bytes);
    }

pub returns-in_err-write_all-clause-prefix : goal.returns-in_err-write_all-clause-prefix
returns-in_err-write_all-clause-prefix g c =
    part (row_line c.args.form) c.args.rows.now c.loop-row.row-index _ _ _ _ c.loop-row-test.true
    c.loop-row.invariant.lines
    (subst (λ (text : List ℕ). AppendsPrefixOf text (g.W.Write.contents c.loop-row.sink.writer)
    (g.W.Write.contents c.write_all.new.self.writer))
    (c.deref.ensures.value ∙ c.in_ok-text.ensures.text ∙ ap (row_line c.args.form) c.row-item.is)
    c.in_err-write_all.ensures.prefix)
