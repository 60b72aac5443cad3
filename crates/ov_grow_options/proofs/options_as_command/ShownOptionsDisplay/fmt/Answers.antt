-- One more option is written behind those before it.
use Rattle.std.proofs.Common.{[], inl, inr, refl}
use Rattle.std.specs.Fmt.{HasWritten}
use Rattle.std.proofs.Output.{has_written_append, has_written_of_eq}
use Rattle.std.proofs.lemmas.List.{flat_map_more}
use Rattle.ov_grow_options.proofs.Showing.{shown_all, shown_more, text_of}
use Rattle.ov_grow_options.proofs.options_as_command.ShownOptionsDisplay.fmt.Goals as goal

pub loop-row-preserved : goal.loop-row-preserved
loop-row-preserved g c = record {
  written = λ plain.
      let before = c.loop-row.invariant.written plain in
      let one : HasWritten g.W.Write.write_str_gives c.loop-row.f (text_of (c.in-Some.row, c.in-Some.value))
      c.write.new.self = c.in_ok-write.ensures.writes before.plain refl in
      has_written_of_eq _ _ _ _ _ (flat_map_more text_of [] c.loop-row.yielded (c.in-Some.row, c.in-Some.value))
      (has_written_append _ _ _ _ _ _ before one);
  whole =
      shown_more c.loop-row.yielded c.in-Some.row c.in-Some.value c.loop-row.row-iterator.a.rest.now
      c.next.new.self.a.rest.now c.loop-row.row-iterator.b.rest.now c.next.new.self.b.rest.now _
      c.in-Some.ensures.steps.0 c.in-Some.ensures.steps.1 c.loop-row.invariant.whole;
}

pub returns-clause-writes : goal.returns-clause-writes
returns-clause-writes g c = λ plain ok.
    has_written_of_eq _ _ _ _ _
    (shown_all _ c.loop-row.row-iterator.a.rest.now c.loop-row.row-iterator.b.rest.now _
    (elim c.in-None.ensures.steps [ inl rows ↦ inl rows.1.0 | inr values ↦ inr values.1.0 ])
    c.loop-row.invariant.whole)
    (c.loop-row.invariant.written plain)
